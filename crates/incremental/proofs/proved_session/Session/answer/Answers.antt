use Rattle.std.proofs.Common.{◌<◌, ◌≤◌, ◌^◌, ◌∙◌, ◌++◌, ◌∷◌, List, [], ℕ, ap, map, arith}
use Rattle.lrat_text.specs.Runs.{text_of}
use Rattle.cube_solve.specs.Session.{last_of}
use Rattle.sessions.specs.Texts.{lines_top}
use Rattle.incremental.specs.SessionHistory.{vars_in}
use Rattle.incremental.specs.inner.LidrupLines.{line_said, listed_text}
use Rattle.incremental.proofs.AppendLemmas.{grows_all, grows_closed, grows_on}
use Rattle.incremental.proofs.LogLemmas.{plain_steps}
use Rattle.incremental.proofs.LineLemmas.{asked_read, given_limits, listed_bare, one}
use Rattle.incremental.proofs.HistoryLemmas.{lines_low, short, stands_answered, vars_in_lines}
use Rattle.incremental.proofs.proved_session.Session.answer.Goals as goal

pub write_answer-requires : goal.write_answer-requires
write_answer-requires g c = short 199999999 c.args.self.now c.in_ok-answer.answer (c.requires.fit).few c.in_ok-answer.ensures.over

pub returns-clause-stands : goal.returns-clause-stands
returns-clause-stands g c = λ L E told text h.
    let s = c.args.self.now in
    let few : vars_in s ≤ lines_top L = vars_in_lines L (vars_in s) h.few in
    let low : lines_top L ≤ 199999999 = lines_low L h.valid in
    let small : lines_top L < 2 ^ 48 = omega arith in
    let A = c.args.query.now in
    let a = c.in_ok-answer.ensures in
    let l = c.take_log-log.ensures in
    let u = record s { search = c.take_log-log.new.self; out = c.write_answer.new.out; scratch = record c.put_log.new.self { line = c.write_answer.new.line } } in
    let limits = given_limits (vars_in s) (lines_top L) 1 A one few c.requires.within in
    stands_answered E told text A c.in_ok-answer.answer s u c.ask.new.self c.put_listed.new.out.items c.put_log.new.out.items c.take_log-log.result
    c.requires.within (l.vars ∙ a.vars) (λ F k. l.given F (a.given F k)) l.empty l.last
    (record { line = listed_text 113 A; bare = listed_bare (lines_top L) small 113 A limits (λ x. cc); read = asked_read (lines_top L) small A limits; text = c.in_ok-put_listed.ensures })
    a.tells l.known l.text (λ top steps e plain. c.in_ok-put_log.ensures (lines_top L) top steps low e plain)
    (c.in_ok-write_answer.ensures (lines_top L) low (short (lines_top L) s c.in_ok-answer.answer few a.over)) a.answer a.failed h

pub returns-clause-grows : goal.returns-clause-grows
returns-clause-grows g c = λ L E told text h.
    let s = c.args.self.now in
    let r = h.reader in
    let first = c.put_listed.new.out.items in
    let second = c.put_log.new.out.items in
    let t = c.in_ok-answer.ensures.tells r.given r.live h.known in
    let spelled = c.take_log-log.ensures.text ∙ t.text ∙ ap (λ (x : List ℕ). x ++ text_of (last_of s.search) t.steps) h.told_all in
    let all = c.in_ok-put_log.ensures 199999999 (last_of s.search) t.steps (omega arith) spelled (plain_steps (vars_in s) 199999999 (c.requires.fit).few r.given r.live (last_of s.search) t.steps t.right) in
    grows_on s.out.items first c.write_answer.new.out.items (listed_text 113 c.args.query.now ++ 10 ∷ [], c.in_ok-put_listed.ensures)
    (grows_on first second c.write_answer.new.out.items (grows_all 199999999 (map line_said t.steps) first second all) (grows_closed 199999999 c.in_ok-answer.answer second c.write_answer.new.out.items (c.in_ok-write_answer.ensures 199999999 (omega arith) (short 199999999 s c.in_ok-answer.answer (c.requires.fit).few c.in_ok-answer.ensures.over))))

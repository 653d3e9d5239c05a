use Rattle.std.proofs.Common.{ℕ, ◌<◌, ◌≤◌, ◌^◌, Ok, sym, subst, arith}
use Rattle.std.proofs.lemmas.Result.{on_ok_weaker}
use Rattle.lrat_text.specs.Grammar.{IsClauseNumber}
use Rattle.sessions.specs.Lines.{Gives}
use Rattle.sessions.specs.Texts.{lines_top}
use Rattle.incremental.specs.SessionHistory.{vars_in}
use Rattle.incremental.specs.inner.LidrupLines.{AppendsLine, given_text}
use Rattle.incremental.proofs.LineLemmas.{given_bare, given_limits, given_read}
use Rattle.incremental.proofs.HistoryLemmas.{lines_low, stands_given, vars_in_lines}
use Rattle.incremental.proofs.proved_session.Session.give.Goals as goal

pub returns-clause-stands : goal.returns-clause-stands
returns-clause-stands g c = on_ok_weaker c.put_given.result
    (λ put L E told text h.
    let few : vars_in c.args.self.now ≤ lines_top L = vars_in_lines L (vars_in c.args.self.now) h.few in
    let low : lines_top L ≤ 199999999 = lines_low L h.valid in
    let small : lines_top L < 2 ^ 48 = omega arith in
    let e = c.in_ok-give.ensures in
    let s = c.args.self.now in
    let u = record s { search = c.give.new.self; out = c.put_given.new.out; scratch = record s.scratch { line = c.put_given.new.line } } in
    let C = c.args.clause.now in
    let limits = given_limits (vars_in s) (lines_top L) c.last-id.result C (subst IsClauseNumber (sym c.last-id.ensures) e.number) few c.requires.within in
    stands_given E told text C s u e.vars e.last e.log c.requires.within e.given e.known
    (subst (λ (id : ℕ). AppendsLine (lines_top L) (Ok (Gives id C)) s.out.items u.out.items) c.last-id.ensures
    (record { line = given_text c.last-id.result C; bare = given_bare (lines_top L) small c.last-id.result C limits; read = given_read (lines_top L) small c.last-id.result C limits; text = put }))
    h)
    c.put_given.ensures

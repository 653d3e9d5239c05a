use Rattle.std.proofs.Common.{◌≡◌, ◌++◌, ◌∙◌, ℕ, None, subst, sym}
use Rattle.lidrup.specs.CubeLog.{IsClosed}
use Rattle.lidrup.specs.Lidrup.{IsClosing}
use Rattle.lidrup.proofs.ClosingLemmas.{closes_cube, closes_text, match_weaker, true_of}
use Rattle.lidrup.proofs.LogLemmas.{no_fault}
use Rattle.lidrup.proofs.cube_log.CubeLog.closes.Goals as goal

pub returns-clause-closes : goal.returns-clause-closes
returns-clause-closes c =
    let x = c.args.self.now in
    let q = c.args.cube.now in
    let number = c.closing_of.result in
    true_of c.has_closing.result (IsClosing x.lines.known.log.checker.base x.lines.known.log.checker.live number q) _ _
    (λ k F bytes handed h. closes_cube F q (handed ++ x.lines.out.items) x.lines.known.log.checker number (h.log (no_fault x.fault (sym c.is_some.ensures ∙ c.if-is_some.false))) k) c.has_closing.ensures

pub returns-clause-text : goal.returns-clause-text
returns-clause-text c = λ F bytes handed e s.
    let x = c.args.self.now in
    let q = c.args.cube.now in
    let query = c.args.query in
    let r = c.has_closing.result in
    let closing : ℕ → Type 0 = λ (n : ℕ). IsClosing x.lines.known.log.checker.base x.lines.known.log.checker.live n q in
    let fine : x.fault ≡ None = no_fault x.fault (sym c.is_some.ensures ∙ c.if-is_some.false) in
    closes_text F bytes handed x query q r e s
    (match_weaker r (closing c.closing_of.result) (¬ (closing c.closing_of.result)) (IsClosed x query q) (¬ (IsClosed x query q))
    (λ k. record { fine = fine; closing = subst closing c.closing_of.ensures k }) (λ not k. not (subst closing (sym c.closing_of.ensures) k.closing)) c.has_closing.ensures)

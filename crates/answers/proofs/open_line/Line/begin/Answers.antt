use Rattle.std.proofs.Common.{◌==◌, ◌≡◌, ◌<◌, Err, false, length, drop, refl, ap, subst, sym, ◌∙◌, arith}
use Rattle.std.proofs.lemmas.Bool.Decides.{nat_tests}
use Rattle.std.proofs.lemmas.Result.{err_from_is_err_and}
use Rattle.std.proofs.lemmas.List.Elements.{All-drop, All-nil, All-take}
use Rattle.dimacs.specs.inner.Pieces.{IsOpen}
use Rattle.answers.specs.inner.Lines.{begun_text}
use Rattle.answers.proofs.LineLemmas.{at_err, begins_all, cons_front, first_refused, open_text}
use Rattle.answers.proofs.open_line.Line.begin.Goals as goal

pub returns-in_err-begun-clause-read : goal.returns-in_err-begun-clause-read
returns-in_err-begun-clause-read c =
    let p = err_from_is_err_and c.from_residual.result c.from_residual.ensures.1 in
    let some : 0 < length c.args.part.now = grind (arith, nat_tests) in
    at_err c.from_residual.result _ _ c.in_err-begun.field-0.0 (p.1 ∙ ap Err p.2)
    (first_refused c.args.number c.args.values.now c.args.part.now (drop 1 c.args.part.now) _ c.in_err-begun.field-0.0 (cons_front c.args.part.now _ some) c.in_err-begun.ensures)

pub returns-clause-read : goal.returns-clause-read
returns-clause-read c =
    let some : 0 < length c.args.part.now = grind (arith, nat_tests) in
    begins_all c.args.number c.args.values.now c.go_on.new.values c.args.part.now _ c.clear.new.self.items (begun_text c.in_ok-begun.begun c.go_on.new.token.items) c.in_ok-begun.begun _ c.go_on.result some refl c.clear.ensures.items
    c.in_ok-begun.ensures c.go_on.ensures.read

pub returns-clause-open : goal.returns-clause-open
returns-clause-open c =
    let none = subst IsOpen (sym c.clear.ensures.items) (All-nil (λ b. (b == 10) ≡ false)) in
    open_text c.in_ok-begun.begun c.go_on.new.token.items (c.go_on.ensures.open none (All-take (λ b. (b == 10) ≡ false) _ _ (All-drop (λ b. (b == 10) ≡ false) 1 c.args.part.now c.requires.open)))

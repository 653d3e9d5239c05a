use Rattle.std.proofs.Common.{[], ◌∷◌, ◌++◌, get_or, set, sym, ◌∙◌, ap, subst}
use Rattle.dimacs.specs.logic.Literal.{Clause, index_of}
use Rattle.cube_solve.specs.inner.Marks.{AreMarks}
use Rattle.cube_solve.proofs.MarkLemmas.{marks_skip, marks_keep}
use Rattle.cube_solve.proofs.base_loader.push_distinct.Goals as goal

pub returns-then-stamps-place-clause-marks : goal.returns-then-stamps-place-clause-marks
returns-then-stamps-place-clause-marks c = λ seen h.
    marks_skip seen c.args.kept.now.items c.args.stamps.now c.args.stamp c.args.literal h
    (ap (λ i. get_or c.args.stamps.now i 0) (sym c.index-place.ensures.value) ∙ c.if-stamps-place.true)

pub returns-clause-marks : goal.returns-clause-marks
returns-clause-marks c = λ seen h.
    subst (λ i. AreMarks (seen ++ c.args.literal ∷ []) c.push.new.self.items (set c.args.stamps.now i c.args.stamp) c.args.stamp) (sym c.index-place.ensures.value)
    (subst (λ (xs : Clause). AreMarks (seen ++ c.args.literal ∷ []) xs (set c.args.stamps.now (index_of c.args.literal) c.args.stamp) c.args.stamp) (sym c.in_ok-push.ensures.items)
    (marks_keep seen c.args.kept.now.items c.args.stamps.now c.args.stamp c.args.literal h c.requires
    (λ e. c.if-stamps-place.false (ap (λ i. get_or c.args.stamps.now i 0) c.index-place.ensures.value ∙ e))))

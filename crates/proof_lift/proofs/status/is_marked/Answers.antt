use Rattle.std.proofs.Common.{◌≡◌, ℕ, Bool, true, false, ◌||◌, ◌==◌, refl, ap, ◌∙◌}
use Rattle.std.specs.Prelude.{slice_index}
use Rattle.dimacs.specs.logic.Literal.{index_of}
use Rattle.proof_lift.proofs.status.is_marked.Goals as goal

or_same : (b : Bool) → b ≡ (b || b)
or_same true = refl
or_same false = refl

pub returns : goal.returns
returns c = ap (λ (i : ℕ). slice_index c.args.marks.now i == c.args.stamp) c.index.ensures.value ∙ or_same (slice_index c.args.marks.now (index_of c.args.l) == c.args.stamp)

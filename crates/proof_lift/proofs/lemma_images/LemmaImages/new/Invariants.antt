use Rattle.std.proofs.Common.{◌≡◌, ℕ, None}
use Rattle.proof_lift.specs.inner.Images.{image_in_maps}
use Rattle.proof_lift.proofs.lemma_images.LemmaImages.new.Given as goal

abbrev pub invariant-loop-i : goal.invariant-loop-i
invariant-loop-i l = (n : ℕ) → image_in_maps l.maps.items n ≡ None

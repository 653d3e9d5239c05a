-- The tables of a lifter as the values of which contracts speak.
use Rattle.std.specs.Prelude.{ℕ, List, Option, Some, None, map}
use Rattle.std.specs.BTreeMap.{BTreeMap}
use Rattle.proof_lift.specs.Stream.{Held}
use Rattle.proof_lift.specs.HintWalk.{ClauseImage, Gone, Kept}
use Rattle.proof_lift.specs.declared.lemma_images.LemmaImages.{LemmaImages}
use Rattle.proof_lift.specs.declared.lemma_images.LogLemma.{LogLemma}
use Rattle.proof_lift.specs.declared.step_lifter.StepLifter.{StepLifter}

-- the image of a lemma, from the table's entry
abbrev pub image_of_lemma : Option LogLemma → ClauseImage
image_of_lemma None = Gone
image_of_lemma (Some own) = Kept own.number own.literals.items

-- the live lemmas of a map, by foreign number, with their images
abbrev pub entries_of : BTreeMap ℕ (Option LogLemma) → List (ℕ × ClauseImage)
entries_of m = map (λ e. (e.0, image_of_lemma e.1)) m.entries

-- the live lemmas with their images, map by map
abbrev pub lemmas_of : LemmaImages → List (List (ℕ × ClauseImage))
lemmas_of x = map entries_of x.maps.items

-- the state between two lines, from the fields of a lifter
abbrev pub held_of : StepLifter → Held
held_of x = record {
  formula = x.images.formula;
  cube = x.cube.items;
  live = x.images.live.items;
  lemmas = lemmas_of x.images.lemmas;
  top = x.top;
  own = x.own;
  closed = x.closed;
}

-- The images in the code's tables.
use Rattle.std.specs.Prelude.{ℕ, ◌%◌, List, Option, Some, None, option_map, slice_get}
use Rattle.std.specs.Ordering.{nat_cmp}
use Rattle.std.specs.BTreeMap as tree
use Rattle.std.specs.BTreeMap.{BTreeMap}
use Rattle.proof_lift.specs.HintWalk.{ClauseImage, Gone, Kept, ClauseImages}
use Rattle.proof_lift.specs.Stream.{images_in}
use Rattle.proof_lift.specs.View.{image_of_lemma, lemmas_of}
use Rattle.proof_lift.specs.declared.images.Image.{Image}
use Rattle.proof_lift.specs.declared.images.Image.TheVariants.{None as NoImage, Gone as GoneImage, Kept as KeptImage}
use Rattle.proof_lift.specs.declared.images.Images.{Images}
use Rattle.proof_lift.specs.declared.lemma_images.LemmaImages.{LemmaImages}
use Rattle.proof_lift.specs.declared.lemma_images.LogLemma.{LogLemma}

-- the image that a look-up's answer stands for
abbrev pub image_in : Image → Option ClauseImage
image_in NoImage = None
image_in GoneImage = Some Gone
image_in (KeptImage number lits) = Some (Kept number lits.now)

-- the images of the live clauses in the code's tables
abbrev pub images_of : Images → ClauseImages
images_of x = images_in x.formula x.live.items (lemmas_of x.lemmas)

-- the image of the lemma of number n, looked up in a map; none without a map
abbrev pub image_in_map : Option (BTreeMap ℕ (Option LogLemma)) → ClauseImages
image_in_map None n = None
image_in_map (Some m) n = option_map image_of_lemma (tree.get nat_cmp m n)

-- the image of the lemma of number n, looked up in the map of the number's remainder by 8,192
abbrev pub image_in_maps : List (BTreeMap ℕ (Option LogLemma)) → ClauseImages
image_in_maps maps n = image_in_map (slice_get maps (n % 8192)) n

-- the images of the live lemmas in the code's maps
abbrev pub lemma_images_of : LemmaImages → ClauseImages
lemma_images_of x = image_in_maps x.maps.items

-- The line that is printed of a run that has no report.
use Rattle.std.specs.Prelude.{ℕ, Bool, true, false, List, [], codes}
use Rattle.reports.specs.declared.refusal.Refusal.{Refusal}
use Rattle.reports.specs.declared.refusal.Refusal.TheVariants.{Usage, Input, Cubes, Proof, Links, Writing, NoMemory}

-- the line of a refusal without `-q`
abbrev pub loud_text : Refusal → List ℕ
loud_text Usage = codes "c usage\n"
loud_text Input = codes "c cannot read input\n"
loud_text Cubes = codes "c cannot read cubes\n"
loud_text Proof = codes "c cannot read proof\n"
loud_text Links = codes "c cannot open links\n"
loud_text Writing = codes "c cannot write proof\n"
loud_text NoMemory = codes "c no memory\n"

-- the line of a refusal: `-q` (`quiet` is true) leaves out every line except the one of refused words
abbrev pub refusal_text : Refusal → Bool → List ℕ
refusal_text Usage quiet = loud_text Usage
refusal_text refusal true = []
refusal_text refusal false = loud_text refusal

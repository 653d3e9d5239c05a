-- Evidence: bytes that show a verdict on a formula, and what judging them finds.
use Rattle.std.specs.Prelude.{◌≡◌, ℕ, Bool, true, false, List, map, length}
use Rattle.dimacs.specs.logic.Cnf.{Cnf}
use Rattle.lrat_check.specs.Verdicts.{Right}
use Rattle.lrat_check.specs.declared.judgement.Judged.{Judged}
use Rattle.lrat_check.specs.declared.judgement.Judged.TheVariants as judged
use Rattle.lrat_check.specs.declared.verdict.Verdict.{Verdict}
use Rattle.lrat_check.specs.declared.verdict.Verdict.TheVariants.{Model, Proof}

-- the byte of a truth value: 1 for true, 0 for false
abbrev pub value_byte : Bool → ℕ
value_byte false = 0
value_byte true = 1

-- evidence of a refutation: the verdict v is the proof with this text
abbrev pub IsTextOf : List ℕ → Verdict → Type 0
IsTextOf text v = v ≡ Proof text

-- evidence of an assignment: the verdict v is an assignment of the variables of F, and the bytes are its values in order, one for each
-- variable
abbrev pub AreValuesOf : Cnf → List ℕ → Verdict → Type 0
AreValuesOf F bytes v = (a : List Bool) × (v ≡ Model a) × (bytes ≡ map value_byte a) × (length a ≡ F.vars)

-- The judgement of evidence, if `IsOf v` says that the evidence shows the verdict v. Right: the evidence shows this verdict, which is
-- right. Wrong: it shows no right verdict. NoMemory: memory was refused, and it shows some verdict.
abbrev pub Judges : Cnf → (Verdict → Type 0) → Judged → Type 0
Judges F IsOf (judged.Right v) = IsOf v × Right F v
Judges F IsOf judged.Wrong = (v : Verdict) → IsOf v → ¬ (Right F v)
Judges F IsOf judged.NoMemory = (v : Verdict) × IsOf v

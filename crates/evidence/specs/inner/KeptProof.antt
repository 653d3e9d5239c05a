-- The verdict that a checked text becomes.
use Rattle.std.specs.Prelude.{◌≡◌, ℕ, List, ◌⊎◌}
use Rattle.dimacs.specs.logic.Cnf.{Cnf}
use Rattle.lrat_text.specs.Proof.{Accepts}
use Rattle.lrat_check.specs.declared.verdict.Verdict.{Verdict}
use Rattle.lrat_check.specs.declared.verdict.Verdict.TheVariants.{Nothing, Proof}

-- the verdict is the text as a proof if the text is accepted for the formula; else it is `Nothing`
abbrev pub IsHeldIfAccepted : Cnf → List ℕ → Verdict → Type 0
IsHeldIfAccepted F text held = (Accepts F text × (held ≡ Proof text)) ⊎ (¬ (Accepts F text) × (held ≡ Nothing))

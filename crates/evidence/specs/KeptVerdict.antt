-- What is kept of a verdict when clauses are added to its formula.
use Rattle.std.specs.Prelude.{◌≡◌, ℕ, ◌-◌, Bool, false, List, ◌++◌, length, replicate}
use Rattle.dimacs.specs.logic.Cnf.{Cnf, FitsIn, Sat, IsFormula, assignment_of}
use Rattle.dimacs.specs.logic.Extension.{extended}
use Rattle.dimacs.specs.logic.Limits.{written}
use Rattle.lrat_text.specs.Proof.{Accepts}
use Rattle.lrat_check.specs.declared.verdict.Reaction.{Reaction}
use Rattle.lrat_check.specs.declared.verdict.Reaction.TheVariants as reaction
use Rattle.lrat_check.specs.declared.verdict.Verdict.{Verdict}
use Rattle.lrat_check.specs.declared.verdict.Verdict.TheVariants.{Nothing, Model, Proof}
use Rattle.proof_join.specs.RenumberedProof.{Renumbers}
use Rattle.evidence.specs.declared.kept_verdict.Grown.{Grown}

-- the values, and false for each further variable up to the number `vars`
abbrev pub lengthened : ℕ → List Bool → List Bool
lengthened vars values = values ++ replicate (vars - length values) false

-- an assignment of the formula F as one of F extended by x: the new variables are false
abbrev pub values_in : Cnf → Cnf → List Bool → List Bool
values_in F x values = lengthened (extended F x).vars values

-- the second text is the first, a proof of F, renumbered for F extended by x
abbrev pub IsTextIn : Cnf → Cnf → List ℕ → List ℕ → Type 0
IsTextIn F x text new = Renumbers (length F.clauses) (length x.clauses) text new

-- `new` is what is kept of the verdict `old` on F, for F extended by x: its assignment or proof, adapted, if that is right there; else
-- none.
pub data KeptVerdict (F x : Cnf) (old new : Verdict) : Type 0 where
  nothing : old ≡ Nothing → new ≡ Nothing → KeptVerdict F x old new
  -- the assignment, with false for the new variables, satisfies the extended formula
  model_kept : (values : List Bool) → old ≡ Model values → Sat (assignment_of (values_in F x values)) (extended F x) → new ≡ Model (values_in F x values) → KeptVerdict F x old new
  model_dropped : (values : List Bool) → old ≡ Model values → ¬ (Sat (assignment_of (values_in F x values)) (extended F x)) → new ≡ Nothing → KeptVerdict F x old new
  -- the proof, renumbered, is accepted for the extended formula
  proof_kept : (text kept : List ℕ) → old ≡ Proof text → IsTextIn F x text kept → Accepts (extended F x) kept → new ≡ Proof kept → KeptVerdict F x old new
  proof_dropped : (text : List ℕ) → old ≡ Proof text → ((kept : List ℕ) → IsTextIn F x text kept → ¬ (Accepts (extended F x) kept)) → new ≡ Nothing → KeptVerdict F x old new

-- `new` has the extended formula, which is within the written limits, and what is kept of the verdict `old`
pub record IsGrown (F x : Cnf) (old : Verdict) (new : Grown) : Type 0 where
  pub formula : new.formula ≡ extended F x
  pub limits : IsFormula (extended F x)
  pub fits : FitsIn written (extended F x)
  pub stays : KeptVerdict F x old new.verdict

-- a machine's formula after a call that adds the clauses of x: extended by them if the call returned `Taken`, else unchanged
abbrev pub formula_after : Cnf → Reaction → Cnf → Cnf
formula_after x reaction.Taken F = extended F x
formula_after x _ F = F

-- The cube of a leaf whose proof is lifted, and how the lift ends.
use Rattle.std.proofs.Common.{◌≡◌, ◌⊎◌, inl, inr, map, nat_eq, Result, Ok, Err, subst, sym}
use Rattle.std.specs.List.{All, IsDistinct}
use Rattle.dimacs.specs.logic.Cnf.{Cnf}
use Rattle.dimacs.specs.logic.Literal.{IsWithin, var_of}
use Rattle.icnf.specs.Leaves.{Cube}
use Rattle.lrat_check.specs.ProofFaults.{no_memory}
use Rattle.lrat_check.specs.declared.line_checker.CheckFault.{CheckFault}
use Rattle.proof_lift.specs.Leaves.{IsCube}
use Rattle.cube_solve.proofs.SearchLemmas.{cube_sound}

-- literals of the formula's variables, none of a variable twice, are a cube over the formula
pub cube_over : (F : Cnf) (found q : Cube) → q ≡ found → All (IsWithin F.vars) found → IsDistinct nat_eq (map var_of found) → IsCube F q
cube_over F found q is within distinct = subst (IsCube F) (sym is) (record {
  within = within;
  no_pair = λ t. cube_sound found distinct t.0 t.1 t.2;
})

-- the only error is that memory was refused
pub only_memory : (fault : CheckFault) (r : Result (Unit {0}) CheckFault) → r ≡ Err fault → (r ≡ Ok tt) ⊎ (r ≡ Err no_memory) → fault ≡ no_memory
only_memory fault r is h = elim h [
  | inl ok ↦ let no : ⊥ = cc in absurd no
  | inr err ↦ cc
]

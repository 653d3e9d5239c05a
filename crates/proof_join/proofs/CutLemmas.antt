-- An assignment of the base, cut back to the formula's variables.
use Rattle.std.proofs.Common.{◌≡◌, ℕ, ◌-◌, ◌<◌, ◌≤◌, Bool, false, not, List, [], ◌∷◌, length, take, ◌∙◌, ap, arith}
use Rattle.std.specs.List.{All, AllByRecursion}
use Rattle.std.proofs.lemmas.List.{get_or-take, length-take-le}
use Rattle.std.proofs.lemmas.List.Elements.{All-nil, All-cons, All-head, All-tail, All-contains}
use Rattle.dimacs.specs.logic.Cnf.{Cnf, IsFormula, Sat, assignment_of}
use Rattle.dimacs.proofs.WithinLemmas.{EachWithin, each_within}
use Rattle.dimacs.specs.logic.Literal.{Literal, Pos, Neg, Clause, IsTrueIn, IsWithin, literal_true}
use Rattle.cube_split.specs.Definitions.{base_with}
use Rattle.cube_split.specs.declared.pair.Pair.{Pair}
use Rattle.proof_join.proofs.DefinitionLemmas.{models_too}

within_all : (v : ℕ) (C : Clause) → AllByRecursion (IsWithin v) C → All (IsWithin v) C
within_all v [] h = All-nil (IsWithin v)
within_all v (l ∷ C) h = All-cons (IsWithin v) l C h.0 (within_all v C h.1)

same_member : (V : ℕ) (values : List Bool) (v : ℕ) → 0 < v → v ≤ V → assignment_of (take V values) v ≡ assignment_of values v
same_member V values v some low = get_or-take V values (v - 1) false (omega arith)

same_truth : (V : ℕ) (values : List Bool) (l : Literal) → IsWithin V l → literal_true (assignment_of (take V values)) l ≡ literal_true (assignment_of values) l
same_truth V values (Pos v) h = same_member V values v h.0 h.1
same_truth V values (Neg v) h = ap not (same_member V values v h.0 h.1)

cut_clause : (V : ℕ) (values : List Bool) (C : Clause) → AllByRecursion (IsWithin V) C → IsTrueIn (assignment_of values) C → IsTrueIn (assignment_of (take V values)) C
cut_clause V values C within (l, inside, is) = (l, inside, same_truth V values l (All-contains (IsWithin V) C l (within_all V C within) inside) ∙ is)

cut_all : (V : ℕ) (values : List Bool) (F : List Clause) → EachWithin V F → All (IsTrueIn (assignment_of values)) F → All (IsTrueIn (assignment_of (take V values))) F
cut_all V values [] within h = All-nil (IsTrueIn (assignment_of (take V values)))
cut_all V values (C ∷ F) within h =
    All-cons (IsTrueIn (assignment_of (take V values))) C F (cut_clause V values C within.0 (All-head (IsTrueIn (assignment_of values)) C F h))
    (cut_all V values F within.1 (All-tail (IsTrueIn (assignment_of values)) C F h))

pub cut_back : (F : Cnf) (pairs : List Pair) (values : List Bool) → IsFormula F → length values ≡ (base_with F pairs).vars → Sat (assignment_of values) (base_with F pairs)
    → (length (take F.vars values) ≡ F.vars) × Sat (assignment_of (take F.vars values)) F
cut_back F pairs values limits long sat =
    (length-take-le F.vars values (omega (arith, long)), cut_all F.vars values F.clauses (each_within F.vars F.clauses limits.within) (models_too F pairs (assignment_of values) sat))

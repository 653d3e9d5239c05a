-- Literals within the variables, clause by clause.
use Rattle.std.proofs.Common.{ℕ, List, [], ◌∷◌}
use Rattle.std.specs.List.{AllByRecursion}
use Rattle.std.proofs.lemmas.List.Elements.{All-cons, All-from_recursion, All-head, All-nil, All-tail, recursion_from_All}
use Rattle.std.specs.Prelude.{All}
use Rattle.dimacs.specs.logic.Cnf.{AreWithin}
use Rattle.dimacs.specs.logic.Literal.{Clause, IsWithin}

-- the same, by recursion on both lists
abbrev pub EachWithin : ℕ → List Clause → Type 0
EachWithin vars clauses = AllByRecursion (AllByRecursion (IsWithin vars)) clauses

pub each_within : (vars : ℕ) (cs : List Clause) → AreWithin vars cs → EachWithin vars cs
each_within vars [] h = tt
each_within vars (c ∷ cs) h = (recursion_from_All (IsWithin vars) c (All-head (All (IsWithin vars)) c cs h), each_within vars cs (All-tail (All (IsWithin vars)) c cs h))

pub are_within : (vars : ℕ) (cs : List Clause) → EachWithin vars cs → AreWithin vars cs
are_within vars [] h = All-nil (All (IsWithin vars))
are_within vars (c ∷ cs) h = All-cons (All (IsWithin vars)) c cs (All-from_recursion (IsWithin vars) c h.0) (are_within vars cs h.1)

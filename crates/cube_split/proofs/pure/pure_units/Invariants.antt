use Rattle.std.proofs.Common.{◌≡◌, ◌-◌, ◌+◌, ◌≤◌, ◌&&◌, ◌∷◌, [], not, List, vec_len}
use Rattle.std.specs.List.{filter, flat_map}
use Rattle.dimacs.specs.logic.Base.{occurs, numbers_from}
use Rattle.dimacs.specs.logic.Literal.{Clause, Pos, Neg, negation}
use Rattle.cube_split.specs.inner.Marks.{AreMarked}
use Rattle.cube_split.proofs.pure.pure_units.Given as goal

-- the pure literals of the variables so far
abbrev pub invariant-loop-number : goal.invariant-loop-number
invariant-loop-number l = (vec_len l.units + 1 ≤ l.number) × ((clauses : List Clause) → AreMarked l.marks (occurs clauses)
    → l.units.items ≡ filter (λ x. occurs clauses x && not (occurs clauses (negation x))) (flat_map (λ v. Pos v ∷ Neg v ∷ []) (numbers_from 1 (l.number - 1))))

-- What a propagator needs of each clause is kept if the trail changes, or other clauses do.
use Rattle.std.specs.Prelude.{◌≡◌, ℕ, ◌<◌, List, length, slice_index_or}
use Rattle.std.specs.List.{All, Contains}
use Rattle.std.specs.FinMap.{get}
use Rattle.std.proofs.Common.{sym, subst, ◌∙◌, arith}
use Rattle.std.proofs.lemmas.List.{get_or-map, length-map}
use Rattle.std.proofs.lemmas.List.Elements.{Contains-get_or}
use Rattle.clause_arena.specs.declared.reference.Ref.{Ref}
use Rattle.clause_arena.specs.Clauses.{Clauses}
use Rattle.watches.specs.ClauseNumbers.{numbers}
use Rattle.watches.specs.inner.LiveClauses.{IsLiveWithin}
use Rattle.watches.specs.Trails.{TrailValue}

-- the clauses stay live, with literals of the trail's variables, if the trail changes and its number of variables does not
pub here_pushed : (m : Clauses) (t u : TrailValue) (clauses : List Ref) → All (IsLiveWithin m t.vars) clauses → u.vars ≡ t.vars → All (IsLiveWithin m u.vars) clauses
here_pushed m t u clauses h e = subst (λ v. All (IsLiveWithin m v) clauses) (sym e) h

-- the number of the clause at an index is among the numbers
pub has_number : (clauses : List Ref) (i : ℕ) (d : Ref) → i < length clauses → Contains (numbers clauses) (slice_index_or clauses i d).number
has_number clauses i d l = subst (Contains (numbers clauses)) (get_or-map (λ (a : Ref). a.number) clauses i d d.number l) (Contains-get_or (numbers clauses) i d.number (omega (arith, length-map clauses (λ (a : Ref). a.number))))

-- the clauses stay live, with literals of the trail's variables, if other clauses change
pub here_elsewhere : (m k : Clauses) (v : ℕ) (clauses : List Ref) → All (IsLiveWithin m v) clauses → ((n : ℕ) → Contains (numbers clauses) n → get k n ≡ get m n) → All (IsLiveWithin k v) clauses
here_elsewhere m k v clauses h e i d l = let s = h i d l in (s.0, (e _ (has_number clauses i d l) ∙ s.1.0, s.1.1), s.2)

-- What holds of each literal of a clause holds after its literals were reordered.
use Rattle.std.proofs.Common.{◌≡◌, subst, get_or}
use Rattle.std.specs.List.{All}
use Rattle.std.proofs.lemmas.List.Elements.{Contains-get_or}
use Rattle.dimacs.specs.logic.Literal.{Literal, Clause}
use Rattle.clause_arena.specs.declared.reference.Ref.{Ref}
use Rattle.clause_arena.specs.Clauses.{Clauses, RefersTo}
use Rattle.watches.specs.Law.{SameUpToOrder}
use Rattle.watches.proofs.ScanLemmas.{same_clause}

-- what holds of each literal of a clause holds of each in another order
pub all_same : (P : Literal → Type 0) (m k : Clauses) (at : Ref) (C D : Clause) → SameUpToOrder m k → RefersTo m at C → RefersTo k at D → All P C → All P D
all_same P m k at C D s st h a =
    let t = s.there at.number at.place C st.0 in
    let e : t.0 ≡ D = same_clause k at.number at.place at.place t.0 D t.1 h.0 in
    subst (All P) e (λ i d l. let x = (t.2.literals (get_or t.0 i d)).1 (Contains-get_or t.0 i d l) in subst P x.2 (a x.0 (get_or t.0 i d) x.1))

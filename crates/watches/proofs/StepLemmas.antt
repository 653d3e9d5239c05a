-- Steps of propagation, one after another.
use Rattle.std.proofs.Common.{◌≡◌, ℕ, List, refl, ap, ◌∙◌, subst}
use Rattle.clause_arena.specs.declared.reference.Ref.{Ref}
use Rattle.clause_arena.specs.Clauses.{Clauses, live_of}
use Rattle.watches.specs.Trails.{TrailValue}
use Rattle.watches.specs.Law.{Grows, SameUpToOrder, live_among}
use Rattle.watches.specs.Watches.{Watches}
use Rattle.watches.specs.ClauseNumbers.{numbers}
use Rattle.watches.specs.inner.WatchInvariants.{IsRelinked}
use Rattle.watches.specs.inner.ListWalk.{IsStep, HasPropagated}
use Rattle.watches.proofs.LawLemmas.{same_trans, grows_before}
use Rattle.watches.proofs.ScanLemmas.{Grows-refl, Grows-trans, SameUpToOrder-refl}

pub unmoved : (W : Watches) → IsRelinked W W
unmoved W = record { long = refl; rest = refl }

pub no_step : (W : Watches) (m : Clauses) (t : TrailValue) → IsStep W W m m t t
no_step W m t = record { rest = unmoved W; grows = Grows-refl (live_among (numbers W.clauses) (live_of m)) t; same = SameUpToOrder-refl m }

-- only places were relinked
pub relinks_step : (U V : Watches) (m : Clauses) (t : TrailValue) → IsRelinked U V → IsStep U V m m t t
relinks_step U V m t r = record { rest = r; grows = Grows-refl (live_among (numbers U.clauses) (live_of m)) t; same = SameUpToOrder-refl m }

grows_on : (U V : Watches) (m n : Clauses) (t u v : TrailValue) → V.clauses ≡ U.clauses → SameUpToOrder m n → Grows (live_among (numbers U.clauses) (live_of m)) t u → Grows (live_among (numbers V.clauses) (live_of n)) u v
    → Grows (live_among (numbers U.clauses) (live_of m)) t v
grows_on U V m n t u v e s g h =
    Grows-trans (live_among (numbers U.clauses) (live_of m)) t u v g
    (grows_before (numbers U.clauses) m n u v s (subst (λ (cs : List Ref). Grows (live_among (numbers cs) (live_of n)) u v) e h))

pub relinked_on : (U V W : Watches) → IsRelinked U V → IsRelinked V W → IsRelinked U W
relinked_on U V W r s = record { long = s.long ∙ r.long; rest = s.rest ∙ ap (λ (X : Watches). record X { places = W.places }) r.rest }

pub steps_on : (U V W : Watches) (m n k : Clauses) (t u v : TrailValue) → IsStep U V m n t u → IsStep V W n k u v → IsStep U W m k t v
steps_on U V W m n k t u v a b = record {
  rest = relinked_on U V W a.rest b.rest;
  grows = grows_on U V m n t u v (ap (λ (X : Watches). X.clauses) a.rest.rest) a.same a.grows b.grows;
  same = same_trans m n k a.same b.same;
}

pub no_work : (W : Watches) (m : Clauses) (t : TrailValue) → HasPropagated W W m m t t
no_work W m t = record { long = refl; rest = refl; grows = Grows-refl (live_among (numbers W.clauses) (live_of m)) t; same = SameUpToOrder-refl m }

-- a step, after which `head` literals of the trail are worked through
pub works_on : (U V W : Watches) (head : ℕ) (m n k : Clauses) (t u v : TrailValue) → HasPropagated U V m n t u → IsStep V W n k u v → HasPropagated U (record W { head = head }) m k t v
works_on U V W head m n k t u v a b = record {
  long = b.rest.long ∙ a.long;
  rest = ap (λ (X : Watches). record X { head = head }) b.rest.rest ∙ ap (λ (X : Watches). record X { places = W.places; head = head }) a.rest;
  grows = grows_on U V m n t u v (ap (λ (X : Watches). X.clauses) a.rest) a.same a.grows b.grows;
  same = same_trans m n k a.same b.same;
}

-- The same clauses with literals in another order: propagation is the same.
use Rattle.std.proofs.Common.{◌≡◌, ℕ, List, [], ◌∷◌, ◌++◌, Option, Some, None, refl, sym, ◌∙◌, subst}
use Rattle.std.specs.FinMap.{get}
use Rattle.dimacs.specs.logic.Literal.{Literal, Clause}
use Rattle.dimacs.specs.logic.Propagation.{Assumed, IsUnit}
use Rattle.clause_arena.specs.Clauses.{Clauses, live_of}
use Rattle.watches.specs.declared.trail.Assigned.{Assigned}
use Rattle.watches.specs.Trails.{TrailValue, holds}
use Rattle.watches.specs.Law.{SameUpToOrder, IsReordered, IsImplied, AreImplied, Grows, live_among}
use Rattle.watches.proofs.ScanLemmas.{same_clause}

reordered_trans : (C D E : Clause) → IsReordered C D → IsReordered D E → IsReordered C E
reordered_trans C D E h k = record { len = k.len ∙ h.len; literals = λ l. (λ x. (k.literals l).0 ((h.literals l).0 x), λ x. (h.literals l).1 ((k.literals l).1 x)) }

pub same_trans : (a b c : Clauses) → SameUpToOrder a b → SameUpToOrder b c → SameUpToOrder a c
same_trans a b c h k = record {
  there = λ n p C e. let x = h.there n p C e in let y = k.there n p x.0 x.1 in (y.0, y.1, reordered_trans C x.0 y.0 x.2 y.2);
  none = λ n e. k.none n (h.none n e);
}

unit_before : (α : Assumed) (C D : Clause) (l : Literal) → IsReordered C D → IsUnit α D l → IsUnit α C l
unit_before α C D l r u = record { member = (r.literals l).1 u.member; not_true = u.not_true; not_false = u.not_false; others = λ k i n. u.others k ((r.literals k).0 i) n }

live_before : (a b : Clauses) (n : ℕ) (D : Clause) (o : Option (ℕ × Clause)) → get a n ≡ o → SameUpToOrder a b → live_of b n D → (C : Clause) × live_of a n C × IsReordered C D
live_before a b n D None e s l = absurd (let g : None ≡ Some (l.0, D) = sym (s.none n e) ∙ l.1 in cc)
live_before a b n D (Some x) e s l =
    let t = s.there n x.0 x.1 e in
    (x.1, (x.0, e), subst (IsReordered x.1) (same_clause b n x.0 l.0 t.0 D t.1 l.1) t.2)

implied_before : (ns : List ℕ) (a b : Clauses) (es : List Assigned) (e : Assigned) → SameUpToOrder a b → IsImplied (live_among ns (live_of b)) es e → IsImplied (live_among ns (live_of a)) es e
implied_before ns a b es e s i =
    let l = live_before a b i.number i.clause (get a i.number) refl s i.lives.1 in
    record { number = i.number; clause = l.0; reason = i.reason; lives = (i.lives.0, l.1); unit = unit_before (holds es) l.0 i.clause e.literal l.2 i.unit; level = i.level }

all_before : (ns : List ℕ) (a b : Clauses) (es more : List Assigned) → SameUpToOrder a b → AreImplied (live_among ns (live_of b)) es more → AreImplied (live_among ns (live_of a)) es more
all_before ns a b es [] s h = tt
all_before ns a b es (e ∷ more) s h = (implied_before ns a b es e s h.0, all_before ns a b (es ++ e ∷ []) more s h.1)

pub grows_before : (ns : List ℕ) (a b : Clauses) (t u : TrailValue) → SameUpToOrder a b → Grows (live_among ns (live_of b)) t u → Grows (live_among ns (live_of a)) t u
grows_before ns a b t u s g = record { vars = g.vars; more = g.more; entries = g.entries; implied = all_before ns a b t.entries g.more s g.implied }

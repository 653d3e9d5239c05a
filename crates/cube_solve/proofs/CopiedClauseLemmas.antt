-- Clauses that are copied from another search.
use Rattle.std.proofs.Common.{◌≡◌, ℕ, ◌+◌, ◌^◌, ◌≤◌, inl, inr, List, [], length, Option, Some, None, sym, ◌∙◌, ap, subst, arith}
use Rattle.std.specs.List.{All, Contains}
use Rattle.std.specs.FinMap.{get}
use Rattle.std.proofs.lemmas.Bool.{cases_eq}
use Rattle.std.proofs.lemmas.List.Elements.{All-weaker}
use Rattle.dimacs.specs.logic.ClauseMap.{ClauseMap, Live, live_in, map_of}
use Rattle.dimacs.specs.logic.Cnf.{Cnf}
use Rattle.dimacs.specs.logic.Literal.{Clause, IsWithin}
use Rattle.clause_arena.specs.Clauses.{Clauses, IsLive, live_of}
use Rattle.clause_arena.specs.declared.reference.Ref.{Ref}
use Rattle.conflict_analysis.specs.BuiltTrails.{AreInside}
use Rattle.lrat_text.proofs.ClauseMapLemmas.{numbered_between}
use Rattle.watches.specs.Trails.{TrailValue}
use Rattle.clause_arena.proofs.ClauseLaws.{live_once}
use Rattle.cube_solve.specs.Session.{AreGiven, IsReady, last_of}
use Rattle.cube_solve.specs.SessionLog.{IsKnown}
use Rattle.cube_solve.specs.declared.marks.Marks.{Marks}
use Rattle.cube_solve.specs.declared.search.Search.{Search}
use Rattle.cube_solve.specs.declared.session.Session.{Session}
use Rattle.cube_solve.specs.inner.Reduction.{AreLemmas}
use Rattle.cube_solve.specs.inner.CopiedClauses.{AreCopied}
use Rattle.cube_solve.specs.inner.LearntLog.{AreBelow}
use Rattle.cube_solve.specs.inner.Twins.{AreLinked, AreTwins, IsAdded}
use Rattle.cube_solve.specs.inner.Queries.{AreStamped, HasClauses}
use Rattle.cube_solve.specs.inner.SearchInvariants.{IsSteady}
use Rattle.cube_solve.specs.inner.UnitClauses.{AreNoted}
use Rattle.cube_solve.proofs.ClauseLemmas.{linked_trans, twins_trans}
use Rattle.cube_solve.proofs.TruthLemmas.{true_twin}

-- ---- number by number
pub moved_none : (old new : Live) (top : ℕ) → AreBelow top old → ((n : ℕ) (C : Clause) → new n C → ⊥) → AreCopied 1 old new
moved_none old new top below none = record { forth = λ n C low i. let b = (below n C i).0 in absurd (omega arith); back = λ n D i. absurd (none n D i) }

module _ (m : Clauses) (id : ℕ) (mid new : Live) (h : AreCopied id (live_of m) mid) where
  pub moved_more : (C lits : Clause) → live_of m id C → lits ≡ C → IsAdded mid id lits new → AreCopied (id + 1) (live_of m) new
  moved_more C lits l is add =
      let itself : AreTwins C lits = subst (AreTwins C) (sym is) (λ k. (λ y. y, λ y. y)) in
      record {
        forth = λ n D low i. elim (cases_eq n id) [
          | inl e ↦
              let t = add.there in
              let same : C ≡ D = live_once m id C D l (subst (λ k. live_of m k D) e i) in
              (t.0, subst (λ k. new k t.0) (sym e) t.1, subst (λ (X : Clause). AreTwins X t.0) same (twins_trans C lits t.0 itself t.2))
          | inr d ↦ let x = h.forth n D (omega arith) i in let y = add.stays n x.0 x.1 in (y.0, y.1, twins_trans D x.0 y.0 x.2 y.2)
        ];
        back = λ n D i. elim (add.only n D i) [
          | inl o ↦ let b = h.back n o.0 o.1 in let low = b.0 in let c = b.1 in (omega arith, (c.0, c.1, twins_trans c.0 o.0 D c.2 o.2))
          | inr o ↦ let e = o.0 in (omega arith, (C, subst (λ k. live_of m k C) (sym e) l, twins_trans C lits D itself o.1))
        ];
      }

pub moved_past : (m : Clauses) (id : ℕ) (new : Live) → AreCopied id (live_of m) new → get m id ≡ None → AreCopied (id + 1) (live_of m) new
moved_past m id new h none = record {
  forth = λ n D low i. elim (cases_eq n id) [
    | inl e ↦ absurd (let z : ◌≡◌ {A = Option (ℕ × Clause)} None (Some (i.0, D)) = sym none ∙ ap (get m) (sym e) ∙ i.1 in cc)
    | inr d ↦ h.forth n D (omega arith) i
  ];
  back = λ n D i. let b = h.back n D i in let low = b.0 in (omega arith, b.1);
}

pub found_live : (m : Clauses) (at : Ref) (id : ℕ) → at.number ≡ id → (l : IsLive m at) → live_of m id l.0
found_live m at id e l = (at.place, ap (get m) (sym e) ∙ (l.1).0)

pub moved_all : (old new : Live) (top : ℕ) → AreBelow top old → AreCopied top old new → AreLinked old new
moved_all old new top below h = record {
  forth = λ n C i. let b = below n C i in h.forth n C b.1 i;
  back = λ n D i. (h.back n D i).1;
}

pub moved_below : (old new : Live) (top id : ℕ) → AreBelow top old → AreCopied id old new → AreBelow id new
moved_below old new top id below h n D i = let b = h.back n D i in let c = b.1 in ((below n c.0 c.1).0, b.0)

-- ---- all of them
pub below_linked : (old new : Live) (top : ℕ) → AreLinked old new → AreBelow top old → AreBelow top new
below_linked old new top h below n D i = let c = h.back n D i in below n c.0 c.1

pub lemmas_linked : (old new : Live) (ids : List ℕ) → AreLinked old new → AreLemmas 0 old ids → AreLemmas 0 new ids
lemmas_linked old new ids h l = record {
  rising = l.rising;
  behind = l.behind;
  lives = All-weaker (λ n. (C : Clause) × old n C) (λ n. (C : Clause) × new n C) (λ n c. let d = h.forth n c.0 c.1 in (d.0, d.1)) ids l.lives;
}

has_linked : (F : List Clause) (old new : Live) (ids : List ℕ) → AreLinked old new → HasClauses F old ids → HasClauses F new ids
has_linked F old new ids h g = record {
  there = λ C i. let x = g.there C i in let y = h.forth x.0 x.1 x.2 in (x.0, y.0, y.1, twins_trans C x.1 y.0 x.3 y.2, x.4);
  follow = λ a sat n D l. let c = h.back n D l in true_twin a c.0 D c.2 (g.follow a sat n c.0 c.1);
}

module _ {P : Type 0} (s u : Session P) (h : AreLinked (live_of s.search.state.arena) (live_of u.search.state.arena)) (lemmas : u.search.lemmas.items ≡ s.search.lemmas.items) where
  pub given_linked : (F : List Clause) → AreGiven F s → AreGiven F u
  given_linked F g = subst (HasClauses F (live_of u.search.state.arena)) (sym lemmas) (has_linked F (live_of s.search.state.arena) (live_of u.search.state.arena) s.search.lemmas.items h g)

  pub known_linked : last_of u ≡ last_of s → (given : List ℕ) (M : ClauseMap) → IsKnown given M s → IsKnown given M u
  known_linked last given M k = record {
    linked = linked_trans (live_in M) (live_of s.search.state.arena) (live_of u.search.state.arena) k.linked h;
    before = λ n i. subst (λ x. n ≤ x) (sym last) (k.before n i);
    apart = λ n i j. k.apart n i (subst (λ xs. Contains xs n) lemmas j);
  }

-- nothing is live in a search over a base without a clause
pub none_live : (B : Cnf) (live : Live) → B.clauses ≡ [] → AreLinked (live_in (map_of B)) live → (n : ℕ) (C : Clause) → live n C → ⊥
none_live B live none h n C i =
    let c = h.back n C i in
    let b = numbered_between B.clauses n c.0 c.1 in
    let l : length B.clauses ≡ 0 = ap (λ (F : List Clause). length F) none in
    let low = b.0 in
    let up = b.1 in
    absurd (omega arith)

pub within_more : (live : Live) (vars more : ℕ) → vars ≤ more → AreInside live vars → (n : ℕ) (C : Clause) → live n C → All (IsWithin more) C
within_more live vars more le h n C i = All-weaker (IsWithin vars) (IsWithin more) (λ l w. (w.0, (let u = w.1 in omega arith))) C (h n C i)

-- what was noted of a search is noted where its lemmas and its log alone have changed
pub noted_by : {P : Type 0} (s u other : Search P) → u ≡ record s { lemmas = other.lemmas; uses = other.uses; log = other.log } → AreNoted (live_of s.state.arena) s.units.numbers.items → AreNoted (live_of u.state.arena) u.units.numbers.items
noted_by {P} s u other e h = subst (λ (x : Search P). AreNoted (live_of x.state.arena) x.units.numbers.items) (sym e) h

-- ---- the session whose search this is
module _ {P : Type 0} (is_ready : P → Clauses → TrailValue → Type 0) (attached : P → List ℕ) (s : Session P) (x y : Search P) (t : ℕ) (marks : Marks) (is : x ≡ s.search) (top : t ≡ s.top)
    (linked : AreLinked (live_of x.state.arena) (live_of y.state.arena)) (lemmas : y.lemmas.items ≡ x.lemmas.items) where
  abbrev u : Session P
  u = record { search = y; top = t; marks = marks }

  links : AreLinked (live_of s.search.state.arena) (live_of y.state.arena)
  links = subst (λ (z : Search P). AreLinked (live_of z.state.arena) (live_of y.state.arena)) is linked

  same : y.lemmas.items ≡ s.search.lemmas.items
  same = lemmas ∙ ap (λ (z : Search P). z.lemmas.items) is

  pub grown_ready : (vars : ℕ) → IsSteady is_ready attached y.state → AreNoted (live_of y.state.arena) y.units.numbers.items → y.state.trail.vars ≡ vars → vars ≤ 99999999 → AreStamped vars marks
      → IsReady is_ready attached s → IsReady is_ready attached u
  grown_ready vars steady noted v few stamped r = record {
    steady = steady;
    below = subst (λ n. AreBelow (n + 1) (live_of y.state.arena)) (sym top) (below_linked (live_of s.search.state.arena) (live_of y.state.arena) (s.top + 1) links r.below);
    lemmas = subst (AreLemmas 0 (live_of y.state.arena)) (sym same) (lemmas_linked (live_of s.search.state.arena) (live_of y.state.arena) s.search.lemmas.items links r.lemmas);
    noted = noted;
    few = omega arith;
    bounded = subst (λ n. n ≤ 2 ^ 47) (sym top) r.bounded;
    stamped = subst (λ n. AreStamped n marks) (sym v) stamped;
  }

  pub grown_given : (F : List Clause) → AreGiven F s → AreGiven F u
  grown_given F g = given_linked s u links same F g

  pub grown_known : (given : List ℕ) (M : ClauseMap) → IsKnown given M s → IsKnown given M u
  grown_known given M k = known_linked s u links same top given M k

pub parts_below : {P : Type 0} (s : Session P) (x : Search P) (t : ℕ) → x ≡ s.search → t ≡ s.top → AreBelow (s.top + 1) (live_of s.search.state.arena) → AreBelow (t + 1) (live_of x.state.arena)
parts_below {P} s x t is top h = subst (λ (z : Search P). AreBelow (t + 1) (live_of z.state.arena)) (sym is) (subst (λ n. AreBelow (n + 1) (live_of s.search.state.arena)) (sym top) h)

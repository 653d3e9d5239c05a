-- The clauses that were given to a session are kept by each call; its answers are right.
use Rattle.std.proofs.Common.{◌≡◌, ℕ, ◌+◌, ◌-◌, ◌^◌, ◌<◌, ◌≤◌, inl, inr, Bool, true, false, nat_eq, cond, List, [], ◌∷◌, ◌++◌, length, map, get_or, refl, sym, ◌∙◌, ap, subst, arith}
use Rattle.std.specs.List.{All, Contains, IsDistinct, filter}
use Rattle.std.proofs.lemmas.Bool.{eqb-true, eq-eqb}
use Rattle.std.proofs.lemmas.List.Kept.{AllPairs-filter}
use Rattle.std.proofs.lemmas.Map.Keys.{IsDistinct-from_apart, apart_from_distinct}
use Rattle.std.proofs.lemmas.List.Elements.{All-cons, All-nil, All-contains, All-weaker, Contains-get_or, Contains-append_left, Contains-append_right, Contains-push_cases}
use Rattle.dimacs.specs.logic.Cnf.{Cnf, assignment_of}
use Rattle.dimacs.specs.logic.ClauseMap.{Live, live_in, map_of}
use Rattle.dimacs.specs.logic.Literal.{Literal, Clause, IsTautology, IsTrueIn, IsWithin, index_of, literal_true, negation, same}
use Rattle.dimacs.specs.logic.Propagation.{Rup}
use Rattle.dimacs.proofs.LiteralLemmas.{IsWithin-negation, negation-negation}
use Rattle.dimacs.proofs.Members.{Contains-cons, Contains-cons_cases, Contains-filter, Contains-head, Contains-nil}
use Rattle.clause_arena.specs.Clauses.{Clauses, live_of}
use Rattle.conflict_analysis.specs.declared.lemma.Lemma.{Lemma}
use Rattle.lrat_text.specs.Grammar.{IsClauseNumber}
use Rattle.lrat_text.specs.Log.{Cube}
use Rattle.lrat_text.proofs.ClauseMapLemmas.{numbered_between, numbered_at, some_is}
use Rattle.watches.specs.Law.{NoneFalseOrUnit, SameUpToOrder}
use Rattle.watches.specs.Trails.{TrailValue, holds}
use Rattle.cube_solve.specs.Conflicts.{AllHold}
use Rattle.cube_solve.specs.Session.{AllTrue, AreGiven, FollowsFrom, IsReady, IsSolution, IsCore, live_in_session, vars_of}
use Rattle.cube_solve.specs.declared.search.Search.{Search}
use Rattle.cube_solve.specs.declared.session.Session.{Session}
use Rattle.cube_solve.specs.inner.Reduction.{AreLemmas, DeletesLemmas}
use Rattle.cube_solve.specs.inner.LearntLog.{AreBelow}
use Rattle.cube_solve.specs.inner.Twins.{AreLinked, AreTwins, IsAdded}
use Rattle.cube_solve.specs.inner.Marks.{AreMarks}
use Rattle.cube_solve.specs.inner.Queries.{AreStamped, ArePicked, RefutesQuery, HasClauses}
use Rattle.cube_solve.specs.inner.State.{IsState, IsTotal}
use Rattle.cube_solve.specs.inner.SearchInvariants.{IsSteady}
use Rattle.cube_solve.specs.inner.UnitClauses.{AreNoted}
use Rattle.cube_solve.proofs.ClauseLemmas.{same_back, same_forth, twins_trans}
use Rattle.cube_solve.proofs.MapLemmas.{twins_itself}
use Rattle.cube_solve.proofs.ReductionLemmas.{lemmas_same}
use Rattle.cube_solve.specs.Subsequences.{IsSubsequenceOf}
use Rattle.cube_solve.proofs.SubsequenceLemmas.{part_filter, part_trans}
use Rattle.cube_solve.proofs.SearchLemmas.{calm_is_true}
use Rattle.cube_solve.proofs.UnitClauseLemmas.{noted_same}
use Rattle.cube_solve.proofs.TruthLemmas.{not_both, true_twin, tautology_true, rup_true}

-- ---- the clauses that were given
pub in_base : (B : Cnf) (n : ℕ) (C : Clause) → 1 ≤ n → n < length B.clauses + 1 → live_in (map_of B) n C → Contains B.clauses C
in_base B n C low up l =
    let F = B.clauses in
    let e : (n - 1) + 1 ≡ n = omega arith in
    let k = subst (λ j. live_in (map_of B) j (get_or F (n - 1) C)) e (numbered_at F (n - 1) C (omega arith)) in
    subst (Contains F) (some_is (get_or F (n - 1) C) C (sym k ∙ l)) (Contains-get_or F (n - 1) C (omega arith))

-- at the beginning they are those of the base
pub has_base : (B : Cnf) (live : Live) → AreLinked (live_in (map_of B)) live → HasClauses B.clauses live []
has_base B live h = record {
  there = λ C i.
      let k = numbered_at B.clauses i.0 C i.1 in
      let d = h.forth (i.0 + 1) C (subst (live_in (map_of B) (i.0 + 1)) i.2 k) in
      (i.0 + 1, d.0, d.1, d.2, Contains-nil (i.0 + 1));
  follow = λ a sat n D l.
      let c = h.back n D l in
      let b = numbered_between B.clauses n c.0 c.1 in
      true_twin a c.0 D c.2 (All-contains (IsTrueIn a) B.clauses c.0 sat (in_base B n c.0 b.0 b.1 c.1));
}

pub has_same : (F : List Clause) (m k : Clauses) (lemmas : List ℕ) → SameUpToOrder m k → HasClauses F (live_of m) lemmas → HasClauses F (live_of k) lemmas
has_same F m k lemmas s h = record {
  there = λ C i.
      let d = h.there C i in
      let e = same_forth m k s d.0 d.1 d.2 in
      (d.0, e.0, e.1, twins_trans C d.1 e.0 d.3 e.2, d.4);
  follow = λ a sat n D l. let c = same_back m k s n D l in true_twin a c.0 D c.2 (h.follow a sat n c.0 c.1);
}

-- a clause that follows joins the lemmas
pub has_lent : (F : List Clause) (old new : Live) (id : ℕ) (C lits : Clause) (before after : List ℕ) → after ≡ before ++ id ∷ [] → AreBelow id old → AreTwins C lits → IsAdded old id lits new → FollowsFrom F C
    → HasClauses F old before → HasClauses F new after
has_lent F old new id C lits before after e below twins add follows h = record {
  there = λ G i.
      let d = h.there G i in
      let x = add.stays d.0 d.1 d.2 in
      let up = (below d.0 d.1 d.2).1 in
      (d.0, x.0, x.1, twins_trans G d.1 x.0 d.3 x.2, λ j. elim (Contains-push_cases before id d.0 (subst (λ xs. Contains xs d.0) e j)) [ inl k ↦ d.4 k | inr q ↦ absurd (omega arith) ]);
  follow = λ a sat n D l. elim (add.only n D l) [
    | inl o ↦ true_twin a o.0 D o.2 (h.follow a sat n o.0 o.1)
    | inr o ↦ true_twin a lits D o.1 (true_twin a C lits twins (follows a sat))
  ];
}

-- a lemma joins
pub has_learnt : (F : List Clause) (old new : Live) (id : ℕ) (lits : Clause) (hints before after : List ℕ) → after ≡ before ++ id ∷ [] → AreBelow id old → IsAdded old id lits new → Rup old lits hints
    → HasClauses F old before → HasClauses F new after
has_learnt F old new id lits hints before after e below add rup h =
    has_lent F old new id lits lits before after e below (twins_itself lits) add (λ a sat. rup_true a old (h.follow a sat) lits hints rup) h

-- lemmas go
pub has_dropped : (F : List Clause) (top : ℕ) (old new : Live) (before after text more : List ℕ) → DeletesLemmas top before after old new text more → HasClauses F old before → HasClauses F new after
has_dropped F top old new before after text more f h = record {
  there = λ C i.
      let d = h.there C i in
      (d.0, d.1, (f.less).stays d.0 d.1 d.2 (λ j. d.4 (All-contains (Contains before) f.ids d.0 f.among j)), d.3, λ j. d.4 (All-contains (Contains before) after d.0 f.kept j));
  follow = λ a sat n D l. h.follow a sat n D ((f.less).was n D l).1;
}

-- a clause is given
front_true : (a : ℕ → Bool) (F : List Clause) (C : Clause) → All (IsTrueIn a) (F ++ C ∷ []) → All (IsTrueIn a) F
front_true a F C sat i d l = All-contains (IsTrueIn a) (F ++ C ∷ []) (get_or F i d) sat (Contains-append_left F (C ∷ []) (get_or F i d) (Contains-get_or F i d l))

last_true : (a : ℕ → Bool) (F : List Clause) (C : Clause) → All (IsTrueIn a) (F ++ C ∷ []) → IsTrueIn a C
last_true a F C sat = All-contains (IsTrueIn a) (F ++ C ∷ []) C sat (Contains-append_right F (C ∷ []) C (Contains-head C []))

pub has_given : (F : List Clause) (old new : Live) (id : ℕ) (C lits : Clause) (lemmas : List ℕ) → AreTwins C lits → AreBelow id old → AreLemmas 0 old lemmas → IsAdded old id lits new
    → HasClauses F old lemmas → HasClauses (F ++ C ∷ []) new lemmas
has_given F old new id C lits lemmas twins below live add h = record {
  there = λ G i. elim (Contains-push_cases F C G i) [
    | inl j ↦
        let d = h.there G j in
        let x = add.stays d.0 d.1 d.2 in
        (d.0, x.0, x.1, twins_trans G d.1 x.0 d.3 x.2, d.4)
    | inr e ↦
        let t = add.there in (
          id,
          t.0,
          t.1,
          subst (λ K. AreTwins K t.0) e (twins_trans C lits t.0 twins t.2),
          λ j. let l = All-contains (λ n. (D : Clause) × old n D) lemmas id live.lives j in let up = (below id l.0 l.1).1 in omega arith,
        )
  ];
  follow = λ a sat n D l. elim (add.only n D l) [
    | inl o ↦ true_twin a o.0 D o.2 (h.follow a (front_true a F C sat) n o.0 o.1)
    | inr o ↦ true_twin a lits D o.1 (true_twin a C lits twins (last_true a F C sat))
  ];
}

-- ---- answers
module _ (t : TrailValue) (values : List Bool) (reads : (l : Literal) → IsWithin t.vars l → holds t.entries l ≡ true → literal_true (assignment_of values) l ≡ true) where
  pub live_true : (att : List ℕ) (m : Clauses) → IsState att m t → NoneFalseOrUnit (live_of m) (holds t.entries) → IsTotal m t → (n : ℕ) (D : Clause) → live_of m n D → IsTrueIn (assignment_of values) D
  live_true att m s calm total n D x =
      let r = calm_is_true att m t s calm total n D x in
      (r.0, r.1, reads r.0 r.3 r.2)

  pub query_true : (A q : Cube) → AllHold t.entries q → AreTwins A q → All (IsWithin t.vars) A → AllTrue (assignment_of values) A
  query_true A q all twins within l i = reads l (All-contains (IsWithin t.vars) A l within i) (all l ((twins l).0 i))

pub solution : (F : List Clause) (A q : Cube) (att : List ℕ) (m : Clauses) (t : TrailValue) (lemmas : List ℕ) (values : List Bool) → HasClauses F (live_of m) lemmas → IsState att m t
    → NoneFalseOrUnit (live_of m) (holds t.entries) → AllHold t.entries q → IsTotal m t → AreTwins A q → All (IsWithin t.vars) A → length values ≡ t.vars
    → ((l : Literal) → IsWithin t.vars l → holds t.entries l ≡ true → literal_true (assignment_of values) l ≡ true) → IsSolution t.vars F A values
solution F A q att m t lemmas values h s calm all total twins within len reads = record {
  whole = len;
  clauses = λ i d b.
      let C = get_or F i d in
      let x = h.there C (Contains-get_or F i d b) in
      let r = live_true t values reads att m s calm total x.0 x.1 x.2 in
      (r.0, (x.3 r.0).1 r.1, r.2);
  query = query_true t values reads A q all twins within;
}

pub core_fails : (F : List Clause) (A q : Cube) (live : Live) (vars : ℕ) (lemmas : List ℕ) (lemma : Lemma) (core : List Literal) → HasClauses F live lemmas → RefutesQuery live vars q lemma
    → ArePicked q lemma.lits.items core → AreTwins A q → IsSubsequenceOf q A → IsDistinct same q → IsCore F A core
core_fails F A q live vars lemmas lemma core h f p twins part distinct = record {
  ordered = part_trans core q A p.part part;
  within = λ l i. (twins l).1 (p.within l i);
  distinct = p.distinct distinct;
  fails = λ a sat all.
      let C = lemma.lits.items in
      let t : IsTrueIn a C = elim f.follows [
        | inl y ↦ tautology_true a C y
        | inr r ↦ rup_true a live (h.follow a sat) C lemma.hints.items r
      ] in
      not_both a t.0 t.2 (all (negation t.0) (p.all (negation t.0) (f.negates t.0 t.1) (subst (Contains C) (sym (negation-negation t.0)) t.1)));
}

-- ---- the core of a query
kept_by : {X : Type 0} (p : X → Bool) (xs : List X) (y : X) → Contains xs y → p y ≡ true → Contains (filter p xs) y
kept_by p [] y i t = absurd (Contains-nil y i)
kept_by p (x ∷ xs) y i t = elim (Contains-cons_cases x y xs i) [
  | inl e ↦ subst (λ b. Contains (cond b (x ∷ filter p xs) (filter p xs)) y) (sym (ap p e ∙ t)) (subst (Contains (x ∷ filter p xs)) e (Contains-head x (filter p xs)))
  | inr j ↦ at (p x) (kept_by p xs y j t)
]
  where
    at : (b : Bool) → Contains (filter p xs) y → Contains (cond b (x ∷ filter p xs) (filter p xs)) y
    at true i = Contains-cons x y (filter p xs) i
    at false i = i

pub in_map : (C : Clause) (l : Literal) → Contains C (negation l) → Contains (map negation C) l
in_map [] l i = absurd (Contains-nil (negation l) i)
in_map (x ∷ C) l i = elim (Contains-cons_cases x (negation l) C i) [
  | inl e ↦ subst (Contains (negation x ∷ map negation C)) (ap negation e ∙ negation-negation l) (Contains-head (negation x) (map negation C))
  | inr j ↦ Contains-cons (negation x) l (map negation C) (in_map C l j)
]

pub from_map : (C : Clause) (l : Literal) → Contains (map negation C) l → Contains C (negation l)
from_map [] l i = absurd (Contains-nil l i)
from_map (x ∷ C) l i = elim (Contains-cons_cases (negation x) l (map negation C) i) [
  | inl e ↦ subst (Contains (x ∷ C)) (sym (negation-negation x) ∙ ap negation e) (Contains-head x C)
  | inr j ↦ Contains-cons x (negation l) C (from_map C l j)
]

pub within_map : (vars : ℕ) (C : Clause) → All (IsWithin vars) C → All (IsWithin vars) (map negation C)
within_map vars C h i d b =
    let l = get_or (map negation C) i d in
    subst (IsWithin vars) (negation-negation l) (IsWithin-negation vars (negation l) (All-contains (IsWithin vars) C (negation l) h (from_map C l (Contains-get_or (map negation C) i d b))))

distinct_filter : (p : Literal → Bool) (xs : List Literal) → IsDistinct same xs → IsDistinct same (filter p xs)
distinct_filter p xs h = IsDistinct-from_apart same (filter p xs) (AllPairs-filter (λ x y. same x y ≡ false) p xs (λ i j d lt l. apart_from_distinct same xs i j d h lt l))

-- whether a literal has the stamp
abbrev marked : List ℕ → ℕ → Literal → Bool
marked stamps stamp = λ l. nat_eq (get_or stamps (index_of l) 0) stamp

pub picked : (q : Cube) (lits others kept : Clause) (stamps : List ℕ) (stamp : ℕ) (core : List Literal) → others ≡ map negation lits → AreMarks others kept stamps stamp
    → core ≡ filter (λ l. nat_eq (get_or stamps (index_of l) 0) stamp) q → ArePicked q lits core
picked q lits others kept stamps stamp core e m is = record {
  within = λ l i. (Contains-filter (marked stamps stamp) q l (subst (λ xs. Contains xs l) is i)).0;
  only = λ l i.
      let t = (Contains-filter (marked stamps stamp) q l (subst (λ xs. Contains xs l) is i)).1 in
      from_map lits l (subst (λ xs. Contains xs l) e ((m.twins l).1 ((m.stamped l).0 (eqb-true (get_or stamps (index_of l) 0) stamp t))));
  all = λ l i j.
      let k = (m.stamped l).1 ((m.twins l).0 (subst (λ xs. Contains xs l) (sym e) (in_map lits l j))) in
      subst (λ xs. Contains xs l) (sym is) (kept_by (marked stamps stamp) q l i (eq-eqb (get_or stamps (index_of l) 0) stamp k));
  part = subst (λ xs. IsSubsequenceOf xs q) (sym is) (part_filter (marked stamps stamp) q);
  distinct = λ d. subst (IsDistinct same) (sym is) (distinct_filter (marked stamps stamp) q d);
}

-- ---- what is still ready
pub lemmas_stay : (old new : Live) (id : ℕ) (lits : Clause) (xs ys : List ℕ) → ys ≡ xs → IsAdded old id lits new → AreLemmas 0 old xs → AreLemmas 0 new ys
lemmas_stay old new id lits xs ys e add h = subst (AreLemmas 0 new) (sym e) (record {
  rising = h.rising;
  behind = h.behind;
  lives = All-weaker (λ n. (C : Clause) × old n C) (λ n. (C : Clause) × new n C) (λ n c. let d = add.stays n c.0 c.1 in (d.0, d.1)) xs h.lives;
})

-- ---- why a query fails
pub pair_fails : (live : Live) (vars : ℕ) (q : Cube) (lemma : Lemma) (l : Literal) → lemma.lits.items ≡ l ∷ negation l ∷ [] → lemma.hints.items ≡ [] → IsWithin vars l → Contains q l → Contains q (negation l) → RefutesQuery live vars q lemma
pair_fails live vars q lemma l e bare within i j = record {
  numbers = subst (All IsClauseNumber) (sym bare) (All-nil IsClauseNumber);
  follows = inl (subst IsTautology (sym e) (l, Contains-head l (negation l ∷ []), Contains-cons l (negation l) (negation l ∷ []) (Contains-head (negation l) [])));
  negates = λ k c. elim (Contains-cons_cases l k (negation l ∷ []) (subst (λ xs. Contains xs k) e c)) [
    | inl s ↦ subst (λ x. Contains q (negation x)) s j
    | inr c ↦ elim (Contains-cons_cases (negation l) k [] c) [
      | inl s ↦ subst (λ x. Contains q (negation x)) s (subst (Contains q) (sym (negation-negation l)) i)
      | inr z ↦ absurd (Contains-nil k z)
    ]
  ];
  within = subst (All (IsWithin vars)) (sym e) (All-cons (IsWithin vars) l (negation l ∷ []) within (All-cons (IsWithin vars) (negation l) [] (IsWithin-negation vars l within) (All-nil (IsWithin vars))));
}

-- the search went on over the same clauses
module _ {P : Type 0} (is_ready : P → Clauses → TrailValue → Type 0) (attached : P → List ℕ) (s u : Session P)
    (same : SameUpToOrder s.search.state.arena u.search.state.arena) (vars : vars_of u ≡ vars_of s) (top : u.top ≡ s.top) (lemmas : u.search.lemmas.items ≡ s.search.lemmas.items)
    (units : u.search.units.numbers.items ≡ s.search.units.numbers.items) where
  pub ready_same : IsSteady is_ready attached u.search.state → AreStamped (vars_of u) u.marks → IsReady is_ready attached s → IsReady is_ready attached u
  ready_same steady stamped h = record {
    steady = steady;
    below = λ j D i.
        let o = same_back s.search.state.arena u.search.state.arena same j D i in
        let b = h.below j o.0 o.1 in
        let up = b.1 in
        (b.0, omega arith);
    lemmas = subst (AreLemmas 0 (live_in_session u)) (sym lemmas) (lemmas_same 0 s.search.state.arena u.search.state.arena s.search.lemmas.items same h.lemmas);
    noted = subst (AreNoted (live_in_session u)) (sym units) (noted_same s.search.state.arena u.search.state.arena s.search.units.numbers.items same h.noted);
    few = subst (λ v. v ≤ 199999999) (sym vars) h.few;
    bounded = subst (λ n. n ≤ 2 ^ 47) (sym top) h.bounded;
    stamped = stamped;
  }

  pub given_same : (F : List Clause) → AreGiven F s → AreGiven F u
  given_same F h = subst (HasClauses F (live_in_session u)) (sym lemmas) (has_same F s.search.state.arena u.search.state.arena s.search.lemmas.items same h)

-- the same arena
pub same_arena : (m k : Clauses) → k ≡ m → SameUpToOrder m k
same_arena m k e = subst (SameUpToOrder m) (sym e) (record { there = λ n p C h. (C, h, record { len = refl; literals = λ l. (λ y. y, λ y. y) }); none = λ n h. h })

-- except its marks a session is as it was
module _ {P : Type 0} (is_ready : P → Clauses → TrailValue → Type 0) (attached : P → List ℕ) (s u : Session P) (e : u.search ≡ s.search) (top : u.top ≡ s.top) where
  pub ready_marked : AreStamped (vars_of u) u.marks → IsReady is_ready attached s → IsReady is_ready attached u
  ready_marked stamped h = ready_same is_ready attached s u (same_arena s.search.state.arena u.search.state.arena (ap (λ (x : Search P). x.state.arena) e)) (ap (λ (x : Search P). x.state.trail.vars) e) top
      (ap (λ (x : Search P). x.lemmas.items) e) (ap (λ (x : Search P). x.units.numbers.items) e) (subst (λ (x : Search P). IsSteady is_ready attached x.state) (sym e) h.steady) stamped h

  pub given_marked : (F : List Clause) → AreGiven F s → AreGiven F u
  given_marked F h = subst (λ (x : Search P). HasClauses F (live_of x.state.arena) x.lemmas.items) (sym e) h

-- except its log a session is as it was
module _ {P : Type 0} (is_ready : P → Clauses → TrailValue → Type 0) (attached : P → List ℕ) (s : Session P) (x : Search P) (e : x ≡ record s.search { log = [] }) where
  pub ready_logged : IsReady is_ready attached s → IsReady is_ready attached (record s { search = x })
  ready_logged h = subst (λ (y : Search P). IsReady is_ready attached (record s { search = y })) (sym e)
      (record { steady = h.steady; below = h.below; lemmas = h.lemmas; noted = h.noted; few = h.few; bounded = h.bounded; stamped = h.stamped })

  pub given_logged : (F : List Clause) → AreGiven F s → AreGiven F (record s { search = x })
  given_logged F h = subst (λ (y : Search P). HasClauses F (live_of y.state.arena) y.lemmas.items) (sym e) h

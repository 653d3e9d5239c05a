-- The decision order agrees with the trail as it grows and is cut.
use Rattle.std.proofs.Common.{◌≡◌, ◌≢◌, ℕ, ◌<◌, inl, inr, Bool, true, false, ◌||◌, List, [], ◌∷◌, ◌++◌, get_or, length, set, take, ◌+◌, ◌-◌, refl, sym, ◌∙◌, ap, subst}
use Rattle.std.specs.List.{All, Contains}
use Rattle.std.proofs.lemmas.List.{get_or-set_same, get_or-set_other, get_or_past}
use Rattle.std.proofs.lemmas.Bool.{true≢false, both_ways, cases_Bool, cases_eq, cases_lt, or_left, or_right, or_cases}
use Rattle.std.proofs.lemmas.List.Elements.{All-contains, Contains-append_right}
use Rattle.std.proofs.lemmas.List.Folds.{list_any-append}
use Rattle.dimacs.specs.logic.ClauseMap.{live_in, map_of}
use Rattle.dimacs.specs.logic.Cnf.{Cnf, IsBase}
use Rattle.dimacs.specs.logic.Literal.{Literal, Clause, Pos, Neg, IsWithin, negation, same, var_of}
use Rattle.dimacs.proofs.LiteralLemmas.{same_or_not, same-true, same-itself, var_of-negation, negation-negation, twins}
use Rattle.dimacs.proofs.Members.{Contains-head, Contains-cons, Contains-cons_cases, Contains-nil}
use Rattle.decide_heap.specs.Decisions.{Decisions, is_in, with_member}
use Rattle.conflict_analysis.proofs.FrontLemmas.{Contains-take_more}
use Rattle.clause_arena.specs.Clauses.{Clauses, live_of}
use Rattle.conflict_analysis.specs.BuiltTrails.{AreInside}
use Rattle.conflict_analysis.specs.Lemmas.{IsAsserting}
use Rattle.lrat_text.proofs.ClauseMapLemmas.{numbered_between}
use Rattle.watches.specs.Trails.{TrailValue, holds, up_to}
use Rattle.watches.specs.declared.trail.Assigned.{Assigned}
use Rattle.cube_solve.specs.inner.DecisionOrder.{IsOrder, AreInserted, ArePutBack, AreAllIn, HasNoFree, HasSameMembers, HasVariables, KeepsFree, KeepsFreeBut}
use Rattle.cube_solve.proofs.LevelCutLemmas.{up_to_has}
use Rattle.cube_solve.proofs.SessionLemmas.{in_base}
use Rattle.cube_solve.specs.inner.Reduction.{AreAllExcept}
use Rattle.cube_solve.specs.inner.State.{IsTotal}
use Rattle.cube_solve.specs.inner.Steps.{IsUnassigned}
use Rattle.cube_solve.specs.inner.Twins.{AreAmong, AreLinked, IsAdded}

pub holds-append : (xs ys : List Assigned) (l : Literal) → holds (xs ++ ys) l ≡ (holds xs l || holds ys l)
holds-append xs ys l = list_any-append (λ e. same e.literal l) xs ys

left_false : (a b : Bool) → (a || b) ≡ false → a ≡ false
left_false true b e = e
left_false false b e = refl

neither : (a b : Bool) → a ≡ false → b ≡ false → (a || b) ≡ false
neither true b e f = absurd (true≢false e)
neither false b e f = f

-- a literal of a list of entries is one's
pub entry_there : (es : List Assigned) (l : Literal) → holds es l ≡ true → (e : Assigned) × Contains es e × (e.literal ≡ l)
entry_there [] l h = absurd (true≢false (sym h))
entry_there (e ∷ es) l h = elim (or_cases (same e.literal l) (holds es l) h) [
  | inl s ↦ (e, Contains-head e es, same-true e.literal l s)
  | inr r ↦ let t = entry_there es l r in (t.0, Contains-cons e t.0 es t.1, t.2)
]

-- free after more entries is free before
free_front : (t u : TrailValue) (more : List Assigned) (l : Literal) → u.vars ≡ t.vars → u.entries ≡ t.entries ++ more → IsUnassigned u l → IsUnassigned t l
free_front t u more l v w f = record {
  within = subst (λ n. IsWithin n l) v f.within;
  not_true = left_false (holds t.entries l) (holds more l) (sym (holds-append t.entries more l) ∙ ap (λ es. holds es l) (sym w) ∙ f.not_true);
  not_false = left_false (holds t.entries (negation l)) (holds more (negation l)) (sym (holds-append t.entries more (negation l)) ∙ ap (λ es. holds es (negation l)) (sym w) ∙ f.not_false);
}

pub order_grows : (m : Clauses) (t u : TrailValue) (d : Decisions) (more : List Assigned) → u.vars ≡ t.vars → u.entries ≡ t.entries ++ more → IsOrder m t d → IsOrder m u d
order_grows m t u d more v w h = record {
  vars = h.vars ∙ sym v;
  waits = λ l i f. h.waits l i (free_front t u more l v w f);
}

-- what was unassigned was not taken out
pub order_kept : (m : Clauses) (t : TrailValue) (old new : Decisions) → KeepsFree t old new → IsOrder m t old → IsOrder m t new
order_kept m t old new k h = record {
  vars = k.vars ∙ h.vars;
  waits = λ l i f. k.kept l f (h.waits l i f);
}

-- the entry's own literal has a value
decided_apart : (u : TrailValue) (es : List Assigned) (e : Assigned) (k : Literal) → u.entries ≡ es ++ e ∷ [] → IsUnassigned u k → var_of k ≢ var_of e.literal
decided_apart u es e k w f s = elim (twins k e.literal s) [
  | inl i ↦ both_ways (holds u.entries k) f.not_true (ap (λ xs. holds xs k) w ∙ subst (λ m. holds (es ++ e ∷ []) m ≡ true) (sym i) there)
  | inr i ↦ both_ways (holds u.entries (negation k)) f.not_false (ap (λ xs. holds xs (negation k)) w
      ∙ subst (λ m. holds (es ++ e ∷ []) m ≡ true) (sym (ap negation i ∙ negation-negation e.literal)) there)
]
  where
    there : holds (es ++ e ∷ []) e.literal ≡ true
    there = holds-append es (e ∷ []) e.literal ∙ or_right (holds es e.literal) (holds (e ∷ []) e.literal) (or_left (same e.literal e.literal) (holds [] e.literal) (same-itself e.literal))

pub order_decided : (m : Clauses) (t u : TrailValue) (old new : Decisions) (e : Assigned) → u.vars ≡ t.vars → u.entries ≡ t.entries ++ e ∷ [] → KeepsFreeBut t e.literal old new → IsOrder m t old → IsOrder m u new
order_decided m t u old new e v w b h = record {
  vars = b.vars ∙ h.vars ∙ sym v;
  waits = λ k i f. let g = free_front t u (e ∷ []) k v w f in b.kept k g (decided_apart u t.entries e k w f) (h.waits k i g);
}

-- what was cut waits again
module _ (t u : TrailValue) (level : ℕ) (old new : Decisions) (cut : (gone : List Assigned) × (t.entries ≡ u.entries ++ gone) × All (λ e. level < e.level) gone) (put : ArePutBack t level old new) where
  back_in : (l : Literal) → holds cut.0 l ≡ true → is_in new (var_of l) ≡ true
  back_in l h =
      let x = entry_there cut.0 l h in
      subst (λ m. is_in new (var_of m) ≡ true) x.2
      (put.back x.0 (subst (λ es. Contains es x.0) (sym cut.1) (Contains-append_right u.entries cut.0 x.0 x.1)) (All-contains (λ y. level < y.level) cut.0 x.0 cut.2 x.1))

  pub order_cut : (m : Clauses) → u.vars ≡ t.vars → IsOrder m t old → IsOrder m u new
  order_cut m v h = record {
    vars = put.vars ∙ h.vars ∙ sym v;
    waits = λ l i f. elim (cases_Bool (holds cut.0 l)) [
      | inl here ↦ back_in l here
      | inr out ↦ elim (cases_Bool (holds cut.0 (negation l))) [
        | inl here ↦ subst (λ n. is_in new n ≡ true) (var_of-negation l) (back_in (negation l) here)
        | inr also ↦ put.kept (var_of l) (h.waits l i (record {
          within = subst (λ n. IsWithin n l) v f.within;
          not_true = ap (λ es. holds es l) cut.1 ∙ holds-append u.entries cut.0 l ∙ neither (holds u.entries l) (holds cut.0 l) f.not_true out;
          not_false = ap (λ es. holds es (negation l)) cut.1 ∙ holds-append u.entries cut.0 (negation l) ∙ neither (holds u.entries (negation l)) (holds cut.0 (negation l)) f.not_false also;
        }))
      ]
    ];
  }

  -- whatever was false is in it, if it is unassigned now
  pub cut_waits : (l : Literal) → holds t.entries (negation l) ≡ true → IsUnassigned u l → is_in new (var_of l) ≡ true
  cut_waits l h f = elim (or_cases (holds u.entries (negation l)) (holds cut.0 (negation l)) (sym (holds-append u.entries cut.0 (negation l)) ∙ ap (λ es. holds es (negation l)) (sym cut.1) ∙ h)) [
    | inl left ↦ absurd (both_ways (holds u.entries (negation l)) f.not_false left)
    | inr gone ↦ subst (λ n. is_in new n ≡ true) (var_of-negation l) (back_in (negation l) gone)
  ]

pub order_same : (m : Clauses) (t : TrailValue) (old new : Decisions) → HasSameMembers old new → IsOrder m t old → IsOrder m t new
order_same m t old new s h = record {
  vars = s.vars ∙ h.vars;
  waits = λ l i f. ap (λ ms. get_or ms (var_of l - 1) false) s.members ∙ h.waits l i f;
}

-- ---- other clauses
-- no literal is new
pub order_among : (m k : Clauses) (t : TrailValue) (d : Decisions) → AreAmong (live_of k) (live_of m) → IsOrder m t d → IsOrder k t d
order_among m k t d among h = record {
  vars = h.vars;
  waits = λ l (n, D, i, j) f. let o = among n D i in h.waits l (n, o.0, o.1, (o.2 l).1 j) f;
}

-- some are gone
pub order_less : (m k : Clauses) (ids : List ℕ) (t : TrailValue) (d : Decisions) → AreAllExcept (live_of m) ids (live_of k) → IsOrder m t d → IsOrder k t d
order_less m k ids t d less h = order_among m k t d (λ n D i. (D, (less.was n D i).1, λ l. ((λ j. j), (λ j. j)))) h

-- the unassigned literals of a clause that is new are in it
pub order_added : (m k : Clauses) (id : ℕ) (lits : Clause) (t : TrailValue) (d : Decisions) → IsAdded (live_of m) id lits (live_of k) → ((l : Literal) → Contains lits l → IsUnassigned t l → is_in d (var_of l) ≡ true)
    → IsOrder m t d → IsOrder k t d
order_added m k id lits t d add there h = record {
  vars = h.vars;
  waits = λ l (n, D, i, j) f. elim (add.only n D i) [
    | inl o ↦ h.waits l (n, o.0, o.1, (o.2 l).1 j) f
    | inr e ↦ there l ((e.1 l).1 j) f
  ];
}

pub order_inserted : (m : Clauses) (t : TrailValue) (lits : Clause) (old new : Decisions) → AreInserted lits old new → IsOrder m t old → IsOrder m t new
order_inserted m t lits old new s h = record {
  vars = s.vars ∙ h.vars;
  waits = λ l i f. s.kept (var_of l) (h.waits l i f);
}

-- at the start the variables of the base are in it
pub order_begins : (B : Cnf) (m : Clauses) (t : TrailValue) (d : Decisions) → d.vars ≡ B.vars → t.vars ≡ B.vars → AreLinked (live_in (map_of B)) (live_of m) → HasVariables B.clauses d → IsOrder m t d
order_begins B m t d v w linked h = record {
  vars = v ∙ sym w;
  waits = λ l (n, D, i, j) f.
      let c = linked.back n D i in
      let b = numbered_between B.clauses n c.0 c.1 in
      h c.0 l (in_base B n c.0 b.0 b.1 c.1) ((c.2 l).1 j);
}

-- if all variables are in it, those of the base's clauses are
pub all_named : (B : Cnf) (d : Decisions) → IsBase B → AreAllIn B.vars d → HasVariables B.clauses d
all_named B d valid h C l i j = let w = All-contains (IsWithin B.vars) C l (All-contains (All (IsWithin B.vars)) B.clauses C valid.within i) j in h.waits (var_of l) w.0 w.1

-- one more clause of the base
pub named_more : (F : List Clause) (i : ℕ) (C : Clause) (old new : Decisions) → i < length F → C ≡ get_or F i [] → AreInserted C old new → HasVariables (take i F) old → HasVariables (take (i + 1) F) new
named_more F i C old new lt is s h D l j k = elim (Contains-take_more F i [] D lt j) [
  | inl before ↦ s.kept (var_of l) (h D l before k)
  | inr here ↦ s.there l (subst (λ (K : Clause). Contains K l) (sym (is ∙ here)) k)
]

-- one more literal of a clause
pub inserted_more : (C : Clause) (i : ℕ) (x : Literal) (old heap new : Decisions) → i < length C → x ≡ get_or C i x → AreInserted (take i C) old heap → new.vars ≡ heap.vars
    → ((v : ℕ) → is_in heap v ≡ true → is_in new v ≡ true) → is_in new (var_of x) ≡ true → AreInserted (take (i + 1) C) old new
inserted_more C i x old heap new lt is h vars kept here = record {
  vars = vars ∙ h.vars;
  kept = λ v k. kept v (h.kept v k);
  there = λ l j. elim (Contains-take_more C i x l lt j) [
    | inl before ↦ kept (var_of l) (h.there l before)
    | inr at ↦ subst (λ k. is_in new (var_of k) ≡ true) (is ∙ at) here
  ];
}

-- what was put into the heap is in it, and whatever was in it
pub member_kept : (d : Decisions) (w v : ℕ) → is_in d v ≡ true → is_in (with_member d w true) v ≡ true
member_kept d w v h = elim (cases_eq (v - 1) (w - 1)) [
  | inl e ↦ elim (cases_lt (w - 1) (length d.members)) [
    | inl inside ↦ ap (λ k. get_or (set d.members (w - 1) true) k false) e ∙ get_or-set_same d.members (w - 1) true false inside
    | inr past ↦ absurd (both_ways (is_in d v) (ap (λ k. get_or d.members k false) e ∙ get_or_past d.members (w - 1) false past) h)
  ]
  | inr apart ↦ get_or-set_other d.members (w - 1) (v - 1) true false apart ∙ h
]

-- if no unassigned variable is in it, each literal of a clause has a value
pub order_total : (m : Clauses) (t : TrailValue) (d : Decisions) → AreInside (live_of m) t.vars → IsOrder m t d → HasNoFree t d → IsTotal m t
order_total m t d inside h none l (n, C, i, j) = elim (cases_Bool (holds t.entries l)) [
  | inl y ↦ inl y
  | inr not ↦ elim (cases_Bool (holds t.entries (negation l))) [
    | inl y ↦ inr y
    | inr nor ↦
        let f : IsUnassigned t l = record { within = All-contains (IsWithin t.vars) C l (inside n C i) j; not_true = not; not_false = nor } in
        absurd (both_ways (is_in d (var_of l)) (none l f) (h.waits l (n, C, i, j) f))
  ]
]

-- each literal of an asserting lemma is false
pub asserting_false : (es : List Assigned) (lits : Clause) (level : ℕ) → IsAsserting es lits level → (l : Literal) → Contains lits l → holds es (negation l) ≡ true
asserting_false es lits level a l i = elim (same_or_not l a.literal) [
  | inl e ↦ ap (λ (x : Literal). holds es (negation x)) e ∙ a.is_false
  | inr d ↦ up_to_has es level (negation l) (a.others l i d)
]

-- the literal of a clause of one literal is not unassigned if it is true
pub fixed_free : (t : TrailValue) (l k : Literal) → up_to t.entries 0 l ≡ true → Contains (l ∷ []) k → IsUnassigned t k → ⊥
fixed_free t l k fixed i f = elim (Contains-cons_cases l k [] i) [
  | inl e ↦ both_ways (holds t.entries k) f.not_true (ap (holds t.entries) (sym e) ∙ up_to_has t.entries 0 l fixed)
  | inr z ↦ Contains-nil k z
]

-- a variable with a value is not unassigned
pub assigned_true : (t : TrailValue) (l : Literal) (v : ℕ) → var_of l ≡ v → IsUnassigned t l → holds t.entries (Neg v) ≡ true → ⊥
assigned_true t (Pos w) v e f h = both_ways (holds t.entries (Neg w)) f.not_false (ap (λ n. holds t.entries (Neg n)) e ∙ h)
assigned_true t (Neg w) v e f h = both_ways (holds t.entries (Neg w)) f.not_true (ap (λ n. holds t.entries (Neg n)) e ∙ h)

pub assigned_false : (t : TrailValue) (l : Literal) (v : ℕ) → var_of l ≡ v → IsUnassigned t l → holds t.entries (Pos v) ≡ true → ⊥
assigned_false t (Pos w) v e f h = both_ways (holds t.entries (Pos w)) f.not_true (ap (λ n. holds t.entries (Pos n)) e ∙ h)
assigned_false t (Neg w) v e f h = both_ways (holds t.entries (Pos w)) f.not_false (ap (λ n. holds t.entries (Pos n)) e ∙ h)

-- Assumptions, and the decisions above them.
use Rattle.std.proofs.Common.{◌≡◌, ℕ, ◌+◌, ◌<◌, ◌≤◌, ◌⊎◌, inl, inr, true, false, List, [], ◌∷◌, ◌++◌, length, get_or, ap, sym, ◌∙◌, subst, arith, None}
use Rattle.std.specs.Prelude.{max, min}
use Rattle.std.specs.List.{All, Contains}
use Rattle.std.proofs.lemmas.Bool.{both_ways, or_left, cases_lt}
use Rattle.std.proofs.lemmas.List.Elements.{All-contains, All-weaker, Contains-append_cases, Contains-append_left}
use Rattle.dimacs.specs.logic.ClauseMap.{Live}
use Rattle.dimacs.specs.logic.Literal.{Literal}
use Rattle.dimacs.proofs.Members.{Contains-cons_cases, Contains-nil}
use Rattle.clause_arena.specs.Clauses.{Clauses, live_of}
use Rattle.watches.specs.declared.trail.Assigned.{Assigned}
use Rattle.watches.specs.Law.{AreImplied, Grows, live_among}
use Rattle.watches.specs.Trails.{TrailValue, holds, present, up_to}
use Rattle.watches.proofs.LevelLemmas.{le_present, present_le}
use Rattle.conflict_analysis.specs.BuiltTrails.{AreBuilt, IsDecided}
use Rattle.cube_solve.specs.Conflicts.{AllHold}
use Rattle.cube_solve.specs.inner.State.{AreAssumed, IsAssuming}
use Rattle.cube_solve.proofs.LevelCutLemmas.{up_to-append, up_to_low, up_to_has, up_to_front, implied_present, present-append}

-- what is implied has a reason
none_implied : (live : Live) (es more : List Assigned) → AreImplied live es more → (e : Assigned) → Contains more e → e.reason ≡ None → ⊥
none_implied live es [] h e i r = Contains-nil e i
none_implied live es (x ∷ more) h e i r = elim (Contains-cons_cases x e more i) [
  | inl q ↦ let a : x.reason ≡ None = ap (λ (y : Assigned). y.reason) q ∙ r in let b = (h.0).reason in absurd (cc)
  | inr j ↦ none_implied live (es ++ x ∷ []) more h.1 e j r
]

pub assumed_grows : (att : List ℕ) (m : Clauses) (t u : TrailValue) (cube : List Literal) (a : ℕ) → Grows (live_among att (live_of m)) t u → AreAssumed cube t.entries a → AreAssumed cube u.entries a
assumed_grows att m t u cube a g h e i r l = elim (Contains-append_cases t.entries g.more e (subst (λ xs. Contains xs e) g.entries i)) [
  | inl j ↦ h e j r l
  | inr j ↦ absurd (none_implied (live_among att (live_of m)) t.entries g.more g.implied e j r)
]

-- one more decision; what is assumed up to a level below it is as before
pub assumed_below : (cube : List Literal) (es us : List Assigned) (x : Assigned) (a b : ℕ) → us ≡ es ++ x ∷ [] → b ≤ a → b < x.level → AreAssumed cube es a → AreAssumed cube us b
assumed_below cube es us x a b w le lt h e i r l = elim (Contains-append_cases es (x ∷ []) e (subst (λ xs. Contains xs e) w i)) [
  | inl j ↦ h e j r (omega arith)
  | inr j ↦ elim (Contains-cons_cases x e [] j) [ inl q ↦ absurd (let z = ap (λ (y : Assigned). y.level) q in omega arith) | inr n ↦ absurd (Contains-nil e n) ]
]

-- one more assumption
pub assumed_more : (cube : List Literal) (es us : List Assigned) (x : Assigned) (a b : ℕ) → us ≡ es ++ x ∷ [] → Contains cube x.literal
    → ((e : Assigned) → Contains es e → e.level ≤ b → e.level ≤ a) → AreAssumed cube es a → AreAssumed cube us b
assumed_more cube es us x a b w c f h e i r l = elim (Contains-append_cases es (x ∷ []) e (subst (λ xs. Contains xs e) w i)) [
  | inl j ↦ h e j r (f e j l)
  | inr j ↦ elim (Contains-cons_cases x e [] j) [ inl q ↦ subst (λ (y : Assigned). Contains cube y.literal) q c | inr n ↦ absurd (Contains-nil e n) ]
]

pub level_le : (es : List Assigned) (e : Assigned) → Contains es e → e.level ≤ present es
level_le es e i = All-contains (λ x. x.level ≤ present es) es e (le_present es) i

-- ---- the assumptions
pub up_to_longer : (es more : List Assigned) (k : ℕ) (l : Literal) → up_to es k l ≡ true → up_to (es ++ more) k l ≡ true
up_to_longer es more k l h = up_to-append es more k l ∙ or_left (up_to es k l) (up_to more k l) h

pub assuming_grows : (att : List ℕ) (m : Clauses) (t u : TrailValue) (cube : List Literal) (a : ℕ) → Grows (live_among att (live_of m)) t u → IsAssuming cube t.entries a → IsAssuming cube u.entries a
assuming_grows att m t u cube a g h = record {
  decided = assumed_grows att m t u cube a g h.decided;
  full = elim h.full [
    | inl p ↦ inl (let q : present u.entries ≡ present t.entries = ap present g.entries ∙ implied_present (live_among att (live_of m)) t.entries g.more g.implied in omega arith)
    | inr f ↦ inr (λ l i. subst (λ es. up_to es a l ≡ true) (sym g.entries) (up_to_longer t.entries g.more a l (f l i)))
  ];
}

-- an assumption is decided: none was above the assumed levels, for the cube was not true yet
pub assuming_below : (cube : List Literal) (es : List Assigned) (a : ℕ) (l : Literal) → Contains cube l → holds es l ≡ false → IsAssuming cube es a → present es ≤ a
assuming_below cube es a l i f h = elim h.full [
  | inl p ↦ p
  | inr t ↦ absurd (both_ways (holds es l) f (up_to_has es a l (t l i)))
]

assuming_assume : (cube : List Literal) (es us : List Assigned) (x : Assigned) (a b : ℕ) → us ≡ es ++ x ∷ [] → Contains cube x.literal → holds es x.literal ≡ false → x.level ≡ present es + 1
    → ((e : Assigned) → Contains es e → e.level ≤ b → e.level ≤ a) → (present es ≤ a → present es + 1 ≤ b) → IsAssuming cube es a → IsAssuming cube us b
assuming_assume cube es us x a b w i f l k le h = record {
  decided = assumed_more cube es us x a b w i k h.decided;
  full = inl (let q = le (assuming_below cube es a x.literal i f h) in let p : present us ≡ _ = ap present w ∙ present-append es (x ∷ []) in omega arith);
}

assuming_decide : (cube : List Literal) (es us : List Assigned) (x : Assigned) (a b : ℕ) → us ≡ es ++ x ∷ [] → x.level ≡ present es + 1 → AllHold es cube
    → b ≤ a → b ≤ present es → ((present es ≤ b) ⊎ (a ≡ b)) → IsAssuming cube es a → IsAssuming cube us b
assuming_decide cube es us x a b w l all le top which h = record {
  decided = assumed_below cube es us x a b w le (omega arith) h.decided;
  full = inr (λ m i. subst (λ zs. up_to zs b m ≡ true) (sym w) (up_to_longer es (x ∷ []) b m (go m i)));
}
  where
    low : (cube : List Literal) (es : List Assigned) (b : ℕ) (m : Literal) → AllHold es cube → present es ≤ b → Contains cube m → up_to es b m ≡ true
    low cube es b m all p i = up_to_low es b m (All-weaker (λ y. y.level ≤ present es) (λ y. y.level ≤ b) (λ y q. omega arith) es (le_present es)) ∙ all m i

    go : (m : Literal) → Contains cube m → up_to es b m ≡ true
    go m i = elim which [
      | inl p ↦ low cube es b m all p i
      | inr e ↦ elim h.full [
        | inl p ↦ low cube es b m all (omega arith) i
        | inr f ↦ subst (λ k. up_to es k m ≡ true) e (f m i)
      ]
    ]

pub assuming_begins : (cube : List Literal) (es : List Assigned) → es ≡ [] → IsAssuming cube es 0
assuming_begins cube es none = record {
  decided = λ e i. absurd (Contains-nil e (subst (λ xs. Contains xs e) none i));
  full = inl (let p : present es ≡ 0 = ap present none in omega arith);
}

-- a decision opened a level
pub decided_above : (live : Live) (front es : List Assigned) → AreBuilt live front es → (e : Assigned) → Contains es e → e.reason ≡ None → 1 ≤ e.level
decided_above live front [] h e i r = absurd (Contains-nil e i)
decided_above live front (x ∷ es) h e i r = elim (Contains-cons_cases x e es i) [
  | inl q ↦ elim h.0 [
    | inl y ↦ let a : x.reason ≡ None = ap (λ (z : Assigned). z.reason) q ∙ r in let b = y.reason in absurd (cc)
    | inr d ↦ let l = d.level in let m : x.level ≡ e.level = ap (λ (z : Assigned). z.level) q in omega arith
  ]
  | inr j ↦ decided_above live (front ++ x ∷ []) es h.1 e j r
]

-- at level 0 nothing is assumed
pub assuming_none : (live : Live) (cube : List Literal) (es : List Assigned) → AreBuilt live [] es → All (λ e. e.level ≤ 0) es → IsAssuming cube es 0
assuming_none live cube es h low = record {
  decided = λ e i r l. absurd (let a = decided_above live [] es h e i r in omega arith);
  full = inl (present_le es 0 low);
}

pub assuming_cut : (cube : List Literal) (es kept gone : List Assigned) (a level : ℕ) → es ≡ kept ++ gone → All (λ e. level < e.level) gone → All (λ e. e.level ≤ level) kept
    → IsAssuming cube es a → IsAssuming cube kept a
assuming_cut cube es kept gone a level w high low h = record {
  decided = λ e i. h.decided e (subst (λ xs. Contains xs e) (sym w) (Contains-append_left kept gone e i));
  full = elim h.full [
    | inl p ↦ inl (let q : present es ≡ _ = ap present w ∙ present-append kept gone in omega arith)
    | inr f ↦ elim (cases_lt level a) [
      | inl lt ↦ inl (let q = present_le kept level low in omega arith)
      | inr ge ↦ inr (λ l i. sym (up_to_front kept gone a l (All-weaker (λ e. level < e.level) (λ e. a < e.level) (λ e q. omega arith) gone high)) ∙ subst (λ xs. up_to xs a l ≡ true) w (f l i))
    ]
  ];
}

-- the levels that are kept are assumed from now on
pub assuming_shared : (cube : List Literal) (es kept gone : List Assigned) (a : ℕ) → es ≡ kept ++ gone → All (λ e. e.level ≤ a) kept → AreAssumed cube es a → IsAssuming cube kept a
assuming_shared cube es kept gone a w low h = record {
  decided = λ e i. h e (subst (λ xs. Contains xs e) (sym w) (Contains-append_left kept gone e i));
  full = inl (present_le kept a low);
}

-- above the assumed levels the cube is true
pub assuming_up_to : (cube : List Literal) (es : List Assigned) (a : ℕ) → IsAssuming cube es a → a < present es → (l : Literal) → Contains cube l → up_to es a l ≡ true
assuming_up_to cube es a h above l i = elim h.full [
  | inl p ↦ absurd (omega arith)
  | inr f ↦ f l i
]

pub assuming_all : (cube : List Literal) (es : List Assigned) (a : ℕ) → IsAssuming cube es a → a < present es → AllHold es cube
assuming_all cube es a h above l i = up_to_has es a l (assuming_up_to cube es a h above l i)

-- a literal that was found true at each place
pub all_hold : (es : List Assigned) (cube : List Literal) (n : ℕ) → length cube ≤ n → ((k : ℕ) (d : Literal) → k < n → holds es (get_or cube k d) ≡ true) → AllHold es cube
all_hold es cube n all h l (k, below, is) = subst (λ m. holds es m ≡ true) is (h k l (omega arith))

-- ---- a level that is opened by an assumption, or by a decision
opened : (es us : List Assigned) (x : Assigned) → us ≡ es ++ x ∷ [] → x.level ≡ present es + 1 → present us ≡ present es + 1
opened es us x w l = let p : present us ≡ _ = ap present w ∙ present-append es (x ∷ []) in omega arith

pub assuming_assumed : (cube : List Literal) (es us : List Assigned) (x : Assigned) (a : ℕ) → us ≡ es ++ x ∷ [] → Contains cube x.literal → IsDecided es x → IsAssuming cube es a → IsAssuming cube us (max a (present us))
assuming_assumed cube es us x a w i d h =
    let o = opened es us x w d.level in
    let b = assuming_below cube es a x.literal i d.not_true h in
    assuming_assume cube es us x a (max a (present us)) w i d.not_true d.level (λ e j le. let q = level_le es e j in omega arith) (λ le. omega arith) h

pub assuming_decided : (cube : List Literal) (es us : List Assigned) (x : Assigned) (a : ℕ) → us ≡ es ++ x ∷ [] → AllHold es cube → IsDecided es x → IsAssuming cube es a → IsAssuming cube us (min (present es) a)
assuming_decided cube es us x a w all d h = assuming_decide cube es us x a (min (present es) a) w d.level all (omega arith) (omega arith) (which (cases_lt a (present es))) h
  where
    which : ((a < present es) ⊎ (present es ≤ a)) → (present es ≤ min (present es) a) ⊎ (a ≡ min (present es) a)
    which (inl lt) = inr (omega arith)
    which (inr ge) = inl (omega arith)

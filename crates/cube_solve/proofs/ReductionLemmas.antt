-- Clauses that are deleted from the arena and from the state of a search.
use Rattle.std.proofs.Common.{zero, suc, ◌≡◌, ◌≢◌, ℕ, ◌+◌, ◌<◌, ◌≤◌, ◌⊎◌, inl, inr, Bool, true, false, not, List, [], ◌∷◌, ◌++◌, length, get_or, take, Option, Some, None, refl, ap, sym, ◌∙◌, subst, arith}
use Rattle.std.specs.List.{All, Contains, filter}
use Rattle.std.specs.Bool.{OnTrue, OnFalse}
use Rattle.std.specs.FinMap.{get, remove}
use Rattle.std.specs.Option.{is_some}
use Rattle.std.proofs.lemmas.Bool.{true≢false}
use Rattle.std.proofs.lemmas.List.Elements.{All-contains, All-filter, All-push, All-weaker, filter_passes, Contains-append_cases, Contains-append_left, Contains-append_right, Contains-get_or}
use Rattle.std.proofs.lemmas.List.Kept.{AllPairs-filter}
use Rattle.std.proofs.lemmas.List.Quantifiers.{all_pairs_push}
use Rattle.std.proofs.lemmas.List.{get_or-take, length-take}
use Rattle.dimacs.specs.logic.ClauseMap.{Live}
use Rattle.dimacs.specs.logic.Literal.{Clause}
use Rattle.dimacs.proofs.Members.{Contains-head, Contains-cons, Contains-cons_cases, Contains-nil}
use Rattle.clause_arena.specs.Clauses.{Clauses, live_of}
use Rattle.clause_arena.proofs.ClauseLaws.{get-remove_same, get-remove_other}
use Rattle.watches.specs.declared.trail.Assigned.{Assigned}
use Rattle.watches.specs.Law.{SameUpToOrder, AreWithout}
use Rattle.watches.specs.Trails.{TrailValue}
use Rattle.conflict_analysis.specs.BuiltTrails.{AreBuilt}
use Rattle.cube_solve.specs.inner.Reduction.{AreRising, AreLemmas, IsDeletable, AreAllExcept}
use Rattle.lrat_text.specs.Grammar.{IsClauseNumber}
use Rattle.cube_solve.specs.inner.LearntLog.{AreBelow}
use Rattle.cube_solve.specs.inner.Twins.{IsAdded}
use Rattle.cube_solve.specs.inner.State.{IsState}
use Rattle.cube_solve.proofs.ClauseLemmas.{same_forth}
use Rattle.cube_solve.proofs.LevelCutLemmas.{quiet_fewer}

-- ---- fewer clauses
pub less_none : (live : Live) → AreAllExcept live [] live
less_none live = record { stays = λ n C h k. h; was = λ n C h. (λ i. Contains-nil n i, h) }

pub less_push : (old mid new : Live) (ids : List ℕ) (id : ℕ) → AreAllExcept old ids mid → AreAllExcept mid (id ∷ []) new → AreAllExcept old (ids ++ id ∷ []) new
less_push old mid new ids id h k = record {
  stays = λ n C i out. k.stays n C (h.stays n C i (λ j. out (Contains-append_left ids (id ∷ []) n j))) (λ j. out (Contains-append_right ids (id ∷ []) n j));
  was = λ n C i.
      let a = k.was n C i in
      let b = h.was n C a.1 in
      (λ j. elim (Contains-append_cases ids (id ∷ []) n j) [ inl x ↦ b.0 x | inr x ↦ a.0 x ], b.1);
}

pub less_same : (old mid new : Live) (ids : List ℕ) → AreAllExcept old ids mid → AreAllExcept mid [] new → AreAllExcept old ids new
less_same old mid new ids h k = record {
  stays = λ n C i out. k.stays n C (h.stays n C i out) (Contains-nil n);
  was = λ n C i. h.was n C (k.was n C i).1;
}

pub less_removed : (m k : Clauses) (id : ℕ) → k ≡ remove m id → AreAllExcept (live_of m) (id ∷ []) (live_of k)
less_removed m k id is = record {
  stays = λ n C h out. (h.0, ap (λ (x : Clauses). get x n) is ∙ get-remove_other m id n (λ e. out (subst (Contains (id ∷ [])) (sym e) (Contains-head id []))) ∙ h.1);
  was = λ n C h.
      let there : get (remove m id) n ≡ Some (h.0, C) = ap (λ (x : Clauses). get x n) (sym is) ∙ h.1 in
      let apart : n ≢ id = λ e. none_some (h.0, C) (sym (get-remove_same m id) ∙ ap (get (remove m id)) (sym e) ∙ there) in
      (λ i. elim (Contains-cons_cases id n [] i) [ inl e ↦ apart (sym e) | inr z ↦ Contains-nil n z ], (h.0, sym (get-remove_other m id n apart) ∙ there));
}
  where
    none_some : (x : ℕ × Clause) → ◌≡◌ {A = Option (ℕ × Clause)} None (Some x) → ⊥
    none_some x e = cc

-- ---- the state
module _ (m k : Clauses) (ids : List ℕ) (less : AreAllExcept (live_of m) ids (live_of k)) where
  built_less : (es xs : List Assigned) → ((e : Assigned) → Contains xs e → (n : ℕ) → Contains ids n → ¬ (e.reason ≡ Some n)) → AreBuilt (live_of m) es xs → AreBuilt (live_of k) es xs
  built_less es [] free h = tt
  built_less es (x ∷ xs) free h = (
    elim h.0 [
      | inl i ↦ inl (record {
        number = i.number;
        clause = i.clause;
        reason = i.reason;
        lives = less.stays i.number i.clause i.lives (λ c. free x (Contains-head x xs) i.number c i.reason);
        unit = i.unit;
        level = i.level;
      })
      | inr d ↦ inr d
    ],
    built_less (es ++ x ∷ []) xs (λ e i. free e (Contains-cons x e xs i)) h.1,
  )

  pub state_less : (att now : List ℕ) (t : TrailValue) → ((n : ℕ) → Contains now n → Contains att n × ¬ (Contains ids n)) → ((n : ℕ) → Contains att n → ¬ (Contains ids n) → Contains now n)
      → ((e : Assigned) → Contains t.entries e → (n : ℕ) → Contains ids n → ¬ (e.reason ≡ Some n)) → IsState att m t → IsState now k t
  state_less att now t out back free s = record {
    all_attached = λ n C h. let w = less.was n C h in back n (s.all_attached n C w.1) w.0;
    all_live = λ n h. let o = out n h in let c = s.all_live n o.0 in (c.0, less.stays n c.0 c.1 o.1);
    inside = λ n C h. s.inside n C (less.was n C h).1;
    built = built_less [] t.entries free s.built;
    quiet = quiet_fewer (live_of m) (live_of k) t.entries (λ n d h. (d, (less.was n d h).1, λ l. (λ y. y, λ y. y))) s.quiet;
  }

-- one clause that is no reason
pub state_removed : (m k : Clauses) (id : ℕ) (att now : List ℕ) (t : TrailValue) → AreAllExcept (live_of m) (id ∷ []) (live_of k) → AreWithout att id now
    → ((e : Assigned) → Contains t.entries e → ¬ (e.reason ≡ Some id)) → IsState att m t → IsState now k t
state_removed m k id att now t less w free s = state_less m k (id ∷ []) less att now t
    (λ n h. let o = (w n).0 h in (o.0, λ i. o.1 (only n i)))
    (λ n h out. (w n).1 (h, λ e. out (subst (Contains (id ∷ [])) (sym e) (Contains-head id []))))
    (λ e i n c r. free e i (subst (λ x. e.reason ≡ Some x) (only n c) r)) s
  where
    only : (n : ℕ) → Contains (id ∷ []) n → n ≡ id
    only n i = elim (Contains-cons_cases id n [] i) [ inl e ↦ sym e | inr z ↦ absurd (Contains-nil n z) ]

-- the same clauses at other places
pub state_moved : (m k : Clauses) (att now : List ℕ) (t : TrailValue) → AreAllExcept (live_of m) [] (live_of k) → now ≡ att → IsState att m t → IsState now k t
state_moved m k att now t less e s = state_less m k [] less att now t
    (λ n h. (subst (λ xs. Contains xs n) e h, Contains-nil n)) (λ n h out. subst (λ xs. Contains xs n) (sym e) h) (λ x i n c. absurd (Contains-nil n c)) s

-- ---- lists of lemmas
pub spare_still : (old new : Live) (ids : List ℕ) (es : List Assigned) (n : ℕ) → AreAllExcept old ids new → ¬ (Contains ids n) → IsDeletable old es n → IsDeletable new es n
spare_still old new ids es n less out h = record { clause = h.clause; lives = less.stays n h.clause h.lives out; long = h.long; free = h.free }

at_any : (ys : List ℕ) (j a b : ℕ) → j < length ys → get_or ys j a ≡ get_or ys j b
at_any [] j a b l = absurd (omega arith)
at_any (y ∷ ys) zero a b l = refl
at_any (y ∷ ys) (suc j) a b l = at_any ys j a b (omega arith)

-- what stands at a place of rising numbers does not stand before it
pub not_before : (xs : List ℕ) (i d : ℕ) → AreRising xs → i < length xs → ¬ (Contains (take i xs) (get_or xs i d))
not_before xs i d rising l (k, below, is) =
    let short : k < i = omega (arith, length-take i xs) in
    let same : get_or xs k (get_or xs i d) ≡ get_or xs i d = sym (get_or-take i xs k (get_or xs i d) short) ∙ is in
    let up = rising k i (get_or xs i d) short l in
    let here : get_or xs i (get_or xs i d) ≡ get_or xs i d = at_any xs i (get_or xs i d) d l in
    omega arith

some_live : (k : Clauses) (n : ℕ) → is_some (get k n) ≡ true → (C : Clause) × live_of k n C
some_live k n h = at (get k n) refl h
  where
    at : (o : Option (ℕ × Clause)) → get k n ≡ o → is_some o ≡ true → (C : Clause) × live_of k n C
    at None e h = absurd (true≢false (sym h))
    at (Some x) e h = (x.1, (x.0, e))

pub none_rising : AreRising []
none_rising = λ i j d lt l. absurd (omega arith)

pub lemmas_none : (first : ℕ) (live : Live) → AreLemmas first live []
lemmas_none first live = record { rising = none_rising; behind = λ k d l. absurd (omega arith); lives = λ k d l. absurd (omega arith) }

-- those that are live still
pub lemmas_kept : (first : ℕ) (old : Live) (k : Clauses) (xs ys : List ℕ) → ys ≡ filter (λ n. is_some (get k n)) xs → AreLemmas first old xs → AreLemmas first (live_of k) ys
lemmas_kept first old k xs ys e h = subst (AreLemmas first (live_of k)) (sym e) (record {
  rising = AllPairs-filter (λ x y. x < y) (λ n. is_some (get k n)) xs h.rising;
  behind = All-filter (λ n. is_some (get k n)) (λ n. first ≤ n) xs h.behind;
  lives = All-weaker (λ n. is_some (get k n) ≡ true) (λ n. (C : Clause) × live_of k n C) (λ n p. some_live k n p) (filter (λ n. is_some (get k n)) xs) (filter_passes (λ n. is_some (get k n)) xs);
})

pub lemmas_moved : (first : ℕ) (old new : Live) (xs : List ℕ) → AreAllExcept old [] new → AreLemmas first old xs → AreLemmas first new xs
lemmas_moved first old new xs less h = record {
  rising = h.rising;
  behind = h.behind;
  lives = All-weaker (λ n. (C : Clause) × old n C) (λ n. (C : Clause) × new n C) (λ n c. (c.0, less.stays n c.0 c.1 (Contains-nil n))) xs h.lives;
}

pub lemmas_same : (first : ℕ) (m k : Clauses) (xs : List ℕ) → SameUpToOrder m k → AreLemmas first (live_of m) xs → AreLemmas first (live_of k) xs
lemmas_same first m k xs s h = record {
  rising = h.rising;
  behind = h.behind;
  lives = All-weaker (λ n. (C : Clause) × live_of m n C) (λ n. (C : Clause) × live_of k n C) (λ n c. let d = same_forth m k s n c.0 c.1 in (d.0, d.1)) xs h.lives;
}

pub lemmas_more : (first id : ℕ) (old new : Live) (lits : Clause) (xs ys : List ℕ) → ys ≡ xs ++ id ∷ [] → first ≤ id → AreBelow id old → IsAdded old id lits new → AreLemmas first old xs → AreLemmas first new ys
lemmas_more first id old new lits xs ys e from below add h = subst (AreLemmas first new) (sym e) (record {
  rising = all_pairs_push (λ x y. x < y) xs id h.rising (λ k d l. let c = h.lives k d l in (below (get_or xs k d) c.0 c.1).1);
  behind = All-push (λ n. first ≤ n) xs id h.behind from;
  lives = All-push (λ n. (C : Clause) × new n C) xs id
      (All-weaker (λ n. (C : Clause) × old n C) (λ n. (C : Clause) × new n C) (λ n c. let d = add.stays n c.0 c.1 in (d.0, d.1)) xs h.lives)
      (let d = add.there in (d.0, d.1));
})

pub lemmas_among : (first : ℕ) (live : Live) (xs ids : List ℕ) → AreLemmas first live xs → AreRising ids → All (Contains xs) ids → AreLemmas first live ids
lemmas_among first live xs ids h rising among = record {
  rising = rising;
  behind = All-weaker (Contains xs) (λ n. first ≤ n) (λ n i. All-contains (λ x. first ≤ x) xs n h.behind i) ids among;
  lives = All-weaker (Contains xs) (λ n. (C : Clause) × live n C) (λ n i. All-contains (λ x. (C : Clause) × live x C) xs n h.lives i) ids among;
}

-- ---- reasons
pub on_false_weaker : (b : Bool) (P Q : Type 0) → (P → Q) → OnFalse b P → OnFalse b Q
on_false_weaker true P Q f h = h
on_false_weaker false P Q f h = f h

pub on_true_not : (b : Bool) (P Q : Type 0) → (P → Q) → OnFalse b P → OnTrue (not b) Q
on_true_not true P Q f h = tt
on_true_not false P Q f h = f h

-- a reason is a live clause that holds its literal
pub reason_in : (live : Live) (es xs : List Assigned) → AreBuilt live es xs → (e : Assigned) → Contains xs e → (n : ℕ) → e.reason ≡ Some n → (C : Clause) × live n C × Contains C e.literal
reason_in live es [] h e i n r = absurd (Contains-nil e i)
reason_in live es (x ∷ xs) h e i n r = elim (Contains-cons_cases x e xs i) [
  | inl s ↦ elim h.0 [
    | inl y ↦
        let a : Some y.number ≡ Some n = sym y.reason ∙ ap (λ (z : Assigned). z.reason) s ∙ r in
        let b : y.number ≡ n = cc in
        (y.clause, subst (λ k. live k y.clause) b y.lives, subst (λ (z : Assigned). Contains y.clause z.literal) s (y.unit).member)
    | inr d ↦ absurd (no_reason (x.reason) n d.reason (ap (λ (z : Assigned). z.reason) s ∙ r))
  ]
  | inr j ↦ reason_in live (es ++ x ∷ []) xs h.1 e j n r
]
  where
    no_reason : (o : Option ℕ) (n : ℕ) → o ≡ None → o ≡ Some n → ⊥
    no_reason o n a b = cc

pub on_false_at : (b : Bool) (P : Type 0) → b ≡ false → OnFalse b P → P
on_false_at true P e h = absurd (true≢false e)
on_false_at false P e h = h

-- ---- those that are chosen
-- of the numbers before a place some, rising, each below those after it
pub record AreChosen (P : ℕ → Type 0) (xs : List ℕ) (i : ℕ) (ys : List ℕ) : Type 0 where
  pub rising : AreRising ys
  pub among : All (Contains xs) ys
  pub all : All P ys
  pub below : (k d : ℕ) → i ≤ k → k < length xs → All (λ n. n < get_or xs k d) ys

module _ (P : ℕ → Type 0) (xs : List ℕ) (i : ℕ) (rising : AreRising xs) (l : i < length xs) where
  chosen_none : (ys : List ℕ) → AreChosen P xs i ys → AreChosen P xs (i + 1) ys
  chosen_none ys h = record { rising = h.rising; among = h.among; all = h.all; below = λ k d le lt. h.below k d (omega arith) lt }

  chosen_one : (ys : List ℕ) → P (get_or xs i 0) → AreChosen P xs i ys → AreChosen P xs (i + 1) (ys ++ get_or xs i 0 ∷ [])
  chosen_one ys p h = record {
    rising = all_pairs_push (λ x y. x < y) ys (get_or xs i 0) h.rising (λ k d m. h.below i 0 (omega arith) l k d m);
    among = All-push (Contains xs) ys (get_or xs i 0) h.among (Contains-get_or xs i 0 l);
    all = All-push P ys (get_or xs i 0) h.all p;
    below = λ k d le lt. All-push (λ n. n < get_or xs k d) ys (get_or xs i 0) (h.below k d (omega arith) lt)
        (let a = rising i k d (omega arith) lt in let b : get_or xs i 0 ≡ get_or xs i d = at_any xs i 0 d l in omega arith);
  }

  pub chosen_more : (ys zs : List ℕ) → ((zs ≡ ys) ⊎ ((zs ≡ ys ++ get_or xs i 0 ∷ []) × P (get_or xs i 0))) → AreChosen P xs i ys → AreChosen P xs (i + 1) zs
  chosen_more ys zs c h = elim c [
    | inl e ↦ subst (AreChosen P xs (i + 1)) (sym e) (chosen_none ys h)
    | inr e ↦ subst (AreChosen P xs (i + 1)) (sym e.0) (chosen_one ys e.1 h)
  ]

-- ---- the line of a deletion
pub numbers_limits : (live : Live) (es : List Assigned) (top : ℕ) (ids : List ℕ) → IsClauseNumber top → AreBelow (top + 1) live → All (IsDeletable live es) ids → All IsClauseNumber ids
numbers_limits live es top ids number below spare =
    All-weaker (IsDeletable live es) IsClauseNumber (λ n s. let b = below n s.clause s.lives in let up = b.1 in let last = number.1 in (b.0, omega arith)) ids spare

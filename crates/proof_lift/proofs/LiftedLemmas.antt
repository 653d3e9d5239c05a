-- The steps that a step is lifted to are a log's, and the images stay live.
use Rattle.std.proofs.Common.{◌≡◌, ◌≢◌, ℕ, ◌+◌, ◌<◌, ◌⊎◌, inl, inr, Bool, true, false, not, ◌||◌, List, [], ◌∷◌, ◌++◌, Option, Some, None, Ok, Err, cond, refl, sym, ◌∙◌, ap, subst, arith}
use Rattle.std.specs.Prelude.{IsSome, nat_eq, nat_lt, nat_le}
use Rattle.std.specs.List.{AllByRecursion, Contains, IsDistinct, list_any, filter}
use Rattle.std.specs.FinMap.{get, insert}
use Rattle.std.proofs.lemmas.Bool.{both_ways, eq-eqb, ne_eqb, or_cases}
use Rattle.std.proofs.lemmas.Bool.Decides.{nat_tests}
use Rattle.std.proofs.lemmas.List.Elements.{All-from_recursion}
use Rattle.std.proofs.lemmas.Map.Keys.{IsDistinct-cons}
use Rattle.dimacs.specs.logic.ClauseMap.{ClauseMap, live_in}
use Rattle.dimacs.specs.logic.Literal.{Literal, Clause, IsTautology, negation, has}
use Rattle.dimacs.specs.logic.Propagation.{negations, Rup}
use Rattle.dimacs.specs.logic.Rat.{Group}
use Rattle.dimacs.proofs.Members.{Contains-head, Contains-cons, Contains-cons_cases, Contains-nil, has-Contains, Contains-has}
use Rattle.lrat_text.specs.Log.{Cube, AreLogSteps}
use Rattle.lrat_text.specs.Proof.{without}
use Rattle.lrat_text.specs.Runs.{after_steps}
use Rattle.lrat_text.specs.declared.step.Step.{Step}
use Rattle.lrat_text.specs.declared.step.Step.TheVariants.{Add}
use Rattle.lrat_text.proofs.ClauseMapLemmas.{get_here, get_other}
use Rattle.lrat_check.specs.StepFaults.{is_tautology, is_empty_clause, has_groups}
use Rattle.lrat_check.proofs.Pairs.{pair_tautology}
use Rattle.proof_lift.specs.HintWalk.{ClauseImage, Gone, Kept, ClauseImages, Passed, WalkOutcome, Open, Closed, Wrong, lift_walk}
use Rattle.proof_lift.specs.TrimmedLemma.{union, used, kept, trimmed}
use Rattle.proof_lift.specs.LiftedText.{LiftState, LiftedStep, is_met, with_image, after_deletion, own_number, own_numbers, deletion, lift_lemma, lift_addition}
use Rattle.proof_lift.specs.inner.Linked.{IsMet, AreLive, ImagesOnce, LiftInvariant, IsTrimmed}
use Rattle.proof_lift.proofs.FoundLemmas.{walk_leads}
use Rattle.proof_lift.proofs.MapLemmas.{up_to_insert, get_without, without_live, union_is}
use Rattle.proof_lift.proofs.ReadyLemmas.{stand_cases, same_kept, none_kept, gone_kept, deletion_less}
use Rattle.proof_lift.proofs.TrimLemmas.{trimmed_follows}
use Rattle.proof_lift.proofs.WalkLemmas.{union_no_pair}

-- ---- a lemma with a literal of the cube
pub is_met-IsMet : (q : Cube) (C : Clause) → is_met q C ≡ true → IsMet q C
is_met-IsMet [] C e = absurd cc
is_met-IsMet (x ∷ q) C e = elim (or_cases (has C x) (is_met q C) e) [
  | inl t ↦ (x, Contains-head x q, has-Contains C x t)
  | inr r ↦ let z = is_met-IsMet q C r in (z.0, Contains-cons x z.0 q z.1, z.2)
]

is_met-member : (q : Cube) (C : Clause) (x : Literal) → Contains q x → has C x ≡ true → is_met q C ≡ true
is_met-member [] C x i t = absurd (Contains-nil x i)
is_met-member (y ∷ q) C x i t = elim (Contains-cons_cases y x q i) [
  | inl e ↦ ap (λ b. b || is_met q C) (subst (λ z. has C z ≡ true) (sym e) t)
  | inr r ↦ later (has C y) (is_met q C) (is_met-member q C x r t)
]
  where
    later : (a b : Bool) → b ≡ true → (a || b) ≡ true
    later true b e = refl
    later false b e = e

pub IsMet-is_met : (q : Cube) (C : Clause) → IsMet q C → is_met q C ≡ true
IsMet-is_met q C (x, i, here) = is_met-member q C x i (Contains-has C x here)

pub none_left : (C : Clause) → is_empty_clause C ≡ true → C ≡ []
none_left [] e = refl
none_left (l ∷ C) e = absurd cc

-- ---- what is kept between two steps
-- no image more stands after a change at one number to something else than an image
pub less : (T : ClauseImages) (id n i : ℕ) (D : Clause) (o : Option ClauseImage) → ((k : ℕ) (E : Clause) → o ≡ Some (Kept k E) → ⊥) → with_image T id o n ≡ Some (Kept i D) → (n ≢ id) × (T n ≡ Some (Kept i D))
less T id n i D o nothing e = elim (stand_cases T id n o) [
  | inl here ↦ absurd (nothing i D (sym here.1 ∙ e))
  | inr other ↦ (other.0, sym other.1 ∙ e)
]

pub lifting_gone : (m : ℕ) (T : ClauseImages) (N : ClauseMap) (own id : ℕ) → LiftInvariant m T N own → LiftInvariant m (with_image T id (Some Gone)) N own
lifting_gone m T N own id h = record {
  live = λ n i D e. h.live n i D (less T id n i D (Some Gone) gone_kept e).1;
  once = λ n k i D E above a b. h.once n k i D E above (less T id n i D (Some Gone) gone_kept a).1 (less T id k i E (Some Gone) gone_kept b).1;
  up = h.up;
  low = h.low;
}

pub lifting_more : (m : ℕ) (T : ClauseImages) (N : ClauseMap) (own id : ℕ) (E : Clause) → LiftInvariant m T N own
    → LiftInvariant m (with_image T id (Some (Kept (own + 1) E))) (insert N (own + 1) E) (own + 1)
lifting_more m T N own id E h = record {
  live = live;
  once = once;
  up = up_to_insert own N E h.up;
  low = let l = h.low in omega arith;
}
  where
    live : (n i : ℕ) (D : Clause) → with_image T id (Some (Kept (own + 1) E)) n ≡ Some (Kept i D) → live_in (insert N (own + 1) E) i D
    live n i D e = elim (stand_cases T id n (Some (Kept (own + 1) E))) [
      | inl here ↦
          let is = same_kept (own + 1) i E D (sym here.1 ∙ e) in
          subst (λ k. get (insert N (own + 1) E) k ≡ Some D) is.0 (get_here N (own + 1) E ∙ ap (λ (x : Clause). Some x) is.1)
      | inr other ↦
          let old = h.live n i D (sym other.1 ∙ e) in
          let below = h.up i D old in
          get_other N (own + 1) i E (λ s. omega arith) ∙ old
    ]

    once : ImagesOnce m (with_image T id (Some (Kept (own + 1) E)))
    once n k i D D' above a b = elim (stand_cases T id n (Some (Kept (own + 1) E))) [
      | inl here ↦ elim (stand_cases T id k (Some (Kept (own + 1) E))) [
        | inl here' ↦ here.0 ∙ sym here'.0
        | inr other ↦
            let below = h.up i D' (h.live k i D' (sym other.1 ∙ b)) in
            let is = (same_kept (own + 1) i E D (sym here.1 ∙ a)).0 in
            absurd (omega arith)
      ]
      | inr other ↦ elim (stand_cases T id k (Some (Kept (own + 1) E))) [
        | inl here ↦
            let below = h.up i D (h.live n i D (sym other.1 ∙ a)) in
            let is = (same_kept (own + 1) i E D' (sym here.1 ∙ b)).0 in
            absurd (omega arith)
        | inr other' ↦ h.once n k i D D' above (sym other.1 ∙ a) (sym other'.1 ∙ b)
      ]
    ]

-- ---- deletions
-- nothing stands any more for a number that is deleted
deleted : (T : ClauseImages) (ids : List ℕ) (k : ℕ) → T k ≡ None → after_deletion T ids k ≡ None
deleted T [] k e = e
deleted T (id ∷ ids) k e = deleted (with_image T id None) ids k (elim (stand_cases T id k None) [ inl here ↦ here.1 | inr other ↦ other.1 ∙ e ])

-- a number that is written stood for a lemma that is deleted
pub record IsDeleted (m : ℕ) (T : ClauseImages) (ids : List ℕ) (i : ℕ) : Type 0 where
  pub number : ℕ
  pub clause : Clause
  pub above : m < i
  pub was : T number ≡ Some (Kept i clause)
  pub gone : after_deletion T ids number ≡ None

are_deleted : (m : ℕ) (T : ClauseImages) (ids : List ℕ) → AllByRecursion (IsDeleted m T ids) (own_numbers m T ids)
are_deleted m T [] = tt
are_deleted m T (id ∷ ids) = at (T id) refl (later (own_numbers m (with_image T id None) ids) (are_deleted m (with_image T id None) ids))
  where
    later : (is : List ℕ) → AllByRecursion (IsDeleted m (with_image T id None) ids) is → AllByRecursion (IsDeleted m T (id ∷ ids)) is
    later [] h = tt
    later (i ∷ is) (d, h) = (record { number = d.number; clause = d.clause; above = d.above; was = (less T id d.number i d.clause None none_kept d.was).1; gone = d.gone }, later is h)

    here : with_image T id None id ≡ None
    here = ap (λ b. cond b None (T id)) (eq-eqb id id refl)

    at : (o : Option ClauseImage) → T id ≡ o → AllByRecursion (IsDeleted m T (id ∷ ids)) (own_numbers m (with_image T id None) ids)
        → AllByRecursion (IsDeleted m T (id ∷ ids)) (own_number m o ++ own_numbers m (with_image T id None) ids)
    at None is rest = rest
    at (Some Gone) is rest = rest
    at (Some (Kept i D)) is rest = by (nat_lt m i) refl
      where
        by : (b : Bool) → nat_lt m i ≡ b → AllByRecursion (IsDeleted m T (id ∷ ids)) (cond b (i ∷ []) [] ++ own_numbers m (with_image T id None) ids)
        by true t = (record { number = id; clause = D; above = grind (arith, nat_tests, t); was = is; gone = deleted (with_image T id None) ids id here }, rest)
        by false f = rest

none_distinct : IsDistinct nat_eq []
unfolding IsDistinct
none_distinct = tt

-- no two of them are the same
are_distinct : (m : ℕ) (T : ClauseImages) (ids : List ℕ) → ImagesOnce m T → IsDistinct nat_eq (own_numbers m T ids)
are_distinct m T [] once = none_distinct
are_distinct m T (id ∷ ids) once =
    at (T id) refl (are_distinct m (with_image T id None) ids (λ n k i D E above a b. once n k i D E above (less T id n i D None none_kept a).1 (less T id k i E None none_kept b).1))
    (are_deleted m (with_image T id None) ids)
  where
    apart : (i : ℕ) (D : Clause) → T id ≡ Some (Kept i D) → (is : List ℕ) → AllByRecursion (IsDeleted m (with_image T id None) ids) is → AllByRecursion (λ y. nat_eq i y ≡ false) is
    apart i D was [] h = tt
    apart i D was (j ∷ is) (d, h) =
        let old = less T id d.number j d.clause None none_kept d.was in
        (ne_eqb i j (λ e. old.0 (once d.number id j d.clause D d.above old.1 (subst (λ k. T id ≡ Some (Kept k D)) e was))), apart i D was is h)

    at : (o : Option ClauseImage) → T id ≡ o → IsDistinct nat_eq (own_numbers m (with_image T id None) ids) → AllByRecursion (IsDeleted m (with_image T id None) ids) (own_numbers m (with_image T id None) ids)
        → IsDistinct nat_eq (own_number m o ++ own_numbers m (with_image T id None) ids)
    at None was rest h = rest
    at (Some Gone) was rest h = rest
    at (Some (Kept i D)) was rest h = by (nat_lt m i)
      where
        by : (b : Bool) → IsDistinct nat_eq (cond b (i ∷ []) [] ++ own_numbers m (with_image T id None) ids)
        by true = IsDistinct-cons nat_eq i (own_numbers m (with_image T id None) ids) (apart i D was (own_numbers m (with_image T id None) ids) h) rest
        by false = rest

-- what is not deleted is live still
still : (N : ClauseMap) (ns : List ℕ) (i : ℕ) (C : Clause) → list_any (nat_eq i) ns ≡ false → live_in N i C → live_in (without N ns) i C
still N ns i C out live = get_without N ns i ∙ ap (λ b. cond (not b) (get N i) None) out ∙ live

not_among : (m : ℕ) (T : ClauseImages) (ids ns : List ℕ) (n i : ℕ) (D : Clause) → ImagesOnce m T → after_deletion T ids n ≡ Some (Kept i D) → AllByRecursion (IsDeleted m T ids) ns → list_any (nat_eq i) ns ≡ false
not_among m T ids [] n i D once e h = refl
not_among m T ids (j ∷ ns) n i D once e (d, h) = both (nat_eq i j) (ne_eqb i j apart) (not_among m T ids ns n i D once e h)
  where
    apart : i ≢ j
    apart same =
        let k = once n d.number j D d.clause d.above (subst (λ x. T n ≡ Some (Kept x D)) same (deletion_less T ids n i D e)) d.was in
        none_kept i D (sym d.gone ∙ sym (ap (after_deletion T ids) k) ∙ e)

    both : (a : Bool) → a ≡ false → list_any (nat_eq i) ns ≡ false → (a || list_any (nat_eq i) ns) ≡ false
    both true f g = absurd cc
    both false f g = g

pub lifting_deleted : (m : ℕ) (T : ClauseImages) (N : ClauseMap) (own : ℕ) (ids : List ℕ) → LiftInvariant m T N own → LiftInvariant m (after_deletion T ids) (after_steps N (deletion (own_numbers m T ids))) own
lifting_deleted m T N own ids h = at (own_numbers m T ids) (are_deleted m T ids)
  where
    once : ImagesOnce m (after_deletion T ids)
    once n k i D E above a b = h.once n k i D E above (deletion_less T ids n i D a) (deletion_less T ids k i E b)

    at : (ns : List ℕ) → AllByRecursion (IsDeleted m T ids) ns → LiftInvariant m (after_deletion T ids) (after_steps N (deletion ns)) own
    at [] d = record { live = λ n i D e. h.live n i D (deletion_less T ids n i D e); once = once; up = h.up; low = h.low }
    at (j ∷ ns) d = record {
      live = λ n i D e. still N (j ∷ ns) i D (not_among m T ids (j ∷ ns) n i D h.once e d) (h.live n i D (deletion_less T ids n i D e));
      once = once;
      up = λ n C live. h.up n C (without_live N (j ∷ ns) n C live);
      low = h.low;
    }

pub log_deletion : (m : ℕ) (T : ClauseImages) (N : ClauseMap) (own : ℕ) (ids : List ℕ) → LiftInvariant m T N own → AreLogSteps m N own (deletion (own_numbers m T ids))
log_deletion m T N own ids h = at (own_numbers m T ids) (are_deleted m T ids) (are_distinct m T ids h.once)
  where
    above : (ns : List ℕ) → AllByRecursion (IsDeleted m T ids) ns → AllByRecursion (λ i. m < i) ns
    above [] d = tt
    above (j ∷ ns) (d, ds) = (d.above, above ns ds)

    live : (ns : List ℕ) → AllByRecursion (IsDeleted m T ids) ns → AllByRecursion (λ i. IsSome (get N i)) ns
    live [] d = tt
    live (j ∷ ns) (d, ds) = (subst (λ (o : Option Clause). IsSome o) (sym (h.live d.number j d.clause d.was)) refl, live ns ds)

    at : (ns : List ℕ) → AllByRecursion (IsDeleted m T ids) ns → IsDistinct nat_eq ns → AreLogSteps m N own (deletion ns)
    at [] d distinct = tt
    at (j ∷ ns) d distinct = ((All-from_recursion (λ i. m < i) (j ∷ ns) (above (j ∷ ns) d), All-from_recursion (λ i. IsSome (get N i)) (j ∷ ns) (live (j ∷ ns) d), distinct), tt)

-- ---- what an addition that has no fault comes to
pub record IsGone (q : Cube) (s : LiftState) (id : ℕ) (C : Clause) (steps : List Step) (s' : LiftState) : Type 0 where
  pub met : is_met q C ≡ true
  pub writes : steps ≡ []
  pub leaves : s' ≡ record s { stands = with_image s.stands id (Some Gone); top = id }

pub record IsKept (q : Cube) (s : LiftState) (id : ℕ) (C : Clause) (hints : List ℕ) (steps : List Step) (s' : LiftState) : Type 0 where
  pub apart : is_met q C ≡ false
  pub no_pair : is_tautology C ≡ false
  pub chain : List Passed
  pub last : ℕ
  pub conflict : Clause
  pub walk : lift_walk s.stands hints (negations (union q C)) ≡ Closed chain last conflict
  pub writes : steps ≡ Add (s.own + 1) (trimmed q C chain conflict) (kept chain conflict last) [] ∷ []
  pub leaves : s' ≡ record { stands = with_image s.stands id (Some (Kept (s.own + 1) (trimmed q C chain conflict))); top = id; own = s.own + 1; closed = is_empty_clause C }

pair_is : (a c : List Step) (b d : LiftState) → ◌≡◌ {A = LiftedStep} (Ok (a, b)) (Ok (c, d)) → (a ≡ c) × (b ≡ d)
pair_is a c b d e = (ap (λ r. first r) e, ap (λ r. second r) e)
  where
    first : LiftedStep → List Step
    first (Ok p) = p.0
    first (Err n) = a

    second : LiftedStep → LiftState
    second (Ok p) = p.1
    second (Err n) = b

pub addition_cases : (q : Cube) (s : LiftState) (id : ℕ) (C : Clause) (hints : List ℕ) (groups : List Group) (steps : List Step) (s' : LiftState) → lift_addition q s id C hints groups ≡ Ok (steps, s')
    → (s.top < id) × (IsGone q s id C steps s' ⊎ IsKept q s id C hints steps s')
addition_cases q s id C hints groups steps s' e = first (nat_le id s.top) refl e
  where
    gone : LiftedStep
    gone = Ok ([], record s { stands = with_image s.stands id (Some Gone); top = id })

    no_ok : {P : Type 0} (n : ℕ) → ◌≡◌ {A = LiftedStep} (Err n) (Ok (steps, s')) → P
    no_ok n h = absurd cc

    lemma : is_met q C ≡ false → is_tautology C ≡ false → (w : WalkOutcome) → lift_walk s.stands hints (negations (union q C)) ≡ w → lift_lemma q s id C w ≡ Ok (steps, s') → IsKept q s id C hints steps s'
    lemma apart no_pair Open is h = no_ok 15 h
    lemma apart no_pair (Wrong n) is h = no_ok n h
    lemma apart no_pair (Closed ps last conflict) is h =
        let same = pair_is (Add (s.own + 1) (trimmed q C ps conflict) (kept ps conflict last) [] ∷ []) steps
        (record { stands = with_image s.stands id (Some (Kept (s.own + 1) (trimmed q C ps conflict))); top = id; own = s.own + 1; closed = is_empty_clause C }) s' h in
        record { apart = apart; no_pair = no_pair; chain = ps; last = last; conflict = conflict; walk = is; writes = sym same.0; leaves = sym same.1 }

    fourth : is_tautology C ≡ false → (b : Bool) → is_met q C ≡ b → cond b gone (lift_lemma q s id C (lift_walk s.stands hints (negations (union q C)))) ≡ Ok (steps, s') → IsGone q s id C steps s' ⊎ IsKept q s id C hints steps s'
    fourth no_pair true met h =
        let same = pair_is [] steps (record s { stands = with_image s.stands id (Some Gone); top = id }) s' h in
        inl (record { met = met; writes = sym same.0; leaves = sym same.1 })
    fourth no_pair false apart h = inr (lemma apart no_pair (lift_walk s.stands hints (negations (union q C))) refl h)

    third : is_tautology C ≡ false → (b : Bool) → cond b (Err 15) (cond (is_met q C) gone (lift_lemma q s id C (lift_walk s.stands hints (negations (union q C))))) ≡ Ok (steps, s') → IsGone q s id C steps s' ⊎ IsKept q s id C hints steps s'
    third no_pair true h = no_ok 15 h
    third no_pair false h = fourth no_pair (is_met q C) refl h

    second : (b : Bool) → is_tautology C ≡ b → cond b (Err 4) (cond (has_groups groups) (Err 15) (cond (is_met q C) gone (lift_lemma q s id C (lift_walk s.stands hints (negations (union q C)))))) ≡ Ok (steps, s') → IsGone q s id C steps s' ⊎ IsKept q s id C hints steps s'
    second true t h = no_ok 4 h
    second false no_pair h = third no_pair (has_groups groups) h

    first : (b : Bool) → nat_le id s.top ≡ b → cond b (Err 2) (cond (is_tautology C) (Err 4) (cond (has_groups groups) (Err 15) (cond (is_met q C) gone (lift_lemma q s id C (lift_walk s.stands hints (negations (union q C))))))) ≡ Ok (steps, s')
        → (s.top < id) × (IsGone q s id C steps s' ⊎ IsKept q s id C hints steps s')
    first true t h = no_ok 2 h
    first false f h = (grind (arith, nat_tests, f), second (is_tautology C) refl h)

-- ---- what a filter keeps
pub from_filter : (p : Literal → Bool) (E : Clause) (l : Literal) → Contains (filter p E) l → Contains E l
from_filter p [] l h = h
from_filter p (x ∷ E) l h = by (p x) h (λ more. from_filter p E l more)
  where
    by : (b : Bool) → Contains (cond b (x ∷ filter p E) (filter p E)) l → (Contains (filter p E) l → Contains E l) → Contains (x ∷ E) l
    by true here on = elim (Contains-cons_cases x l (filter p E) here) [
      | inl e ↦ subst (λ y. Contains (x ∷ E) y) e (Contains-head x E)
      | inr r ↦ Contains-cons x l E (on r)
    ]
    by false here on = Contains-cons x l E (on here)

pub to_filter : (p : Literal → Bool) (E : Clause) (l : Literal) → Contains E l → p l ≡ true → Contains (filter p E) l
to_filter p [] l h t = h
to_filter p (x ∷ E) l h t = by (p x) refl (Contains-cons_cases x l E h) (λ more. to_filter p E l more t)
  where
    by : (b : Bool) → p x ≡ b → (x ≡ l) ⊎ Contains E l → (Contains E l → Contains (filter p E) l) → Contains (cond b (x ∷ filter p E) (filter p E)) l
    by true is (inl e) on = subst (λ y. Contains (x ∷ filter p E) y) e (Contains-head x (filter p E))
    by false is (inl e) on = absurd (both_ways (p x) is (subst (λ y. p y ≡ true) (sym e) t))
    by true is (inr r) on = Contains-cons x l (filter p E) (on r)
    by false is (inr r) on = on r

-- a lemma that is kept follows
pub kept_follows : (q : Cube) (s : LiftState) (N : ClauseMap) (id : ℕ) (C : Clause) (hints : List ℕ) (steps : List Step) (s' : LiftState) → (IsTautology q → ⊥) → AreLive s.stands N → (k : IsKept q s id C hints steps s')
    → Rup (live_in N) (trimmed q C k.chain k.conflict) (kept k.chain k.conflict k.last)
kept_follows q s N id C hints steps s' none live k =
    let w = walk_leads s.stands N live hints (negations (union q C)) k.chain k.last k.conflict k.walk in
    trimmed_follows N (union q C) (trimmed q C k.chain k.conflict) k.chain w.0 k.last k.conflict
    (union_no_pair q C (union q C) none (λ p. both_ways (is_tautology C) k.no_pair (pair_tautology C p)) (λ met. both_ways (is_met q C) k.apart (IsMet-is_met q C met)) (union_is q C))
    w.1 w.2 w.3 (is_trimmed (union q C) k.chain k.conflict)
  where
    is_trimmed : (E : Clause) (ps : List Passed) (conflict : Clause) → IsTrimmed ps conflict E (filter (λ l. used ps conflict (negation l)) E)
    is_trimmed E ps conflict = record {
      within = λ l h. from_filter (λ k. used ps conflict (negation k)) E l h;
      needed = λ l h t. to_filter (λ k. used ps conflict (negation k)) E l h t;
    }

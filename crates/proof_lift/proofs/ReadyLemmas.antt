-- What stays ready for the next line.
use Rattle.std.proofs.Common.{◌≡◌, ◌≢◌, ℕ, ◌+◌, ◌-◌, ◌*◌, ◌&&◌, ◌<◌, ◌≤◌, ◌^◌, ◌⊎◌, inl, inr, Bool, true, false, List, [], ◌∷◌, ◌++◌, Option, Some, None, Ok, Err, cond, refl, sym, ◌∙◌, ap, subst, length, vec_len, get_or, eqb, arith, take, drop, add-one, drop-cons, append_assoc}
use Rattle.std.specs.Prelude.{All, is_some, nat_le, nat_lt}
use Rattle.std.specs.List.{AllByRecursion, filter}
use Rattle.std.proofs.lemmas.Bool.{cases_eq, eq-eqb, ne_eqb, eqb-false, both_ways}
use Rattle.std.proofs.lemmas.Bool.Decides.{nat_tests}
use Rattle.std.proofs.lemmas.List.Elements.{All-nil, All-cons, All-head, All-tail, All-push, All-filter}
use Rattle.dimacs.specs.logic.Literal.{Literal, Clause, negation, var_of, has, IsWithin}
use Rattle.dimacs.specs.logic.Cnf.{Cnf}
use Rattle.dimacs.specs.logic.Rat.{Group}
use Rattle.dimacs.specs.logic.Propagation.{negations, Assumed}
use Rattle.dimacs.proofs.LiteralLemmas.{var_of-negation}
use Rattle.lrat_text.specs.Grammar.{IsClauseNumber}
use Rattle.std.proofs.lemmas.List.{append-nil}
use Rattle.lrat_text.specs.Runs.{text_of}
use Rattle.lrat_text.specs.WrittenLine.{line_of}
use Rattle.lrat_text.specs.declared.step.Step.TheVariants.{Add, Delete}
use Rattle.lrat_check.specs.StepFaults.{is_empty_clause, is_tautology, has_groups}
use Rattle.lrat_check.specs.inner.LiteralTable.{FitsTable}
use Rattle.proof_lift.specs.HintWalk.{ClauseImage, Gone, Kept, ClauseImages, Passed, WalkOutcome, Open, Closed, Wrong, lift_walk}
use Rattle.proof_lift.specs.TrimmedLemma.{union, used, kept}
use Rattle.proof_lift.specs.LiftedText.{LiftState, LiftedStep, with_image, is_met, lift_addition, lift_lemma, lift_step, written, after_deletion, own_number, own_numbers, all_live, deletion, place_image, leaf_images}
use Rattle.proof_lift.specs.inner.Images.{images_of}
use Rattle.proof_lift.specs.inner.Ready.{ImagesSmall, AllFits}
use Rattle.proof_lift.specs.inner.Tables.{AllBelow}
use Rattle.proof_lift.specs.inner.Walks.{Trims, outcome_fault}
use Rattle.proof_lift.specs.inner.Output.{WritesAs}
use Rattle.proof_lift.specs.declared.step_lifter.StepLifter.{StepLifter}
use Rattle.proof_lift.proofs.OutcomeLemmas.{AllAlong, walk_all}

-- ---- tables
pub fits_longer : (n m : ℕ) (D : Clause) → n ≤ m → FitsTable n D → FitsTable m D
fits_longer n m D longer fits k d below = let h = fits k d below in omega arith

pub below_later : (n m : ℕ) (marks : List ℕ) → n ≤ m → AllBelow n marks → AllBelow m marks
below_later n m marks later all j = let h = all j in omega arith

-- ---- what stands for a clause is as it was, or is within the limits
pub record IsFine (x : StepLifter) (i : ℕ) (D : Clause) : Type 0 where
  pub marks : FitsTable (vec_len x.scratch.marks) D
  pub used : FitsTable (vec_len x.scratch.used) D
  pub number : IsClauseNumber i
  pub last : i ≤ x.own
  pub within : All (IsWithin 199999999) D

-- how the value changes between two lines
pub record Moves (old new : StepLifter) : Type 0 where
  pub stands : (n i : ℕ) (D : Clause) → images_of new.images n ≡ Some (Kept i D) → (images_of old.images n ≡ Some (Kept i D)) ⊎ IsFine new i D
  pub cube : new.cube ≡ old.cube
  pub live : length new.images.live.items ≡ length old.images.live.items
  pub marks : vec_len old.scratch.marks ≤ vec_len new.scratch.marks
  pub used : vec_len old.scratch.used ≤ vec_len new.scratch.used
  pub below : new.own ≤ new.top
  pub room : new.top < 2 ^ 48
  pub top : old.top ≤ new.top
  pub own : old.own ≤ new.own

pub able_moves : (old new : StepLifter) → AllFits old → Moves old new → AllFits new
able_moves old new able m = record {
  marks_fit = λ n i D e. elim (m.stands n i D e) [
    | inl was ↦ fits_longer (vec_len old.scratch.marks) (vec_len new.scratch.marks) D m.marks (able.marks_fit n i D was)
    | inr fine ↦ fine.marks
  ];
  used_fit = λ n i D e. elim (m.stands n i D e) [
    | inl was ↦ fits_longer (vec_len old.scratch.used) (vec_len new.scratch.used) D m.used (able.used_fit n i D was)
    | inr fine ↦ fine.used
  ];
  cube_marks = subst (λ c. FitsTable (vec_len new.scratch.marks) c.items) (sym m.cube) (fits_longer (vec_len old.scratch.marks) (vec_len new.scratch.marks) old.cube.items m.marks able.cube_marks);
  cube_used = subst (λ c. FitsTable (vec_len new.scratch.used) c.items) (sym m.cube) (fits_longer (vec_len old.scratch.used) (vec_len new.scratch.used) old.cube.items m.used able.cube_used);
  small = λ n i D e. elim (m.stands n i D e) [ inl was ↦ able.small n i D was | inr fine ↦ (fine.number, fine.within) ];
  last = λ n i D e. elim (m.stands n i D e) [ inl was ↦ (let h = able.last n i D was in let o = m.own in omega arith) | inr fine ↦ fine.last ];
  cube = subst (λ c. All (IsWithin 199999999) c.items) (sym m.cube) able.cube;
  below = m.below;
  room = m.room;
  lemmas = omega (arith, m.live, m.top, able.lemmas);
}

-- ---- changes of what stands
pub stand_cases : (T : ClauseImages) (id n : ℕ) (o : Option ClauseImage) → ((n ≡ id) × (with_image T id o n ≡ o)) ⊎ ((n ≢ id) × (with_image T id o n ≡ T n))
stand_cases T id n o = elim (cases_eq n id) [
  | inl e ↦ inl (e, ap (λ b. cond b o (T n)) (eq-eqb n id e))
  | inr d ↦ inr (d, ap (λ b. cond b o (T n)) (ne_eqb n id d))
]

pub gone_kept : (i : ℕ) (D : Clause) → ◌≡◌ {A = Option ClauseImage} (Some Gone) (Some (Kept i D)) → ⊥
gone_kept i D e = cc

pub none_kept : (i : ℕ) (D : Clause) → ◌≡◌ {A = Option ClauseImage} None (Some (Kept i D)) → ⊥
none_kept i D e = cc

pub same_kept : (i k : ℕ) (D E : Clause) → ◌≡◌ {A = Option ClauseImage} (Some (Kept i D)) (Some (Kept k E)) → (i ≡ k) × (D ≡ E)
same_kept i k D E e = (cc, cc)

-- a lemma that is gone
pub stands_gone : (old new : StepLifter) (id : ℕ) → images_of new.images ≡ with_image (images_of old.images) id (Some Gone)
    → (n i : ℕ) (D : Clause) → images_of new.images n ≡ Some (Kept i D) → (images_of old.images n ≡ Some (Kept i D)) ⊎ IsFine new i D
stands_gone old new id is n i D e = elim (stand_cases (images_of old.images) id n (Some Gone)) [
  | inl here ↦ absurd (gone_kept i D (sym here.1 ∙ sym (ap (λ (T : ClauseImages). T n) is) ∙ e))
  | inr other ↦ inl (sym other.1 ∙ sym (ap (λ (T : ClauseImages). T n) is) ∙ e)
]

-- a lemma that is written
pub stands_kept : (old new : StepLifter) (id number : ℕ) (E : Clause) → images_of new.images ≡ with_image (images_of old.images) id (Some (Kept number E)) → IsFine new number E
    → (n i : ℕ) (D : Clause) → images_of new.images n ≡ Some (Kept i D) → (images_of old.images n ≡ Some (Kept i D)) ⊎ IsFine new i D
stands_kept old new id number E is fine n i D e = elim (stand_cases (images_of old.images) id n (Some (Kept number E))) [
  | inl here ↦
      let same = same_kept number i E D (sym here.1 ∙ sym (ap (λ (T : ClauseImages). T n) is) ∙ e) in
      inr (subst (λ F. IsFine new i F) same.1 (subst (λ k. IsFine new k E) same.0 fine))
  | inr other ↦ inl (sym other.1 ∙ sym (ap (λ (T : ClauseImages). T n) is) ∙ e)
]

-- deletions
pub deletion_less : (T : ClauseImages) (ids : List ℕ) (n i : ℕ) (D : Clause) → after_deletion T ids n ≡ Some (Kept i D) → T n ≡ Some (Kept i D)
deletion_less T [] n i D e = e
deletion_less T (id ∷ ids) n i D e = elim (stand_cases T id n None) [
  | inl here ↦ absurd (none_kept i D (sym here.1 ∙ deletion_less (with_image T id None) ids n i D e))
  | inr other ↦ sym other.1 ∙ deletion_less (with_image T id None) ids n i D e
]

-- ---- the lemma with the negated cube
pub union_all : (P : Literal → Type 0) → ((l : Literal) → P l → P (negation l)) → (q C : Clause) → All P q → All P C → All P (union q C)
union_all P turn [] C hq hC = hC
union_all P turn (x ∷ q) C hq hC =
    at (has C (negation x)) (union_all P turn q C (All-tail P x q hq) hC)
    (union_all P turn q (C ++ negation x ∷ []) (All-tail P x q hq) (All-push P C (negation x) hC (turn x (All-head P x q hq))))
  where
    at : (b : Bool) → All P (union q C) → All P (union q (C ++ negation x ∷ [])) → All P (cond b (union q C) (union q (C ++ negation x ∷ [])))
    at true a b = a
    at false a b = b

pub fits_union : (places : ℕ) (q C : Clause) → FitsTable places q → FitsTable places C → FitsTable places (union q C)
fits_union places q C = union_all (λ l. 2 * var_of l + 1 < places) (λ l h. subst (λ v. 2 * v + 1 < places) (sym (var_of-negation l)) h) q C

pub within_union : (most : ℕ) (q C : Clause) → All (IsWithin most) q → All (IsWithin most) C → All (IsWithin most) (union q C)
within_union most q C = union_all (IsWithin most) (λ l h. subst (λ v. (0 < v) × (v ≤ most)) (sym (var_of-negation l)) h) q C

-- ---- what is kept of a walk
pub trims_all : (P : Literal → Type 0) (E : Clause) (w : WalkOutcome) (D : Clause) (numbers : List ℕ) → All P E → Trims E w D numbers → All P D
trims_all P E Open D numbers h t = absurd t
trims_all P E (Wrong number) D numbers h t = absurd t
trims_all P E (Closed ps last conflict) D numbers h t = subst (λ F. All P F) (sym t.0) (All-filter (λ l. used ps conflict (negation l)) P E h)

kept_all : (ps : List Passed) (conflict : Clause) (last : ℕ) → AllByRecursion (λ p. IsClauseNumber p.number) ps → IsClauseNumber last → All IsClauseNumber (kept ps conflict last)
kept_all [] conflict last h l = All-cons IsClauseNumber last [] l (All-nil IsClauseNumber)
kept_all (p ∷ ps) conflict last h l = at (used ps conflict p.unit) (kept_all ps conflict last h.1 l)
  where
    at : (b : Bool) → All IsClauseNumber (kept ps conflict last) → All IsClauseNumber (cond b (p.number ∷ kept ps conflict last) (kept ps conflict last))
    at true rest = All-cons IsClauseNumber p.number (kept ps conflict last) h.0 rest
    at false rest = rest

trims_small : (E : Clause) (w : WalkOutcome) (D : Clause) (numbers : List ℕ) → AllAlong (λ p. IsClauseNumber p.number) (λ i F. IsClauseNumber i) w → Trims E w D numbers → All IsClauseNumber numbers
trims_small E Open D numbers h t = absurd t
trims_small E (Wrong number) D numbers h t = absurd t
trims_small E (Closed ps last conflict) D numbers h t = subst (λ ns. All IsClauseNumber ns) (sym t.1) (kept_all ps conflict last h.0 h.1)

pub trims_numbers : (most : ℕ) (T : ClauseImages) (hints : List ℕ) (A : Assumed) (E D : Clause) (numbers : List ℕ) → ImagesSmall most T → Trims E (lift_walk T hints A) D numbers → All IsClauseNumber numbers
trims_numbers most T hints A E D numbers small t =
    trims_small E (lift_walk T hints A) D numbers
    (walk_all (λ p. IsClauseNumber p.number) (λ i F. IsClauseNumber i) T (λ n i F e. ((small n i F e).0, λ l here. (small n i F e).0)) hints A) t

-- ---- what a lemma comes to
pub lemma_is : (q : List Literal) (s : LiftState) (id : ℕ) (C E D : Clause) (w : WalkOutcome) (numbers : List ℕ) → E ≡ union q C → Trims E w D numbers → lift_lemma q s id C w ≡ written s id (is_empty_clause C) D numbers
lemma_is q s id C E D Open numbers e t = absurd t
lemma_is q s id C E D (Wrong number) numbers e t = absurd t
lemma_is q s id C E D (Closed ps last conflict) numbers e t =
    ap (λ F. written s id (is_empty_clause C) F (kept ps conflict last)) (sym (t.0 ∙ ap (filter (λ l. used ps conflict (negation l))) e))
    ∙ ap (written s id (is_empty_clause C) D) (sym t.1)

pub lemma_wrong : (q : List Literal) (s : LiftState) (id : ℕ) (C : Clause) (w : WalkOutcome) (number : ℕ) → outcome_fault w ≡ Some number → lift_lemma q s id C w ≡ Err number
lemma_wrong q s id C Open number e = ap (λ (n : ℕ). Err n) (let h : 15 ≡ number = cc in h)
lemma_wrong q s id C (Closed ps last conflict) number e = absurd cc
lemma_wrong q s id C (Wrong n) number e = ap (λ (n : ℕ). Err n) (let h : n ≡ number = cc in h)

pub none_left_is : (C : Clause) (b : Bool) → b ≡ eqb (length C) 0 → b ≡ is_empty_clause C
none_left_is [] b e = e
none_left_is (l ∷ C) b e = e ∙ ne_eqb (length (l ∷ C)) 0 (λ z. absurd (omega arith))

-- two states of equal parts
pub same_state : (s t : LiftState) → s.stands ≡ t.stands → s.top ≡ t.top → s.own ≡ t.own → s.closed ≡ t.closed → s ≡ t
same_state s t a b c d = λ i. record { stands = a i; top = b i; own = c i; closed = d i }

-- a lemma that is written
pub lemma_written : (q C E D : Clause) (s s' : LiftState) (id : ℕ) (hints : List ℕ) (A : Assumed) (numbers : List ℕ) (empty : Bool) (before after : List ℕ) → E ≡ union q C → A ≡ negations E
    → Trims E (lift_walk s.stands hints A) D numbers → empty ≡ is_empty_clause C → s'.stands ≡ with_image s.stands id (Some (Kept (s.own + 1) D)) → s'.top ≡ id → s'.own ≡ s.own + 1 → s'.closed ≡ empty
    → after ≡ before ++ line_of (s.own + 1) (Add (s.own + 1) D numbers []) → WritesAs (lift_lemma q s id C (lift_walk s.stands hints (negations (union q C)))) s.own s' before after
lemma_written q C E D s s' id hints A numbers empty before after e assumed t none stands top own closed text = (
  Add (s.own + 1) D numbers [] ∷ [],
  ap (λ B. lift_lemma q s id C (lift_walk s.stands hints B)) (sym (assumed ∙ ap negations e))
      ∙ lemma_is q s id C E D (lift_walk s.stands hints A) numbers e t
      ∙ ap (λ (t' : LiftState). Ok (Add (s.own + 1) D numbers [] ∷ [], t'))
      (same_state (record { stands = with_image s.stands id (Some (Kept (s.own + 1) D)); top = id; own = s.own + 1; closed = is_empty_clause C }) s' (sym stands) (sym top) (sym own) (sym none ∙ sym closed)),
  text ∙ ap (λ (x : List ℕ). before ++ x) (sym (append-nil (line_of (s.own + 1) (Add (s.own + 1) D numbers [])))),
)

-- an addition that is no fault by itself
module _ (q : List Literal) (s : LiftState) (id : ℕ) (C : Clause) (hints : List ℕ) (groups : List Group) (rises : s.top < id) (no_pair : is_tautology C ≡ false) (no_group : has_groups groups ≡ false) where
  above : nat_le id s.top ≡ false
  above = grind (arith, nat_tests, rises)

  pub addition_is : (b : Bool) → is_met q C ≡ b
      → lift_addition q s id C hints groups ≡ cond b (Ok ([], record s { stands = with_image s.stands id (Some Gone); top = id })) (lift_lemma q s id C (lift_walk s.stands hints (negations (union q C))))
  addition_is b met =
      ap (λ x. cond x (Err 2) (cond (is_tautology C) (Err 4) (cond (has_groups groups) (Err 15) (cond (is_met q C) gone lemma)))) above
      ∙ ap (λ x. cond x (Err 4) (cond (has_groups groups) (Err 15) (cond (is_met q C) gone lemma))) no_pair
      ∙ ap (λ x. cond x (Err 15) (cond (is_met q C) gone lemma)) no_group
      ∙ ap (λ x. cond x gone lemma) met
    where
      gone : LiftedStep
      gone = Ok ([], record s { stands = with_image s.stands id (Some Gone); top = id })

      lemma : LiftedStep
      lemma = lift_lemma q s id C (lift_walk s.stands hints (negations (union q C)))

  pub addition_gone : (s' : LiftState) (before : List ℕ) → is_met q C ≡ true → s'.stands ≡ with_image s.stands id (Some Gone) → s'.top ≡ id → s'.own ≡ s.own → s'.closed ≡ s.closed
      → WritesAs (lift_addition q s id C hints groups) s.own s' before before
  addition_gone s' before met stands top own closed = (
    [],
    addition_is true met ∙ ap (λ (t : LiftState). Ok ([], t)) (same_state (record s { stands = with_image s.stands id (Some Gone); top = id }) s' (sym stands) (sym top) (sym own) (sym closed)),
    sym (append-nil before),
  )

pub no_groups : (groups : List Group) (b : Bool) → b ≡ eqb (length groups) 0 → b ≡ true → has_groups groups ≡ false
no_groups [] b e t = refl
no_groups (g ∷ groups) b e t = absurd (both_ways b (e ∙ ne_eqb (length (g ∷ groups)) 0 (λ z. absurd (omega arith))) t)

-- ---- the leaf's formula
pub leaf_kept : (q : List Literal) (F : Cnf) (n i : ℕ) (D : Clause) → leaf_images q F n ≡ Some (Kept i D) → (i ≡ n) × (0 < n) × (n - 1 < length F.clauses) × (D ≡ get_or F.clauses (n - 1) [])
leaf_kept q F n i D e = first (eqb n 0) refl e
  where
    third : (b : Bool) → nat_lt (n - 1) (length F.clauses) ≡ b → ◌≡◌ {A = Option ClauseImage} (Some (cond b (Kept n (get_or F.clauses (n - 1) [])) Gone)) (Some (Kept i D)) → (i ≡ n) × (n - 1 < length F.clauses) × (D ≡ get_or F.clauses (n - 1) [])
    third true is h = let same = same_kept n i (get_or F.clauses (n - 1) []) D h in (sym same.0, grind (arith, nat_tests, is), sym same.1)
    third false is h = absurd (gone_kept i D h)

    second : (b : Bool) → ◌≡◌ {A = Option ClauseImage} (cond b (Some (place_image F n)) None) (Some (Kept i D)) → (i ≡ n) × (n - 1 < length F.clauses) × (D ≡ get_or F.clauses (n - 1) [])
    second true h = third (nat_lt (n - 1) (length F.clauses)) refl h
    second false h = absurd (none_kept i D h)

    first : (b : Bool) → eqb n 0 ≡ b → ◌≡◌ {A = Option ClauseImage} (cond b None (cond (nat_le n (length F.clauses + length q)) (Some (place_image F n)) None)) (Some (Kept i D)) → (i ≡ n) × (0 < n) × (n - 1 < length F.clauses) × (D ≡ get_or F.clauses (n - 1) [])
    first true is h = absurd (none_kept i D h)
    first false is h =
        let r = second (nat_le n (length F.clauses + length q)) h in
        let apart : n ≢ 0 = eqb-false n 0 is in
        (r.0, omega arith, r.1, r.2)

-- clauses of so many variables fit tables of so many places
pub clause_fits : (vars places : ℕ) (D : Clause) → 2 * vars + 2 ≤ places → All (IsWithin vars) D → FitsTable places D
clause_fits vars places D room within k d below = let h = (within k d below).1 in omega arith

pub clause_within : (most vars : ℕ) (D : Clause) → vars ≤ most → All (IsWithin vars) D → All (IsWithin most) D
clause_within most vars D few within k d below = let h = within k d below in (h.0, (let u = h.1 in omega arith))

-- ---- deletions
pub remove_step : (m : ℕ) (T T' : ClauseImages) (ids numbers numbers' : List ℕ) (i : ℕ) (s : ClauseImage) → i < length ids → T (get_or ids i 0) ≡ Some s → T' ≡ with_image T (get_or ids i 0) None
    → numbers' ≡ numbers ++ own_number m (Some s)
    → (after_deletion T (drop i ids) ≡ after_deletion T' (drop (i + 1) ids)) × (numbers ++ own_numbers m T (drop i ids) ≡ numbers' ++ own_numbers m T' (drop (i + 1) ids)) × (all_live T (drop i ids) ≡ all_live T' (drop (i + 1) ids))
remove_step m T T' ids numbers numbers' i s below is now more =
    let id = get_or ids i 0 in
    let rest = drop (i + 1) ids in
    let here : drop i ids ≡ id ∷ rest = rw (add-one, drop-cons ids i 0) refl in (
      ap (after_deletion T) here ∙ ap (λ (U : ClauseImages). after_deletion U rest) (sym now),
      ap (λ ks. numbers ++ own_numbers m T ks) here
          ∙ ap (λ o. numbers ++ (own_number m o ++ own_numbers m (with_image T id None) rest)) is
          ∙ sym (append_assoc numbers (own_number m (Some s)) (own_numbers m (with_image T id None) rest))
          ∙ ap (λ ns. ns ++ own_numbers m (with_image T id None) rest) (sym more)
          ∙ ap (λ (U : ClauseImages). numbers' ++ own_numbers m U rest) (sym now),
      ap (all_live T) here
          ∙ ap (λ o. is_some o && all_live (with_image T id None) rest) is
          ∙ ap (λ (U : ClauseImages). all_live U rest) (sym now),
    )

pub not_live : (T : ClauseImages) (ids : List ℕ) (i : ℕ) → i < length ids → T (get_or ids i 0) ≡ None → all_live T (drop i ids) ≡ false
not_live T ids i below is =
    let id = get_or ids i 0 in
    let rest = drop (i + 1) ids in
    let here : drop i ids ≡ id ∷ rest = rw (add-one, drop-cons ids i 0) refl in
    ap (all_live T) here ∙ ap (λ o. is_some o && all_live (with_image T id None) rest) is

-- the numbers that are deleted are those of lemmas
pub numbers_all : (m own : ℕ) (T : ClauseImages) (ids : List ℕ) → ((n i : ℕ) (D : Clause) → T n ≡ Some (Kept i D) → IsClauseNumber i × (i ≤ own)) → AllByRecursion (λ i. IsClauseNumber i × (i ≤ own)) (own_numbers m T ids)
numbers_all m own T [] h = tt
numbers_all m own T (id ∷ ids) h =
    at (T id) refl (numbers_all m own (with_image T id None) ids (λ n i D e. elim (stand_cases T id n None) [
      | inl here ↦ absurd (none_kept i D (sym here.1 ∙ e))
      | inr other ↦ h n i D (sym other.1 ∙ e)
    ]))
  where
    at : (o : Option ClauseImage) → T id ≡ o → AllByRecursion (λ i. IsClauseNumber i × (i ≤ own)) (own_numbers m (with_image T id None) ids)
        → AllByRecursion (λ i. IsClauseNumber i × (i ≤ own)) (own_number m o ++ own_numbers m (with_image T id None) ids)
    at None is rest = rest
    at (Some Gone) is rest = rest
    at (Some (Kept i D)) is rest = by (nat_lt m i)
      where
        by : (b : Bool) → AllByRecursion (λ i. IsClauseNumber i × (i ≤ own)) (cond b (i ∷ []) [] ++ own_numbers m (with_image T id None) ids)
        by true = (h id i D is, rest)
        by false = rest

pub first_part : (own : ℕ) (is : List ℕ) → AllByRecursion (λ i. IsClauseNumber i × (i ≤ own)) is → AllByRecursion IsClauseNumber is
first_part own [] h = tt
first_part own (i ∷ is) h = (h.0.0, first_part own is h.1)

-- where a number is deleted, a lemma was written
pub some_own : (own : ℕ) (is : List ℕ) → AllByRecursion (λ i. IsClauseNumber i × (i ≤ own)) is → length is ≢ 0 → 1 ≤ own
some_own own [] h apart = absurd (apart refl)
some_own own (i ∷ is) h apart = let a = h.0.0.0 in let b = h.0.1 in omega arith

pub deletion_text : (q : List Literal) (m : ℕ) (s s' : LiftState) (ids numbers before after : List ℕ) → all_live s.stands ids ≡ true → numbers ≡ own_numbers m s.stands ids
    → s'.stands ≡ after_deletion s.stands ids → s'.top ≡ s.top → s'.own ≡ s.own → s'.closed ≡ s.closed → after ≡ before ++ text_of s.own (deletion numbers)
    → WritesAs (lift_step q m s (Delete ids)) s.own s' before after
deletion_text q m s s' ids numbers before after live is stands top own closed text = (
  deletion numbers,
  ap (λ b. cond b (Ok (deletion (own_numbers m s.stands ids), record s { stands = after_deletion s.stands ids })) (Err 3)) live
      ∙ ap (λ ns. Ok (deletion ns, record s { stands = after_deletion s.stands ids })) (sym is)
      ∙ ap (λ (t : LiftState). Ok (deletion numbers, t)) (same_state (record s { stands = after_deletion s.stands ids }) s' (sym stands) (sym top) (sym own) (sym closed)),
  text,
)

-- a vector that was lent as a slice
front_back : (xs ys : List ℕ) → take (length xs) (xs ++ ys) ≡ xs
front_back [] ys = refl
front_back (x ∷ xs) ys = ap (λ (zs : List ℕ). x ∷ zs) (front_back xs ys)

pub lent_back : (n : ℕ) (new old : List ℕ) → length new ≡ n → take n (new ++ drop (length new) old) ≡ new
lent_back n new old e = ap (λ (k : ℕ). take k (new ++ drop (length new) old)) (sym e) ∙ front_back new (drop (length new) old)

pub deletion_is : (ns : List ℕ) → length ns ≢ 0 → deletion ns ≡ Delete ns ∷ []
deletion_is [] apart = absurd (apart refl)
deletion_is (n ∷ ns) apart = refl

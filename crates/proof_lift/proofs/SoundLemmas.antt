-- If a text is lifted, the result closes the cube.
use Rattle.std.proofs.Common.{◌≡◌, ℕ, max, ◌+◌, ◌-◌, ◌<◌, ◌≤◌, ◌^◌, inl, inr, Bool, true, false, List, [], ◌∷◌, ◌++◌, Some, Result, Ok, Err, cond, refl, sym, ◌∙◌, ap, subst, length, arith, append_assoc}
use Rattle.std.specs.Prelude.{All}
use Rattle.std.specs.List.{AllByRecursion, Contains}
use Rattle.std.specs.FinMap.{get}
use Rattle.std.proofs.lemmas.Bool.{both_ways}
use Rattle.std.proofs.lemmas.List.{append-nil}
use Rattle.std.proofs.lemmas.List.Elements.{All-from_recursion, All-filter, All-nil}
use Rattle.dimacs.specs.logic.Cnf.{Cnf, IsFormula}
use Rattle.dimacs.specs.logic.ClauseMap.{ClauseMap, map_of, live_in}
use Rattle.dimacs.specs.logic.Literal.{Literal, Clause, IsTautology, IsWithin, negation}
use Rattle.dimacs.specs.logic.Propagation.{negations}
use Rattle.dimacs.specs.text.Words.{lines}
use Rattle.dimacs.proofs.Members.{Contains-nil}
use Rattle.lrat_text.specs.Grammar.{IsClauseNumber, IsStepWithin, IsGroup, LineSpellsWithin}
use Rattle.lrat_text.specs.Log.{Cube, AreLogSteps, EndsAt, Closes, log_top}
use Rattle.lrat_text.specs.Parser.{step_within}
use Rattle.lrat_text.specs.Runs.{after_steps, top_of, text_of}
use Rattle.lrat_text.specs.WrittenLine.{line_of, line_text}
use Rattle.lrat_text.specs.declared.fault.TextFault.{TextFault}
use Rattle.lrat_text.specs.declared.step.Step.{Step}
use Rattle.lrat_text.specs.declared.step.Step.TheVariants.{Add, Delete}
use Rattle.lrat_text.proofs.ClauseMapLemmas.{numbered_at}
use Rattle.lrat_text.proofs.LineLemmas.{written_spells_within, written_one_line_within}
use Rattle.lrat_text.proofs.RunLemmas.{log_append, spells_append_within}
use Rattle.lrat_text.proofs.SpellingLemmas.{found_spells_within}
use Rattle.lrat_check.specs.StepFaults.{is_empty_clause}
use Rattle.proof_lift.specs.HintWalk.{Gone, Kept}
use Rattle.proof_lift.specs.TrimmedLemma.{union, used, kept, trimmed}
use Rattle.proof_lift.specs.LiftedText.{LiftState, LiftedStep, LiftResult, with_image, all_live, after_deletion, own_numbers, deletion, prepend, lifted_step, lift_step, lift_line, lift_end, lift_pieces, by_pieces, lift_text, lift_of, begun}
use Rattle.proof_lift.specs.Leaves.{IsCube}
use Rattle.proof_lift.specs.inner.Linked.{LiftInvariant}
use Rattle.proof_lift.specs.inner.Ready.{ImagesSmall}
use Rattle.proof_lift.specs.inner.Walks.{Trims}
use Rattle.proof_lift.proofs.LiftedLemmas.{IsKept, addition_cases, kept_follows, lifting_gone, lifting_more, lifting_deleted, log_deletion, less, none_left, from_filter}
use Rattle.proof_lift.proofs.MapLemmas.{union_is, up_to_formula}
use Rattle.proof_lift.proofs.ReadyLemmas.{stand_cases, same_kept, gone_kept, deletion_less, within_union, trims_numbers, numbers_all, first_part, leaf_kept, clause_within}

-- ---- the lines that are written
one_spelled : (most : ℕ) → most < 2 ^ 48 → (top : ℕ) (step : Step) → IsClauseNumber top → IsStepWithin most step → LineSpellsWithin most (line_of top step ++ []) (step ∷ [])
one_spelled most vars top step number limits = (line_text top step, [], append-nil (line_of top step), written_one_line_within most vars top step number limits, written_spells_within most vars top step number limits, refl)

-- what is kept between two steps
pub record IsGoing (most m : ℕ) (s : LiftState) (N : ClauseMap) : Type 0 where
  pub lifting : LiftInvariant m s.stands N s.own
  pub small : ImagesSmall most s.stands
  pub last : (n i : ℕ) (D : Clause) → s.stands n ≡ Some (Kept i D) → i ≤ s.own
  pub below : s.own ≤ s.top
  pub room : s.own < 2 ^ 48

pub record IsDone (most : ℕ) (q : Cube) (m : ℕ) (s : LiftState) (N : ClauseMap) (steps : List Step) (s' : LiftState) : Type 0 where
  pub going : IsGoing most m s' (after_steps N steps)
  pub log : AreLogSteps m N s.own steps
  pub own : s'.own ≡ top_of s.own steps
  pub spells : LineSpellsWithin most (text_of s.own steps) steps
  pub closes : s'.closed ≡ true → EndsAt q steps

gone_done : (most : ℕ) (q : Cube) (m : ℕ) (s : LiftState) (N : ClauseMap) (id : ℕ) → s.closed ≡ false → IsGoing most m s N → s.top < id
    → IsDone most q m s N [] (record s { stands = with_image s.stands id (Some Gone); top = id })
gone_done most q m s N id still g rises = record {
  going = record {
    lifting = lifting_gone m s.stands N s.own id g.lifting;
    small = λ n i D e. g.small n i D (less s.stands id n i D (Some Gone) gone_kept e).1;
    last = λ n i D e. g.last n i D (less s.stands id n i D (Some Gone) gone_kept e).1;
    below = let b = g.below in omega arith;
    room = g.room;
  };
  log = tt;
  own = refl;
  spells = refl;
  closes = λ t. absurd (both_ways s.closed still t);
}

kept_done : (most : ℕ) → most < 2 ^ 48 → (q : Cube) (m : ℕ) (s : LiftState) (N : ClauseMap) (id : ℕ) (C : Clause) (hints : List ℕ) (steps : List Step) (s' : LiftState) → (IsTautology q → ⊥) → All (IsWithin most) q → IsClauseNumber id → All (IsWithin most) C
    → IsGoing most m s N → s.top < id → (k : IsKept q s id C hints steps s')
    → IsDone most q m s N (Add (s.own + 1) (trimmed q C k.chain k.conflict) (kept k.chain k.conflict k.last) [] ∷ [])
    (record { stands = with_image s.stands id (Some (Kept (s.own + 1) (trimmed q C k.chain k.conflict))); top = id; own = s.own + 1; closed = is_empty_clause C })
kept_done most vars q m s N id C hints steps s' none cube number lits g rises k = record {
  going = record {
    lifting = lifting_more m s.stands N s.own id D g.lifting;
    small = λ n i E e. elim (stand_cases s.stands id n (Some (Kept (s.own + 1) D))) [
      | inl here ↦
          let same = same_kept (s.own + 1) i D E (sym here.1 ∙ e) in
          (subst (λ j. IsClauseNumber j) same.0 next, subst (λ F. All (IsWithin most) F) same.1 within)
      | inr other ↦ g.small n i E (sym other.1 ∙ e)
    ];
    last = λ n i E e. elim (stand_cases s.stands id n (Some (Kept (s.own + 1) D))) [
      | inl here ↦ let same = (same_kept (s.own + 1) i D E (sym here.1 ∙ e)).0 in omega arith
      | inr other ↦ let old = g.last n i E (sym other.1 ∙ e) in omega arith
    ];
    below = let b = g.below in omega arith;
    room = next.1;
  };
  log = ((refl, refl, kept_follows q s N id C hints steps s' none g.lifting.live k), tt);
  own = refl;
  spells = one_spelled most vars (s.own + 1) (Add (s.own + 1) D ns []) next (next, within, numbers, All-nil IsGroup);
  closes = λ t. ([], Add (s.own + 1) D ns [], refl, λ l h. negates t l h);
}
  where
    D : Clause
    D = trimmed q C k.chain k.conflict

    ns : List ℕ
    ns = kept k.chain k.conflict k.last

    next : IsClauseNumber (s.own + 1)
    next = let b = g.below in let u = number.1 in (omega arith, omega arith)

    within : All (IsWithin most) (trimmed q C k.chain k.conflict)
    within = All-filter (λ l. used k.chain k.conflict (negation l)) (IsWithin most) (union q C) (within_union most q C cube lits)

    numbers : All IsClauseNumber (kept k.chain k.conflict k.last)
    numbers = trims_numbers most s.stands hints (negations (union q C)) (union q C) (trimmed q C k.chain k.conflict) (kept k.chain k.conflict k.last) g.small
        (subst (λ w. Trims (union q C) w (trimmed q C k.chain k.conflict) (kept k.chain k.conflict k.last)) (sym k.walk) (refl, refl))

    negates : is_empty_clause C ≡ true → (l : Literal) → Contains (trimmed q C k.chain k.conflict) l → Contains q (negation l)
    negates t l h = elim ((union_is q C).within l (from_filter (λ j. used k.chain k.conflict (negation j)) (union q C) l h)) [
      | inl c ↦ absurd (Contains-nil l (subst (λ F. Contains F l) (none_left C t) c))
      | inr x ↦ x
    ]

deletion_done : (most : ℕ) → most < 2 ^ 48 → (q : Cube) (m : ℕ) (s : LiftState) (N : ClauseMap) (ids : List ℕ) → s.closed ≡ false → IsGoing most m s N
    → IsDone most q m s N (deletion (own_numbers m s.stands ids)) (record s { stands = after_deletion s.stands ids })
deletion_done most vars q m s N ids still g = record {
  going = record {
    lifting = lifting_deleted m s.stands N s.own ids g.lifting;
    small = λ n i D e. g.small n i D (deletion_less s.stands ids n i D e);
    last = λ n i D e. g.last n i D (deletion_less s.stands ids n i D e);
    below = g.below;
    room = g.room;
  };
  log = log_deletion m s.stands N s.own ids g.lifting;
  own = top (own_numbers m s.stands ids);
  spells = spelled (own_numbers m s.stands ids) (numbers_all m s.own s.stands ids (λ n i D e. ((g.small n i D e).0, g.last n i D e)));
  closes = λ t. absurd (both_ways s.closed still t);
}
  where
    top : (ns : List ℕ) → s.own ≡ top_of s.own (deletion ns)
    top [] = refl
    top (n ∷ ns) = refl

    spelled : (ns : List ℕ) → AllByRecursion (λ i. IsClauseNumber i × (i ≤ s.own)) ns → LineSpellsWithin most (text_of s.own (deletion ns)) (deletion ns)
    spelled [] h = refl
    spelled (n ∷ ns) h =
        let low = h.0.0.0 in
        let high = h.0.1 in
        let room = g.room in
        one_spelled most vars s.own (Delete (n ∷ ns)) (omega arith, room) (All-from_recursion IsClauseNumber (n ∷ ns) (first_part s.own (n ∷ ns) h))

pub step_done : (most : ℕ) → most < 2 ^ 48 → (q : Cube) (m : ℕ) (s : LiftState) (N : ClauseMap) (step : Step) (steps : List Step) (s' : LiftState) → (IsTautology q → ⊥) → All (IsWithin most) q → IsStepWithin most step → s.closed ≡ false → IsGoing most m s N
    → lift_step q m s step ≡ Ok (steps, s') → IsDone most q m s N steps s'
step_done most vars q m s N (Add id C hints groups) steps s' none cube limits still g e =
    let c = addition_cases q s id C hints groups steps s' e in
    elim c.1 [
      | inl gone ↦ subst (λ st. IsDone most q m s N steps st) (sym gone.leaves) (subst (λ ss. IsDone most q m s N ss (record s { stands = with_image s.stands id (Some Gone); top = id })) (sym gone.writes) (gone_done most q m s N id still g c.0))
      | inr k ↦
          subst (λ st. IsDone most q m s N steps st) (sym k.leaves)
          (subst (λ ss. IsDone most q m s N ss (record { stands = with_image s.stands id (Some (Kept (s.own + 1) (trimmed q C k.chain k.conflict))); top = id; own = s.own + 1; closed = is_empty_clause C })) (sym k.writes)
          (kept_done most vars q m s N id C hints steps s' none cube limits.0 limits.1 g c.0 k))
    ]
step_done most vars q m s N (Delete ids) steps s' none cube limits still g e = at (all_live s.stands ids) e
  where
    S : LiftState
    S = record s { stands = after_deletion s.stands ids }

    first : LiftedStep → List Step
    first (Ok p) = p.0
    first (Err n) = steps

    second : LiftedStep → LiftState
    second (Ok p) = p.1
    second (Err n) = s'

    at : (b : Bool) → cond {A = LiftedStep} b (Ok (deletion (own_numbers m s.stands ids), record s { stands = after_deletion s.stands ids })) (Err 3) ≡ Ok (steps, s') → IsDone most q m s N steps s'
    at true h =
        subst (λ st. IsDone most q m s N steps st) (ap second h) (subst (λ ss. IsDone most q m s N ss (record s { stands = after_deletion s.stands ids })) (ap first h) (deletion_done most vars q m s N ids still g))
    at false h = absurd cc

-- ---- texts
pub behind_ok : (front : List ℕ) (t : LiftResult) (out : List ℕ) → prepend front t ≡ Ok out → (rest : List ℕ) × (t ≡ Ok rest) × (front ++ rest ≡ out)
behind_ok front (Ok rest) out e = (rest, refl, is e)
  where
    is : ◌≡◌ {A = LiftResult} (Ok (front ++ rest)) (Ok out) → front ++ rest ≡ out
    is h = cc
behind_ok front (Err fault) out e = absurd cc

-- what is written from here on
pub record IsRest (most : ℕ) (q : Cube) (m : ℕ) (s : LiftState) (N : ClauseMap) (out : List ℕ) : Type 0 where
  pub done : s.closed ≡ true → out ≡ []
  pub more : s.closed ≡ false → (steps : List Step) × LineSpellsWithin most out steps × AreLogSteps m N s.own steps × EndsAt q steps

ends_behind : (q : Cube) (front steps : List Step) → EndsAt q steps → EndsAt q (front ++ steps)
ends_behind q front steps (before, last, is, negates) = (front ++ before, last, ap (λ ss. front ++ ss) is ∙ sym (append_assoc front before (last ∷ [])), negates)

-- a step's text, and what is after it
step_rest : (most : ℕ) (q : Cube) (m : ℕ) (s : LiftState) (N : ClauseMap) (steps : List Step) (s' : LiftState) (rest out : List ℕ) → IsDone most q m s N steps s' → IsRest most q m s' (after_steps N steps) rest → text_of s.own steps ++ rest ≡ out
    → (all : List Step) × LineSpellsWithin most out all × AreLogSteps m N s.own all × EndsAt q all
step_rest most q m s N steps s' rest out d r is = at s'.closed refl
  where
    at : (b : Bool) → s'.closed ≡ b → (all : List Step) × LineSpellsWithin most out all × AreLogSteps m N s.own all × EndsAt q all
    at true t = (
      steps,
      subst (λ o. LineSpellsWithin most o steps) (sym (append-nil (text_of s.own steps)) ∙ ap (λ (x : List ℕ). text_of s.own steps ++ x) (sym (r.done t)) ∙ is) d.spells,
      d.log,
      d.closes t,
    )
    at false f =
        let m' = r.more f in (
          steps ++ m'.0,
          subst (λ o. LineSpellsWithin most o (steps ++ m'.0)) is (spells_append_within most (text_of s.own steps) rest steps m'.0 d.spells m'.1),
          log_append m N s.own steps m'.0 d.log (subst (λ t. AreLogSteps m (after_steps N steps) t m'.0) d.own m'.2),
          ends_behind q steps m'.0 m'.3,
        )

pub pieces_close : (most : ℕ) → most < 2 ^ 48 → (q : Cube) (m : ℕ) → (IsTautology q → ⊥) → All (IsWithin most) q → (pieces : List (List ℕ)) (s : LiftState) (N : ClauseMap) (line : ℕ) (piece out : List ℕ) → IsGoing most m s N
    → lift_pieces most q m s line piece pieces ≡ Ok out → IsRest most q m s N out
unfolding lift_pieces
pieces_close most vars q m none cube [] s N line piece out g e = by s.closed refl piece e
  where
    by : (b : Bool) → s.closed ≡ b → (p : List ℕ) → lift_end b line p ≡ Ok out → IsRest most q m s N out
    by true t [] h = record { done = λ _. (let is : ◌≡◌ {A = LiftResult} (Ok []) (Ok out) = h in cc); more = λ f. absurd (both_ways s.closed f t) }
    by false f [] h = absurd cc
    by b is (x ∷ p) h = absurd cc
pieces_close most vars q m none cube (next ∷ pieces) s N line piece out g e =
    at (step_within most piece) refl e (λ s' N' rest g' h. pieces_close most vars q m none cube pieces s' N' (line + 1) next rest g' h)
  where
    later : LiftState → LiftResult
    later s' = lift_pieces most q m s' (line + 1) next pieces

    by_step : (step : Step) → step_within most piece ≡ Ok step → s.closed ≡ false → (r : LiftedStep) → lift_step q m s step ≡ r → lifted_step line s.own r (λ s'. lift_pieces most q m s' (line + 1) next pieces) ≡ Ok out
        → ((s' : LiftState) (N' : ClauseMap) (rest : List ℕ) → IsGoing most m s' N' → lift_pieces most q m s' (line + 1) next pieces ≡ Ok rest → IsRest most q m s' N' rest) → IsRest most q m s N out
    by_step step reads still (Err number) is h on = absurd cc
    by_step step reads still (Ok (steps, s')) is h on =
        let d = step_done most vars q m s N step steps s' none cube (found_spells_within most piece step reads).limits still g is in
        let b = behind_ok (text_of s.own steps) (lift_pieces most q m s' (line + 1) next pieces) out h in
        record {
          done = λ t. absurd (both_ways s.closed still t);
          more = λ _. step_rest most q m s N steps s' b.0 out d (on s' (after_steps N steps) b.0 d.going b.1) b.2;
        }

    by_line : (step : Step) → step_within most piece ≡ Ok step → (b : Bool) → s.closed ≡ b
        → cond b (lift_pieces most q m s (line + 1) next pieces) (lifted_step line s.own (lift_step q m s step) (λ s'. lift_pieces most q m s' (line + 1) next pieces)) ≡ Ok out
        → ((s' : LiftState) (N' : ClauseMap) (rest : List ℕ) → IsGoing most m s' N' → lift_pieces most q m s' (line + 1) next pieces ≡ Ok rest → IsRest most q m s' N' rest) → IsRest most q m s N out
    by_line step reads true t h on = on s N out g h
    by_line step reads false f h on = by_step step reads f (lift_step q m s step) refl h on

    at : (r : Result Step TextFault) → step_within most piece ≡ r → lift_line q m s line r (λ s'. lift_pieces most q m s' (line + 1) next pieces) ≡ Ok out
        → ((s' : LiftState) (N' : ClauseMap) (rest : List ℕ) → IsGoing most m s' N' → lift_pieces most q m s' (line + 1) next pieces ≡ Ok rest → IsRest most q m s' N' rest) → IsRest most q m s N out
    at (Err fault) is h on = absurd cc
    at (Ok step) is h on = by_line step is s.closed refl h on

-- ---- the leaf's formula
leaf_going : (q : Cube) (F : Cnf) → IsFormula F → IsGoing (log_top F) (length F.clauses) (begun q F) (map_of F)
leaf_going q F form = record {
  lifting = record {
    live = λ n i D e.
        let a = leaf_kept q F n i D e in
        let back : n - 1 + 1 ≡ i = (let same = a.0 in let low = a.1 in omega arith) in
        subst (λ k. get (map_of F) k ≡ Some D) back (subst (λ E. live_in (map_of F) (n - 1 + 1) E) (sym a.3) (numbered_at F.clauses (n - 1) [] a.2));
    once = λ n k i D E above a b. (let x = leaf_kept q F n i D a in let same = x.0 in let low = x.1 in let high = x.2 in absurd (omega arith));
    up = up_to_formula F;
    low = omega arith;
  };
  small = λ n i D e.
      let a = leaf_kept q F n i D e in
      let same = a.0 in
      let low = a.1 in
      let high = a.2 in
      let few = form.clauses in
      let more : F.vars ≤ max 2000000 F.vars = omega arith in
      ((omega arith, omega arith), clause_within (log_top F) F.vars D more (subst (λ E. All (IsWithin F.vars) E) (sym a.3) (form.within (n - 1) [] a.2)));
  last = λ n i D e. (let a = leaf_kept q F n i D e in let same = a.0 in let low = a.1 in let high = a.2 in omega arith);
  below = omega arith;
  room = let few = form.clauses in omega arith;
}

pub texts_close : (F : Cnf) (q : Cube) (text out : List ℕ) → IsFormula F → IsCube F q → lift_of F q text ≡ Ok out → Closes F q out
unfolding lift_text
texts_close F q text out form cube e = at (lines text) e
  where
    few : max 2000000 F.vars < 2 ^ 48
    few = omega (arith, form.vars)

    more : F.vars ≤ max 2000000 F.vars
    more = omega arith

    rest : (piece : List ℕ) (pieces : List (List ℕ)) → lift_pieces (log_top F) q (length F.clauses) (begun q F) 1 piece pieces ≡ Ok out → Closes F q out
    rest piece pieces h = (pieces_close (log_top F) few q (length F.clauses) cube.no_pair (clause_within (log_top F) F.vars q more cube.within) pieces (begun q F) (map_of F) 1 piece out (leaf_going q F form) h).more refl

    at : (ps : List (List ℕ)) → by_pieces (lift_pieces (log_top F) q (length F.clauses) (begun q F) 1) ps ≡ Ok out → Closes F q out
    at [] h = rest [] [] h
    at (p ∷ ps) h = rest p ps h

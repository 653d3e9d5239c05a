-- Each refutation of a leaf's formula by reverse unit propagation alone is lifted.
use Rattle.std.proofs.Common.{◌≡◌, ℕ, max, ◌+◌, ◌-◌, ◌^◌, ◌<◌, ◌≤◌, ◌&&◌, ◌⊎◌, inl, inr, Bool, true, false, List, [], ◌∷◌, ◌++◌, Option, Some, None, Ok, Err, cond, refl, sym, ◌∙◌, ap, subst, length, get_or, map, eqb, arith}
use Rattle.std.specs.Prelude.{IsSome, nat_le, nat_lt}
use Rattle.std.specs.List.{Contains}
use Rattle.std.specs.Option.{is_some}
use Rattle.std.specs.FinMap.{get, insert, remove, get-remove}
use Rattle.std.specs.Cmp.{nat_cmp_total}
use Rattle.std.proofs.lemmas.Bool.{both_ways, cases_Bool, ne_eqb}
use Rattle.std.proofs.lemmas.Bool.Decides.{nat_tests}
use Rattle.std.proofs.lemmas.List.{get_or_append_left, get_or-append_right, length-append, length-map}
use Rattle.std.proofs.lemmas.List.Elements.{Contains-get_or, recursion_from_All}
use Rattle.dimacs.specs.logic.Cnf.{Cnf}
use Rattle.dimacs.specs.logic.ClauseMap.{ClauseMap, map_of, live_in}
use Rattle.dimacs.specs.logic.Literal.{Clause, IsTautology, negation}
use Rattle.dimacs.specs.logic.Propagation.{Rup}
use Rattle.dimacs.specs.logic.Rat.{Group}
use Rattle.dimacs.specs.text.Words.{lines}
use Rattle.dimacs.proofs.Members.{Contains-head, Contains-cons, Contains-cons_cases, Contains-nil}
use Rattle.lrat_text.specs.Lines.{AllReadWithin}
use Rattle.lrat_text.specs.Log.{Cube, log_top}
use Rattle.lrat_text.specs.Proof.{without}
use Rattle.lrat_text.specs.Runs.{text_of}
use Rattle.lrat_text.specs.declared.step.Step.{Step}
use Rattle.lrat_text.specs.declared.step.Step.TheVariants.{Add, Delete}
use Rattle.lrat_text.proofs.ClauseMapLemmas.{get_here, get_other, none_some, some_is, same_test, apart_test, numbered_between, numbered_at}
use Rattle.lrat_text.proofs.LineLemmas.{spelled_read_within}
use Rattle.lrat_check.specs.StepFaults.{is_empty_clause, has_groups, deletion_fault, removed}
use Rattle.lrat_check.specs.declared.fault.StepFault.TheVariants.{UnknownClause}
use Rattle.lrat_check.proofs.RatExact.{no_pair_is}
use Rattle.lrat_check.proofs.Taken.{removed-without, deletion_none}
use Rattle.proof_lift.specs.HintWalk.{ClauseImage, Gone, Kept, ClauseImages, Passed}
use Rattle.proof_lift.specs.TrimmedLemma.{union, used, kept, trimmed}
use Rattle.proof_lift.specs.LiftedText.{LiftState, LiftedStep, LiftResult, is_met, with_image, all_live, after_deletion, own_numbers, deletion, prepend, lifted_step, lift_lemma, lift_step, lift_line, lift_end, lift_pieces, by_pieces, lift_text, lift_of, place_image, leaf_images, begun}
use Rattle.proof_lift.specs.Leaves.{IsCube, leaf_of, RefutesByRup, IsRefutation}
use Rattle.proof_lift.specs.inner.Linked.{IsMet, IsImage, AreImages}
use Rattle.proof_lift.proofs.FoundLemmas.{walk_is_complete}
use Rattle.proof_lift.proofs.LiftedLemmas.{is_met-IsMet, IsMet-is_met, from_filter}
use Rattle.proof_lift.proofs.MapLemmas.{union_is}
use Rattle.proof_lift.proofs.ReadyLemmas.{stand_cases, addition_is}

-- ---- what stands for the live clauses
abbrev pub StandsAt : Cube → Option ClauseImage → Clause → Type 0
StandsAt q o C = ((o ≡ Some Gone) × IsMet q C) ⊎ ((i : ℕ) × (D : Clause) × (o ≡ Some (Kept i D)) × IsImage q C D)

stand_more : (q : Cube) (T : ClauseImages) (M : ClauseMap) (id : ℕ) (C : Clause) (s : ClauseImage) → AreImages q T M → StandsAt q (Some s) C → AreImages q (with_image T id (Some s)) (insert M id C)
stand_more q T M id C s h new = record { each = each }
  where
    each : (n : ℕ) (D : Clause) → live_in (insert M id C) n D → StandsAt q (with_image T id (Some s) n) D
    each n D live = elim (stand_cases T id n (Some s)) [
      | inl here ↦
          let is = some_is C D (sym (get_here M id C) ∙ subst (λ k. get (insert M id C) k ≡ Some D) here.0 live) in
          subst (λ x. StandsAt q (with_image T id (Some s) n) x) is (subst (λ o. StandsAt q o C) (sym here.1) new)
      | inr other ↦ subst (λ o. StandsAt q o D) (sym other.1) (h.each n D (sym (get_other M id n C other.0) ∙ live))
    ]

stand_removed : (q : Cube) (T : ClauseImages) (M : ClauseMap) (id : ℕ) → AreImages q T M → AreImages q (with_image T id None) (remove M id)
stand_removed q T M id h = record { each = each }
  where
    each : (n : ℕ) (D : Clause) → live_in (remove M id) n D → StandsAt q (with_image T id None n) D
    each n D live = elim (stand_cases T id n None) [
      | inl here ↦ absurd (none_some D (sym (get-remove nat_cmp_total M id n ∙ ap (λ b. cond b None (get M n)) (same_test n id here.0)) ∙ live))
      | inr other ↦ subst (λ o. StandsAt q o D) (sym other.1) (h.each n D (sym (get-remove nat_cmp_total M id n ∙ ap (λ b. cond b None (get M n)) (apart_test n id other.0)) ∙ live))
    ]

something : (q : Cube) (o : Option ClauseImage) (C : Clause) → StandsAt q o C → is_some o ≡ true
something q o C (inl h) = ap is_some h.0
something q o C (inr h) = ap is_some h.2

deletion_lifts : (q : Cube) (ids : List ℕ) (T : ClauseImages) (M : ClauseMap) → AreImages q T M → deletion_fault M ids ≡ None → (all_live T ids ≡ true) × AreImages q (after_deletion T ids) (removed M ids)
deletion_lifts q [] T M h e = (refl, h)
deletion_lifts q (id ∷ ids) T M h e = at (get M id) refl e (λ f. deletion_lifts q ids (with_image T id None) (remove M id) (stand_removed q T M id h) f)
  where
    at : (o : Option Clause) → get M id ≡ o → cond (is_some o) (deletion_fault (remove M id) ids) (Some UnknownClause) ≡ None
        → (deletion_fault (remove M id) ids ≡ None → (all_live (with_image T id None) ids ≡ true) × AreImages q (after_deletion (with_image T id None) ids) (removed (remove M id) ids))
        → (all_live T (id ∷ ids) ≡ true) × AreImages q (after_deletion T (id ∷ ids)) (removed M (id ∷ ids))
    at None is f on = absurd cc
    at (Some C) is f on =
        let r = on f in
        (both (is_some (T id)) (all_live (with_image T id None) ids) (something q (T id) C (h.each id C is)) r.0, r.1)
      where
        both : (a b : Bool) → a ≡ true → b ≡ true → (a && b) ≡ true
        both true b e f = f
        both false b e f = absurd cc

-- ---- steps
-- where the steps that are left lead
abbrev pub IsOn : Cube → LiftState → ClauseMap → List Step → Type 0
IsOn q s M steps = (s.closed ≡ true) ⊎ ((s.closed ≡ false) × AreImages q s.stands M × RefutesByRup M s.top steps)

-- a step is lifted, and leads on
abbrev pub LiftsOn : Cube → ℕ → LiftState → Step → List Step → Type 0
LiftsOn q m s step steps = (written : List Step) × (s' : LiftState) × (M' : ClauseMap) × (lift_step q m s step ≡ Ok (written, s')) × IsOn q s' M' steps

not_empty_met : (q : Cube) (C : Clause) → C ≡ [] → IsMet q C → ⊥
not_empty_met q C e m = Contains-nil m.0 (subst (λ D. Contains D m.0) e m.2)

left_some : (C : Clause) → is_empty_clause C ≡ false → C ≡ [] → ⊥
left_some C f e = both_ways (is_empty_clause C) f (ap is_empty_clause e)

addition_lifts : (q : Cube) (m : ℕ) (s : LiftState) (M : ClauseMap) (id : ℕ) (C : Clause) (hints : List ℕ) (groups : List Group) (steps : List Step) → (IsTautology q → ⊥) → s.closed ≡ false → AreImages q s.stands M
    → s.top < id → groups ≡ [] → Rup (live_in M) C hints → (C ≡ []) ⊎ RefutesByRup (insert M id C) id steps → LiftsOn q m s (Add id C hints groups) steps
addition_lifts q m s M id C hints groups steps none still stand rises no_group rup on = elim (cases_Bool (is_met q C)) [
  | inl t ↦
      let met = is_met-IsMet q C t in (
        [],
        record s { stands = with_image s.stands id (Some Gone); top = id },
        insert M id C,
        addition_is q s id C hints groups rises (no_pair_is C rup.no_pair) (ap has_groups no_group) true t,
        elim on [
          | inl e ↦ absurd (not_empty_met q C e met)
          | inr rest ↦ inr (still, stand_more q s.stands M id C Gone stand (inl (refl, met)), rest)
        ],
      )
  | inr f ↦ elim (walk_is_complete q s.stands M C (union q C) hints none stand (union_is q C) rup) [
    | inl met ↦ absurd (both_ways (is_met q C) f (IsMet-is_met q C met))
    | inr (ps, last, conflict, is) ↦ (
      Add (s.own + 1) (trimmed q C ps conflict) (kept ps conflict last) [] ∷ [],
      record { stands = with_image s.stands id (Some (Kept (s.own + 1) (trimmed q C ps conflict))); top = id; own = s.own + 1; closed = is_empty_clause C },
      insert M id C,
      addition_is q s id C hints groups rises (no_pair_is C rup.no_pair) (ap has_groups no_group) false f ∙ ap (lift_lemma q s id C) is,
      later ps conflict (is_empty_clause C) refl on,
    )
  ]
]
  where
    image : (ps : List Passed) (conflict : Clause) → IsImage q C (trimmed q C ps conflict)
    image ps conflict l h = (union_is q C).within l (from_filter (λ k. used ps conflict (negation k)) (union q C) l h)

    later : (ps : List Passed) (conflict : Clause) (b : Bool) → is_empty_clause C ≡ b → (C ≡ []) ⊎ RefutesByRup (insert M id C) id steps
        → IsOn q (record { stands = with_image s.stands id (Some (Kept (s.own + 1) (trimmed q C ps conflict))); top = id; own = s.own + 1; closed = is_empty_clause C }) (insert M id C) steps
    later ps conflict true t h = inl t
    later ps conflict false f (inl e) = absurd (left_some C f e)
    later ps conflict false f (inr rest) = inr (f, stand_more q s.stands M id C (Kept (s.own + 1) (trimmed q C ps conflict)) stand (inr (s.own + 1, trimmed q C ps conflict, refl, image ps conflict)), rest)

step_lifts : (q : Cube) (m : ℕ) (s : LiftState) (M : ClauseMap) (step : Step) (steps : List Step) → (IsTautology q → ⊥) → s.closed ≡ false → AreImages q s.stands M → RefutesByRup M s.top (step ∷ steps) → LiftsOn q m s step steps
step_lifts q m s M (Add id C hints groups) steps none still stand (rises, no_group, rup, on) = addition_lifts q m s M id C hints groups steps none still stand rises no_group rup on
step_lifts q m s M (Delete ids) steps none still stand (live, distinct, on) =
    let d = deletion_lifts q ids s.stands M stand (deletion_none M ids (recursion_from_All (λ id. IsSome (get M id)) ids live) distinct) in (
      deletion (own_numbers m s.stands ids),
      record s { stands = after_deletion s.stands ids },
      without M ids,
      ap (λ b. cond {A = LiftedStep} b (Ok (deletion (own_numbers m s.stands ids), record s { stands = after_deletion s.stands ids })) (Err 3)) d.0,
      inr (still, subst (λ N. AreImages q (after_deletion s.stands ids) N) (removed-without M ids) d.1, on),
    )

-- ---- texts
abbrev pub IsOut : LiftResult → Type 0
IsOut t = (out : List ℕ) × (t ≡ Ok out)

out_behind : (front : List ℕ) (t : LiftResult) → IsOut t → IsOut (prepend front t)
out_behind front t (out, e) = (front ++ out, ap (prepend front) e)

pieces_lift : (most : ℕ) (q : Cube) (m : ℕ) → (IsTautology q → ⊥) → (pieces : List (List ℕ)) (steps : List Step) (s : LiftState) (M : ClauseMap) (line : ℕ) (piece : List ℕ) → AllReadWithin most (piece ∷ pieces) steps → IsOn q s M steps
    → IsOut (lift_pieces most q m s line piece pieces)
unfolding lift_pieces
pieces_lift most q m none [] steps s M line piece read (inl t) = ([], ap (lift_end s.closed line) read.0 ∙ ap (λ b. lift_end b line []) t)
pieces_lift most q m none [] steps s M line piece read (inr (f, stand, on)) = absurd (subst (λ ss. RefutesByRup M s.top ss) read.1 on)
pieces_lift most q m none (next ∷ pieces) [] s M line piece read on = absurd read
pieces_lift most q m none (next ∷ pieces) (step ∷ steps) s M line piece (reads, more) on =
    subst (λ r. IsOut (lift_line q m s line r (λ s'. lift_pieces most q m s' (line + 1) next pieces))) (sym reads) (at on (λ ss s' M' h ready. pieces_lift most q m none pieces ss s' M' (line + 1) next h ready))
  where
    at : IsOn q s M (step ∷ steps) → ((ss : List Step) (s' : LiftState) (M' : ClauseMap) → AllReadWithin most (next ∷ pieces) ss → IsOn q s' M' ss → IsOut (lift_pieces most q m s' (line + 1) next pieces))
        → IsOut (cond s.closed (lift_pieces most q m s (line + 1) next pieces) (lifted_step line s.own (lift_step q m s step) (λ s'. lift_pieces most q m s' (line + 1) next pieces)))
    at (inl t) rest =
        subst (λ b. IsOut (cond b (lift_pieces most q m s (line + 1) next pieces) (lifted_step line s.own (lift_step q m s step) (λ s'. lift_pieces most q m s' (line + 1) next pieces)))) (sym t)
        (rest steps s M more (inl t))
    at (inr (f, stand, refutes)) rest =
        let l = step_lifts q m s M step steps none f stand refutes in
        subst (λ b. IsOut (cond b (lift_pieces most q m s (line + 1) next pieces) (lifted_step line s.own (lift_step q m s step) (λ s'. lift_pieces most q m s' (line + 1) next pieces)))) (sym f)
        (subst (λ (r : LiftedStep). IsOut (lifted_step line s.own r (λ s'. lift_pieces most q m s' (line + 1) next pieces))) (sym l.3)
        (out_behind (text_of s.own l.0) (lift_pieces most q m l.1 (line + 1) next pieces) (rest steps l.1 l.2 more l.4)))

-- ---- the leaf's formula
abbrev units : Cube → List Clause
units q = map (λ x. x ∷ []) q

unit_met : (q : Cube) (C : Clause) → Contains (units q) C → IsMet q C
unit_met [] C h = absurd (Contains-nil C h)
unit_met (x ∷ q) C h = elim (Contains-cons_cases (x ∷ []) C (units q) h) [
  | inl e ↦ (x, Contains-head x q, subst (λ D. Contains D x) e (Contains-head x []))
  | inr r ↦ let z = unit_met q C r in (z.0, Contains-cons x z.0 q z.1, z.2)
]

leaf_total : (q : Cube) (F : Cnf) → length (F.clauses ++ units q) ≡ length F.clauses + length q
leaf_total q F = length-append F.clauses (units q) ∙ ap (λ n. length F.clauses + n) (length-map q (λ x. x ∷ []))

leaf_place : (q : Cube) (F : Cnf) (n : ℕ) → 0 < n → n - 1 < length F.clauses + length q → leaf_images q F n ≡ Some (place_image F n)
leaf_place q F n low high =
    let some : eqb n 0 ≡ false = ne_eqb n 0 (λ z. absurd (omega arith)) in
    let within : nat_le n (length F.clauses + length q) ≡ true = grind (arith, nat_tests, low, high) in
    ap (λ b. cond b None (cond (nat_le n (length F.clauses + length q)) (Some (place_image F n)) None)) some ∙ ap (λ b. cond b (Some (place_image F n)) None) within

leaf_each : (q : Cube) (F : Cnf) (n : ℕ) (C : Clause) → live_in (map_of (leaf_of q F)) n C → StandsAt q (leaf_images q F n) C
leaf_each q F n C live =
    let between = numbered_between (F.clauses ++ units q) n C live in
    let low = between.0 in
    let high = between.1 in
    let total = leaf_total q F in
    let inside : n - 1 < length (F.clauses ++ units q) = omega arith in
    let back : n ≡ n - 1 + 1 = omega arith in
    let is : get_or (F.clauses ++ units q) (n - 1) [] ≡ C = some_is (get_or (F.clauses ++ units q) (n - 1) []) C (sym (numbered_at (F.clauses ++ units q) (n - 1) [] inside) ∙ subst (λ k. get (map_of (leaf_of q F)) k ≡ Some C) back live) in
    let place = leaf_place q F n low (omega arith) in
    elim (cases_Bool (nat_lt (n - 1) (length F.clauses))) [
      | inl t ↦
          let below : n - 1 < length F.clauses = grind (arith, nat_tests, t) in
          let same : get_or F.clauses (n - 1) [] ≡ C = sym (get_or_append_left F.clauses (units q) [] (n - 1) below) ∙ is in
          inr (n, C, place ∙ ap (λ b. Some (cond b (Kept n (get_or F.clauses (n - 1) [])) Gone)) t ∙ ap (λ D. Some (Kept n D)) same, λ l h. inl h)
      | inr f ↦
          let right : length F.clauses ≤ n - 1 = grind (arith, nat_tests, f) in
          let count : length (units q) ≡ length q = length-map q (λ x. x ∷ []) in
          let short : n - 1 - length F.clauses < length (units q) = omega arith in
          let same : get_or (units q) (n - 1 - length F.clauses) [] ≡ C = sym (get_or-append_right F.clauses (units q) (length F.clauses) (n - 1) [] refl right) ∙ is in
          inl (place ∙ ap (λ b. Some (cond b (Kept n (get_or F.clauses (n - 1) [])) Gone)) f, unit_met q C (subst (λ D. Contains (units q) D) same (Contains-get_or (units q) (n - 1 - length F.clauses) [] short)))
    ]

pub refutations_lift : (F : Cnf) (q : Cube) (text : List ℕ) → F.vars ≤ 199999999 → IsCube F q → IsRefutation (leaf_of q F) text → (out : List ℕ) × (lift_of F q text ≡ Ok out)
unfolding lift_text
refutations_lift F q text vars cube (steps, spelled, refutes) = at (lines text) (spelled_read_within (log_top F) few text steps spelled)
  where
    few : max 2000000 F.vars < 2 ^ 48
    few = omega (arith, vars)

    on : IsOn q (begun q F) (map_of (leaf_of q F)) steps
    on = inr (refl, record { each = leaf_each q F }, subst (λ t. RefutesByRup (map_of (leaf_of q F)) t steps) (leaf_total q F) refutes)

    at : (ps : List (List ℕ)) → AllReadWithin (log_top F) ps steps → IsOut (by_pieces (lift_pieces (log_top F) q (length F.clauses) (begun q F) 1) ps)
    at [] read = absurd read
    at (p ∷ ps) read = pieces_lift (log_top F) q (length F.clauses) cube.no_pair ps steps (begun q F) (map_of (leaf_of q F)) 1 p read on

-- Lines of a preamble.
use Rattle.std.proofs.Common.{◌≡◌, ℕ, max, zero, suc, ◌+◌, ◌*◌, ◌^◌, ◌<◌, ◌≤◌, inr, not, List, [], ◌∷◌, ◌++◌, map, length, refl, sym, ◌∙◌, ap, subst, arith, append_assoc, length-append}
use Rattle.std.specs.List.{All, enumerate_from, flat_map}
use Rattle.std.specs.FinMap.{insert, from_entries, get-from_entries, from_entries_push, nat_cmp-IsAntisymmetric}
use Rattle.std.specs.Cmp.{nat_cmp_total}
use Rattle.std.proofs.lemmas.List.Filters.{length-filter_both}
use Rattle.std.proofs.lemmas.List.{length-map, map-append, append-nil}
use Rattle.std.proofs.lemmas.List.Elements.{All-nil, All-cons, All-head, All-tail}
use Rattle.dimacs.specs.logic.Base.{is_pure, numbers_from, pure_literals, base_of}
use Rattle.dimacs.specs.logic.Rat.{Rat}
use Rattle.dimacs.specs.logic.ClauseMap.{ClauseMap, map_of, live_in}
use Rattle.dimacs.specs.logic.Cnf.{Cnf, IsFormula}
use Rattle.dimacs.specs.logic.Literal.{Literal, Pos, Neg, Clause, IsWithin}
use Rattle.lrat_text.specs.Grammar.{LineSpellsWithin, IsStepWithin, IsClauseNumber, IsGroup}
use Rattle.lrat_text.specs.Proof.{Refutation, proof_top}
use Rattle.lrat_text.specs.declared.step.Step.{Step}
use Rattle.lrat_text.specs.declared.step.Step.TheVariants.{Add, Delete}
use Rattle.cube_split.specs.SplitTree.{with_units}
use Rattle.cube_split.proofs.RatLemmas.{unit_is_rat}
use Rattle.cube_split.proofs.PureLemmas.{pure_within}
use Rattle.lrat_text.specs.Runs.{after_steps, top_of, text_of}
use Rattle.proof_join.specs.JoinedProof.{AreRatSteps, IsPreamble, unit_steps}
use Rattle.proof_join.proofs.MapLemmas.{none_behind}
use Rattle.proof_join.proofs.TextLemmas.{spells_cons}

-- ---- what holds of each preamble
pub rat_top : (M : ClauseMap) (top : ℕ) (steps : List Step) → AreRatSteps M top steps → top_of top steps ≡ top + length steps
rat_top M top [] h = omega arith
rat_top M top (Add id lits hints groups ∷ steps) (next, rat, rest) = rat_top (insert M id lits) id steps rest ∙ omega arith
rat_top M top (Delete ids ∷ steps) h = absurd h

-- after a preamble a refutation goes on
pub rat_refutes : (M : ClauseMap) (top : ℕ) (steps more : List Step) → AreRatSteps M top steps → Refutation (after_steps M steps) (top_of top steps) more → Refutation M top (steps ++ more)
rat_refutes M top [] more h r = r
rat_refutes M top (Add id lits hints groups ∷ steps) more (next, rat, rest) r =
    (insert M id lits, id, (omega arith, inr rat, refl, refl), inr (rat_refutes (insert M id lits) id steps more rest r))
rat_refutes M top (Delete ids ∷ steps) more h r = absurd h

pub rat_spells : (most : ℕ) → most < 2 ^ 48 → (M : ClauseMap) (top : ℕ) (steps : List Step) → AreRatSteps M top steps → All (IsStepWithin most) steps → LineSpellsWithin most (text_of top steps) steps
rat_spells most few M top [] h limits = refl
rat_spells most few M top (Add id lits hints groups ∷ steps) (next, rat, rest) limits =
    let here : IsStepWithin most (Add id lits hints groups) = All-head (IsStepWithin most) (Add id lits hints groups) steps limits in
    spells_cons most few top id (Add id lits hints groups) (text_of id steps) steps refl here.0 here
    (rat_spells most few (insert M id lits) id steps rest (All-tail (IsStepWithin most) (Add id lits hints groups) steps limits))
rat_spells most few M top (Delete ids ∷ steps) h limits = absurd h

-- ---- the units of pure literals
abbrev numbered : List Clause → ClauseMap
numbered F = from_entries (enumerate_from 1 F)

enumerate_push : (n : ℕ) (F : List Clause) (C : Clause) → enumerate_from n (F ++ C ∷ []) ≡ enumerate_from n F ++ (n + length F, C) ∷ []
enumerate_push n [] C = ap (λ k. (k, C) ∷ []) (let e : n ≡ n + 0 = omega arith in e)
enumerate_push n (D ∷ F) C =
    ap (λ es. (n, D) ∷ es) (enumerate_push (n + 1) F C ∙ ap (λ k. enumerate_from (n + 1) F ++ (k, C) ∷ []) (let e : (n + 1) + length F ≡ n + length (D ∷ F) = omega arith in e))

numbered_push : (F : List Clause) (C : Clause) → numbered (F ++ C ∷ []) ≡ insert (numbered F) (length F + 1) C
numbered_push F C =
    ap (λ es. from_entries es) (enumerate_push 1 F C)
    ∙ from_entries_push nat_cmp_total nat_cmp-IsAntisymmetric (enumerate_from 1 F) (1 + length F) C
    (sym (get-from_entries nat_cmp_total (enumerate_from 1 F) (1 + length F)) ∙ none_behind F)
    ∙ ap (λ k. insert (numbered F) k C) (let e : 1 + length F ≡ length F + 1 = omega arith in e)

-- units after those before
units_push : (f : Cnf) (before : List Literal) (l : Literal) → insert (map_of (with_units f before)) (length f.clauses + length before + 1) (l ∷ []) ≡ map_of (with_units f (before ++ l ∷ []))
units_push f before l =
    let unit : Literal → Clause = λ k. k ∷ [] in
    let old : List Clause = f.clauses ++ map unit before in
    ap (λ (n : ℕ). insert (numbered old) (n + 1) (l ∷ [])) (sym (length-append f.clauses (map unit before) ∙ ap (λ (n : ℕ). length f.clauses + n) (length-map before unit)))
    ∙ sym (numbered_push old (l ∷ []))
    ∙ ap numbered (append_assoc f.clauses (map unit before) ((l ∷ []) ∷ []) ∙ ap (λ (cs : List Clause). f.clauses ++ cs) (sym (map-append unit before (l ∷ []))))

one_longer : (f : Cnf) (before : List Literal) (l : Literal) → length f.clauses + length before + 1 ≡ length f.clauses + length (before ++ l ∷ [])
one_longer f before l = let e = length-append before (l ∷ []) in omega arith

units_rat : (f : Cnf) (before after : List Literal) (M : ClauseMap) (top : ℕ) → pure_literals f ≡ before ++ after → M ≡ map_of (with_units f before) → top ≡ length f.clauses + length before
    → AreRatSteps M top (unit_steps top after)
units_rat f before [] M top e is number = tt
units_rat f before (l ∷ after) M top e is number = (
  refl,
  subst (λ (N : ClauseMap). Rat (live_in N) (l ∷ []) [] []) (sym is) (unit_is_rat f before after l e),
  units_rat f (before ++ l ∷ []) after (insert M (top + 1) (l ∷ [])) (top + 1) (e ∙ sym (append_assoc before (l ∷ []) after))
      (ap (λ (N : ClauseMap). insert N (top + 1) (l ∷ [])) is ∙ ap (λ (n : ℕ). insert (map_of (with_units f before)) (n + 1) (l ∷ [])) number ∙ units_push f before l)
      (ap (λ (n : ℕ). n + 1) number ∙ one_longer f before l),
)

units_after : (f : Cnf) (before after : List Literal) (M : ClauseMap) (top : ℕ) → M ≡ map_of (with_units f before) → top ≡ length f.clauses + length before
    → after_steps M (unit_steps top after) ≡ map_of (with_units f (before ++ after))
units_after f before [] M top is number = is ∙ ap (λ (xs : List Literal). map_of (with_units f xs)) (sym (append-nil before))
units_after f before (l ∷ after) M top is number =
    units_after f (before ++ l ∷ []) after (insert M (top + 1) (l ∷ [])) (top + 1)
    (ap (λ (N : ClauseMap). insert N (top + 1) (l ∷ [])) is ∙ ap (λ (n : ℕ). insert (map_of (with_units f before)) (n + 1) (l ∷ [])) number ∙ units_push f before l)
    (ap (λ (n : ℕ). n + 1) number ∙ one_longer f before l)
    ∙ ap (λ (xs : List Literal). map_of (with_units f xs)) (append_assoc before (l ∷ []) after)

pub units_length : (top : ℕ) (units : List Literal) → length (unit_steps top units) ≡ length units
units_length top [] = refl
units_length top (l ∷ units) = let e = units_length (top + 1) units in omega arith

units_limits : (most vars top : ℕ) (units : List Literal) → vars ≤ most → top + length units < 2 ^ 48 → All (IsWithin vars) units → All (IsStepWithin most) (unit_steps top units)
units_limits most vars top [] few low within = All-nil (IsStepWithin most)
units_limits most vars top (l ∷ units) few low within =
    let here : IsWithin vars l = All-head (IsWithin vars) l units within in
    let above = here.1 in
    All-cons (IsStepWithin most) (Add (top + 1) (l ∷ []) [] []) (unit_steps (top + 1) units)
    ((omega arith, omega arith), All-cons (IsWithin most) l [] (here.0, omega arith) (All-nil (IsWithin most)), All-nil IsClauseNumber, All-nil IsGroup)
    (units_limits most vars (top + 1) units few (omega arith) (All-tail (IsWithin vars) l units within))

both_length : (first count : ℕ) → length (flat_map (λ v. Pos v ∷ Neg v ∷ []) (numbers_from first count)) ≡ 2 * count
both_length first zero = refl
both_length first (suc count) = let e = both_length (first + 1) count in omega arith

pure_few : (f : Cnf) → length (pure_literals f) ≤ 2 * f.vars
pure_few f =
    let e = both_length 1 f.vars in
    let h = length-filter_both (is_pure f) (λ l. not (is_pure f l)) (λ l. refl) (flat_map (λ v. Pos v ∷ Neg v ∷ []) (numbers_from 1 f.vars)) in
    omega arith

no_unit : (f : Cnf) → map_of f ≡ map_of (with_units f [])
no_unit f = ap numbered (sym (append-nil f.clauses))

-- the units of the pure literals lead to the base
pub units_lead : (f : Cnf) → IsFormula f → IsPreamble f (base_of f) (unit_steps (length f.clauses) (pure_literals f))
units_lead f limits =
    let few = pure_few f in
    let vars = limits.vars in
    let clauses = limits.clauses in
    let room : f.vars ≤ max 2000000 (2 * f.vars) = omega arith in
    record {
      rat = units_rat f [] (pure_literals f) (map_of f) (length f.clauses) refl (no_unit f) (omega arith);
      limits = units_limits (proof_top f) f.vars (length f.clauses) (pure_literals f) room (omega arith) (pure_within f);
      base = sym (units_after f [] (pure_literals f) (map_of f) (length f.clauses) (no_unit f) (omega arith));
      count = length-append f.clauses (map (λ l. l ∷ []) (pure_literals f))
          ∙ ap (λ (n : ℕ). length f.clauses + n) (length-map (pure_literals f) (λ (l : Literal). l ∷ []) ∙ sym (units_length (length f.clauses) (pure_literals f)));
      vars = room;
    }

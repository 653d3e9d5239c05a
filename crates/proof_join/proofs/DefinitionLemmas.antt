-- The lines of definitions lead from the units' base to the base with definitions.
use Rattle.std.proofs.Common.{◌≡◌, ◌≢◌, ℕ, max, zero, suc, ◌+◌, ◌*◌, ◌^◌, ◌<◌, ◌≤◌, inl, inr, Bool, true, false, not, List, [], ◌∷◌, ◌++◌, map, length, Some, cond, refl, sym, ◌∙◌, ap, subst, arith, append_assoc, length-append}
use Rattle.std.specs.List.{All, AllByRecursion, enumerate_from, flat_map}
use Rattle.std.specs.FinMap.{get, insert, find, from_entries, get-from_entries, from_entries_push, nat_cmp-IsAntisymmetric}
use Rattle.std.specs.Ordering.{nat_cmp, eq_by_cmp}
use Rattle.std.specs.Cmp.{nat_cmp_total}
use Rattle.std.proofs.lemmas.Bool.{cases_eq}
use Rattle.std.proofs.lemmas.List.Filters.{length-filter_both}
use Rattle.std.proofs.lemmas.List.{append-nil}
use Rattle.std.proofs.lemmas.List.Elements.{All-nil, All-cons, All-head, All-tail, All-append, All-weaker}
use Rattle.dimacs.specs.logic.Base.{is_pure, numbers_from, pure_literals, base_of}
use Rattle.dimacs.specs.logic.ClauseMap.{ClauseMap, map_of}
use Rattle.dimacs.specs.logic.Cnf.{Cnf, IsFormula, Sat}
use Rattle.dimacs.proofs.WithinLemmas.{EachWithin, each_within}
use Rattle.dimacs.specs.logic.Literal.{Literal, Pos, Neg, Clause, IsTrueIn, IsWithin, negation, var_of}
use Rattle.dimacs.proofs.LiteralLemmas.{var_of-negation}
use Rattle.icnf.specs.Leaves.{Cube}
use Rattle.lrat_text.specs.Grammar.{IsStepWithin, IsClauseNumber, IsGroup}
use Rattle.lrat_text.specs.Proof.{Accepts, proof_top}
use Rattle.lrat_text.specs.declared.step.Step.{Step}
use Rattle.lrat_text.specs.declared.step.Step.TheVariants.{Add, Delete}
use Rattle.cube_split.proofs.PureLemmas.{pure_within}
use Rattle.lrat_text.specs.Runs.{after_steps, top_of}
use Rattle.proof_join.specs.JoinedProof.{AreRatSteps, IsPreamble, unit_steps, AllClose, Joined}
use Rattle.proof_join.proofs.JoinLemmas.{joined_accepts}
use Rattle.lrat_text.proofs.RunLemmas.{after_append}
use Rattle.proof_join.proofs.MapLemmas.{get_here, get_other, none_some, none_behind}
use Rattle.proof_join.proofs.PreambleLemmas.{rat_top, units_lead, units_length}
use Rattle.cube_split.specs.Definitions.{IsPairOf, both_clause, part_clause, all_clauses, base_with}
use Rattle.cube_split.specs.declared.pair.Pair.{Pair}
use Rattle.proof_join.specs.Definitions.{definition_steps, all_steps, preamble_steps}
use Rattle.proof_join.proofs.DefinitionRat.{IsUnused, both_rat, first_rat, second_rat}

-- ---- live clauses have variables below d
abbrev pub AreUnder : ℕ → ClauseMap → Type 0
AreUnder d M = (n : ℕ) (C : Clause) → get M n ≡ Some C → All (λ l. var_of l < d) C

same_clause : (C D : Clause) → Some C ≡ Some D → C ≡ D
same_clause C D e = cc

under_insert : (d : ℕ) (M : ClauseMap) (n : ℕ) (C : Clause) → AreUnder d M → All (λ l. var_of l < d) C → AreUnder d (insert M n C)
under_insert d M n C under here k D live = elim (cases_eq k n) [
  | inl e ↦ subst (λ (E : Clause). All (λ l. var_of l < d) E) (same_clause C D (sym (get_here M n C) ∙ ap (get (insert M n C)) (sym e) ∙ live)) here
  | inr ne ↦ under k D (sym (get_other M n k C ne) ∙ live)
]

under_more : (d : ℕ) (M : ClauseMap) → AreUnder d M → AreUnder (d + 1) M
under_more d M under n C live = All-weaker (λ l. var_of l < d) (λ l. var_of l < d + 1) (λ l h. omega arith) C (under n C live)

under_unused : (d : ℕ) (M : ClauseMap) → AreUnder d M → IsUnused M d
under_unused d M under n C live = All-weaker (λ l. var_of l < d) (λ l. var_of l ≢ d) (λ l h e. omega arith) C (under n C live)

both_under : (vars d : ℕ) (p : Pair) → vars + 1 ≤ d → IsPairOf vars p → All (λ l. var_of l < d + 1) (both_clause d p)
both_under vars d p low is =
    let a = var_of-negation p.first in
    let b = var_of-negation p.second in
    let r = is.rise in
    let u = is.up_to in
    let P : Literal → Type 0 = λ l. var_of l < d + 1 in
    All-cons P (Pos d) (negation p.first ∷ negation p.second ∷ []) (omega arith)
    (All-cons P (negation p.first) (negation p.second ∷ []) (omega arith) (All-cons P (negation p.second) [] (omega arith) (All-nil P)))

part_under : (d : ℕ) (l : Literal) → var_of l < d → All (λ k. var_of k < d + 1) (part_clause d l)
part_under d l low =
    let P : Literal → Type 0 = λ k. var_of k < d + 1 in
    All-cons P (Neg d) (l ∷ []) (omega arith) (All-cons P l [] (omega arith) (All-nil P))

-- ---- each line is a resolution asymmetric tautology
pub all_rat : (vars : ℕ) (pairs : List Pair) (M : ClauseMap) (top d : ℕ) → vars + 1 ≤ d → AreUnder d M → All (IsPairOf vars) pairs → AreRatSteps M top (all_steps top d pairs)
all_rat vars [] M top d low under are = tt
all_rat vars (p ∷ pairs) M top d low under are =
    let is : IsPairOf vars p = All-head (IsPairOf vars) p pairs are in
    let r = is.rise in
    let u = is.up_to in
    let unused : IsUnused M d = under_unused d M under in
    let a : var_of p.first ≢ d = λ e. omega arith in
    let b : var_of p.second ≢ d = λ e. omega arith in
    let one : ClauseMap = insert M (top + 1) (both_clause d p) in
    let two : ClauseMap = insert one (top + 2) (part_clause d p.first) in
    let three : ClauseMap = insert two (top + 3) (part_clause d p.second) in (
      refl,
      both_rat M d p unused a b (λ e. omega arith),
      (
        omega arith,
        first_rat M (top + 1) d p unused a b,
        (
          omega arith,
          second_rat M (top + 1) d p unused a b (top + 2) (λ e. omega arith),
          all_rat vars pairs three (top + 3) (d + 1) (omega arith)
              (under_insert (d + 1) two (top + 3) (part_clause d p.second)
              (under_insert (d + 1) one (top + 2) (part_clause d p.first)
              (under_insert (d + 1) M (top + 1) (both_clause d p) (under_more d M under) (both_under vars d p low is))
              (part_under d p.first (omega arith)))
              (part_under d p.second (omega arith)))
              (All-tail (IsPairOf vars) p pairs are),
        ),
      ),
    )

pub rat_append : (M : ClauseMap) (top : ℕ) (xs ys : List Step) → AreRatSteps M top xs → AreRatSteps (after_steps M xs) (top_of top xs) ys → AreRatSteps M top (xs ++ ys)
rat_append M top [] ys h g = g
rat_append M top (Add id lits hints groups ∷ xs) ys (next, rat, rest) g = (next, rat, rat_append (insert M id lits) id xs ys rest g)
rat_append M top (Delete ids ∷ xs) ys h g = absurd h

-- ---- the clauses that they lead to
abbrev numbered : List Clause → ClauseMap
numbered F = from_entries (enumerate_from 1 F)

enumerate_push : (n : ℕ) (F : List Clause) (C : Clause) → enumerate_from n (F ++ C ∷ []) ≡ enumerate_from n F ++ (n + length F, C) ∷ []
enumerate_push n [] C = ap (λ k. (k, C) ∷ []) (let e : n ≡ n + 0 = omega arith in e)
enumerate_push n (D ∷ F) C =
    ap (λ es. (n, D) ∷ es) (enumerate_push (n + 1) F C ∙ ap (λ k. enumerate_from (n + 1) F ++ (k, C) ∷ []) (let e : (n + 1) + length F ≡ n + length (D ∷ F) = omega arith in e))

push_one : (F : List Clause) (C : Clause) (k : ℕ) → k ≡ length F + 1 → insert (numbered F) k C ≡ numbered (F ++ C ∷ [])
push_one F C k e = sym (
    ap (λ es. from_entries es) (enumerate_push 1 F C)
    ∙ from_entries_push nat_cmp_total nat_cmp-IsAntisymmetric (enumerate_from 1 F) (1 + length F) C
    (sym (get-from_entries nat_cmp_total (enumerate_from 1 F) (1 + length F)) ∙ none_behind F)
    ∙ ap (λ i. insert (numbered F) i C) (let f : 1 + length F ≡ k = omega arith in f))

pub all_after : (pairs : List Pair) (F : List Clause) (top d : ℕ) → top ≡ length F → after_steps (numbered F) (all_steps top d pairs) ≡ numbered (F ++ all_clauses d pairs)
all_after [] F top d e = ap numbered (sym (append-nil F))
all_after (p ∷ pairs) F top d e =
    let A : Clause = both_clause d p in
    let B : Clause = part_clause d p.first in
    let C : Clause = part_clause d p.second in
    let G : List Clause = F ++ A ∷ [] in
    let H : List Clause = G ++ B ∷ [] in
    let I : List Clause = H ++ C ∷ [] in
    let R : List Clause = all_clauses (d + 1) pairs in
    let one : length G ≡ length F + 1 = length-append F (A ∷ []) in
    let two : length H ≡ length G + 1 = length-append G (B ∷ []) in
    let three : length I ≡ length H + 1 = length-append H (C ∷ []) in
    ap (λ (N : ClauseMap). after_steps (insert (insert N (top + 2) B) (top + 3) C) (all_steps (top + 3) (d + 1) pairs)) (push_one F A (top + 1) (omega arith))
    ∙ ap (λ (N : ClauseMap). after_steps (insert N (top + 3) C) (all_steps (top + 3) (d + 1) pairs)) (push_one G B (top + 2) (omega arith))
    ∙ ap (λ (N : ClauseMap). after_steps N (all_steps (top + 3) (d + 1) pairs)) (push_one H C (top + 3) (omega arith))
    ∙ all_after pairs I (top + 3) (d + 1) (omega arith)
    ∙ ap numbered (append_assoc H (C ∷ []) R ∙ append_assoc G (B ∷ []) (C ∷ R) ∙ append_assoc F (A ∷ []) (B ∷ C ∷ R))

steps_length : (top d : ℕ) (pairs : List Pair) → length (all_steps top d pairs) ≡ 3 * length pairs
steps_length top d [] = refl
steps_length top d (p ∷ pairs) = let e = steps_length (top + 3) (d + 1) pairs in omega arith

clauses_length : (d : ℕ) (pairs : List Pair) → length (all_clauses d pairs) ≡ 3 * length pairs
clauses_length d [] = refl
clauses_length d (p ∷ pairs) = let e = clauses_length (d + 1) pairs in omega arith

-- ---- limits
group_limits : (n : ℕ) → IsClauseNumber n → All IsGroup ((n, []) ∷ [])
group_limits n h = All-cons IsGroup (n, []) [] (h, All-nil IsClauseNumber) (All-nil IsGroup)

within_two : (most : ℕ) (l k : Literal) → IsWithin most l → IsWithin most k → All (IsWithin most) (l ∷ k ∷ [])
within_two most l k h g = All-cons (IsWithin most) l (k ∷ []) h (All-cons (IsWithin most) k [] g (All-nil (IsWithin most)))

within_negation : (most : ℕ) (l : Literal) → IsWithin most l → IsWithin most (negation l)
within_negation most l h = let e = var_of-negation l in let a = h.0 in let b = h.1 in (omega arith, omega arith)

all_limits : (most vars : ℕ) (pairs : List Pair) (top d : ℕ) → vars + 1 ≤ d → d + length pairs ≤ most + 1 → top + 3 * length pairs < 2 ^ 48 → All (IsPairOf vars) pairs → All (IsStepWithin most) (all_steps top d pairs)
all_limits most vars [] top d low few short are = All-nil (IsStepWithin most)
all_limits most vars (p ∷ pairs) top d low few short are =
    let is : IsPairOf vars p = All-head (IsPairOf vars) p pairs are in
    let f = is.from_1 in
    let r = is.rise in
    let u = is.up_to in
    let a : IsWithin most p.first = (omega arith, omega arith) in
    let b : IsWithin most p.second = (omega arith, omega arith) in
    let c : IsClauseNumber (top + 1) = (omega arith, omega arith) in
    let one : IsStepWithin most (Add (top + 1) (both_clause d p) [] []) =
    (c, All-cons (IsWithin most) (Pos d) (negation p.first ∷ negation p.second ∷ []) (omega arith, omega arith) (within_two most (negation p.first) (negation p.second) (within_negation most p.first a) (within_negation most p.second b)), All-nil IsClauseNumber, All-nil IsGroup) in
    let two : IsStepWithin most (Add (top + 2) (part_clause d p.first) [] ((top + 1, []) ∷ [])) =
    ((omega arith, omega arith), within_two most (Neg d) p.first (omega arith, omega arith) a, All-nil IsClauseNumber, group_limits (top + 1) c) in
    let three : IsStepWithin most (Add (top + 3) (part_clause d p.second) [] ((top + 1, []) ∷ [])) =
    ((omega arith, omega arith), within_two most (Neg d) p.second (omega arith, omega arith) b, All-nil IsClauseNumber, group_limits (top + 1) c) in
    All-append (IsStepWithin most) (definition_steps top d p) (all_steps (top + 3) (d + 1) pairs)
    (All-cons (IsStepWithin most) (Add (top + 1) (both_clause d p) [] []) (Add (top + 2) (part_clause d p.first) [] ((top + 1, []) ∷ []) ∷ Add (top + 3) (part_clause d p.second) [] ((top + 1, []) ∷ []) ∷ []) one
    (All-cons (IsStepWithin most) (Add (top + 2) (part_clause d p.first) [] ((top + 1, []) ∷ [])) (Add (top + 3) (part_clause d p.second) [] ((top + 1, []) ∷ []) ∷ []) two
    (All-cons (IsStepWithin most) (Add (top + 3) (part_clause d p.second) [] ((top + 1, []) ∷ [])) [] three (All-nil (IsStepWithin most)))))
    (all_limits most vars pairs (top + 3) (d + 1) (omega arith) (omega arith) (omega arith) (All-tail (IsPairOf vars) p pairs are))

both_length : (first count : ℕ) → length (flat_map (λ v. Pos v ∷ Neg v ∷ []) (numbers_from first count)) ≡ 2 * count
both_length first zero = refl
both_length first (suc count) = let e = both_length (first + 1) count in omega arith

pure_few : (f : Cnf) → length (pure_literals f) ≤ 2 * f.vars
pure_few f =
    let e = both_length 1 f.vars in
    let h = length-filter_both (is_pure f) (λ l. not (is_pure f l)) (λ l. refl) (flat_map (λ v. Pos v ∷ Neg v ∷ []) (numbers_from 1 f.vars)) in
    omega arith

-- ---- the base's variables
found_within : (v : ℕ) (F : List Clause) (n q : ℕ) (C : Clause) → EachWithin v F → find nat_cmp q (enumerate_from n F) ≡ Some C → AllByRecursion (IsWithin v) C
found_within v [] n q C within e = absurd (none_some C e)
found_within v (D ∷ F) n q C within e = at (eq_by_cmp nat_cmp q n) e (found_within v F (n + 1) q C within.1)
  where
    at : (b : Bool) → cond b (Some D) (find nat_cmp q (enumerate_from (n + 1) F)) ≡ Some C → (find nat_cmp q (enumerate_from (n + 1) F) ≡ Some C → AllByRecursion (IsWithin v) C) → AllByRecursion (IsWithin v) C
    at true x later = subst (λ (E : Clause). AllByRecursion (IsWithin v) E) (same_clause D C x) within.0
    at false x later = later x

under_all : (v : ℕ) (C : Clause) → AllByRecursion (IsWithin v) C → All (λ l. var_of l < v + 1) C
under_all v [] h = All-nil (λ l. var_of l < v + 1)
under_all v (l ∷ C) h = let a = h.0.1 in All-cons (λ k. var_of k < v + 1) l C (omega arith) (under_all v C h.1)

within_append : (v : ℕ) (F G : List Clause) → EachWithin v F → EachWithin v G → EachWithin v (F ++ G)
within_append v [] G h g = g
within_append v (C ∷ F) G h g = (h.0, within_append v F G h.1 g)

within_units : (v : ℕ) (units : List Literal) → All (IsWithin v) units → EachWithin v (map (λ l. l ∷ []) units)
within_units v [] h = tt
within_units v (l ∷ units) h = ((All-head (IsWithin v) l units h, tt), within_units v units (All-tail (IsWithin v) l units h))

base_under : (F : Cnf) → IsFormula F → AreUnder (F.vars + 1) (map_of (base_of F))
base_under F limits n C live =
    under_all F.vars C (found_within F.vars (base_of F).clauses 1 n C
    (within_append F.vars F.clauses (map (λ l. l ∷ []) (pure_literals F)) (each_within F.vars F.clauses limits.within) (within_units F.vars (pure_literals F) (pure_within F)))
    (sym (get-from_entries nat_cmp_total (enumerate_from 1 (base_of F).clauses) n) ∙ live))

-- ---- all together
pub definitions_lead : (F : Cnf) (pairs : List Pair) → IsFormula F → All (IsPairOf F.vars) pairs → length pairs ≤ 64 → IsPreamble F (base_with F pairs) (preamble_steps F pairs)
definitions_lead F pairs limits are few =
    let m : ℕ = length F.clauses in
    let units : List Literal = pure_literals F in
    let start : List Step = unit_steps m units in
    let more : List Step = all_steps (m + length units) (F.vars + 1) pairs in
    let lead : IsPreamble F (base_of F) start = units_lead F limits in
    let long : length start ≡ length units = units_length m units in
    let top : top_of m start ≡ m + length units = rat_top (map_of F) m start lead.rat ∙ ap (λ (n : ℕ). m + n) long in
    let count : m + length units ≡ length (base_of F).clauses = ap (λ (n : ℕ). m + n) (sym long) ∙ sym lead.count in
    let some = pure_few F in
    let vars = limits.vars in
    let clauses = limits.clauses in
    let a = length-append start more in
    let b = steps_length (m + length units) (F.vars + 1) pairs in
    let c = length-append (base_of F).clauses (all_clauses (F.vars + 1) pairs) in
    let d = clauses_length (F.vars + 1) pairs in
    let room : F.vars + length pairs ≤ max 2000000 (2 * F.vars) = omega arith in
    let fits : F.vars + 1 + length pairs ≤ max 2000000 (2 * F.vars) + 1 = omega arith in
    record {
      rat = rat_append (map_of F) m start more lead.rat
          (subst (λ (M : ClauseMap). AreRatSteps M (top_of m start) more) lead.base
          (subst (λ (n : ℕ). AreRatSteps (map_of (base_of F)) n more) (sym top)
          (all_rat F.vars pairs (map_of (base_of F)) (m + length units) (F.vars + 1) (omega arith) (base_under F limits) are)));
      limits = All-append (IsStepWithin (proof_top F)) start more lead.limits (all_limits (proof_top F) F.vars pairs (m + length units) (F.vars + 1) (omega arith) fits (omega arith) are);
      base = sym (after_append (map_of F) start more ∙ ap (λ (M : ClauseMap). after_steps M more) (sym lead.base) ∙ all_after pairs (base_of F).clauses (m + length units) (F.vars + 1) count);
      count = omega arith;
      vars = room;
    }

pub definitions_accept : (F : Cnf) (pairs : List Pair) (leaves : List Cube) (texts : List (List ℕ)) (text : List ℕ) → IsFormula F → All (IsPairOf F.vars) pairs → length pairs ≤ 64
    → AllClose (base_with F pairs) leaves texts → Joined F (preamble_steps F pairs) leaves texts text → length text < 2 ^ 32 → Accepts F text
definitions_accept F pairs leaves texts text limits are few close joined short =
    joined_accepts F (base_with F pairs) (preamble_steps F pairs) leaves texts text limits.vars limits.clauses (definitions_lead F pairs limits are few) close joined short

all_front : (P : Clause → Type 0) (xs ys : List Clause) → All P (xs ++ ys) → All P xs
all_front P [] ys h = All-nil P
all_front P (x ∷ xs) ys h = All-cons P x xs (All-head P x (xs ++ ys) h) (all_front P xs ys (All-tail P x (xs ++ ys) h))

pub models_too : (F : Cnf) (pairs : List Pair) (a : ℕ → Bool) → Sat a (base_with F pairs) → Sat a F
models_too F pairs a sat = all_front (IsTrueIn a) F.clauses (map (λ l. l ∷ []) (pure_literals F)) (all_front (IsTrueIn a) (base_of F).clauses (all_clauses (F.vars + 1) pairs) sat)

-- The leaves that clauses close, taken one after the other.
use Rattle.std.proofs.Common.{◌≡◌, ◌≢◌, inl, inr, ℕ, ◌≤◌, ◌<◌, Bool, true, false, not, ◌&&◌, ◌||◌, List, [], ◌∷◌, ◌++◌, map, Option, Some, None, cond, refl, sym, ◌∙◌, ap, subst, arith}
use Rattle.std.specs.Prelude.{is_none, is_some}
use Rattle.std.specs.List.{Contains, All, list_any, enumerate_from}
use Rattle.std.specs.FinMap.{get, get-insert, get-from_entries}
use Rattle.std.specs.Cmp.{nat_cmp_total}
use Rattle.std.proofs.lemmas.Bool.{cases_Bool, true≢false}
use Rattle.std.proofs.lemmas.List.Elements.{All-nil, All-cons, All-head, All-tail, All-contains, Contains-append_cases}
use Rattle.std.proofs.lemmas.List.Folds.{list_any-append}
use Rattle.std.proofs.lemmas.List.Sums.{fold-append}
use Rattle.dimacs.specs.logic.ClauseMap.{map_of}
use Rattle.dimacs.specs.logic.Literal.{Literal, Pos, Neg, Clause, IsTautology, IsWithin, negation, var_of}
use Rattle.dimacs.specs.logic.Propagation.{negations}
use Rattle.dimacs.proofs.LiteralLemmas.{var_of-negation}
use Rattle.dimacs.proofs.Members.{Contains-head, Contains-cons, Contains-cons_cases, Contains-nil}
use Rattle.icnf.specs.Leaves.{Cube, Leaves, IsFree, leaf, fork}
use Rattle.lrat_text.specs.Log.{IsLog, IsLogStep}
use Rattle.lrat_text.specs.Runs.{after_steps}
use Rattle.lrat_text.specs.declared.step.Step.{Step}
use Rattle.lrat_text.specs.declared.step.Step.TheVariants.{Add}
use Rattle.proof_join.specs.RenumberedSteps.{behind}
use Rattle.proof_join.proofs.MapLemmas.{between_formula}
use Rattle.log_join.specs.ClosedLeaves.{Leaf, Numbered, all_settled as all_left, can_close, closed_by, closes, is_closed, settled}
use Rattle.log_join.specs.JoinedLogs.{JoinState, Handed, joined_so_far, nothing, with_live, with_log}
use Rattle.log_join.proofs.PlacedLemmas.{log_between}
use Rattle.log_join.proofs.SettleLemmas.{both, closes_negates}
use Rattle.receipts.specs.ClosedLeaves.{closes_new_leaf, is_closed_by}
use Rattle.receipts.specs.Coverage.{absurdity}

-- ---- the log of one clause
abbrev pub line_for : Clause → Step
line_for C = Add 2 C (1 ∷ []) []

abbrev pub log_for : Clause → List Step
log_for C = line_for C ∷ []

abbrev pub handed_for : Clause → Handed
handed_for C = record { steps = log_for C; accepted = true }

empty_lives : get (map_of absurdity) 1 ≡ Some []
empty_lives = get-from_entries nat_cmp_total (enumerate_from 1 ([] ∷ [])) 1

pub follows : (C : Clause) → ¬ (IsTautology C) → IsLogStep 1 (map_of absurdity) 1 (line_for C)
follows C none = (
  refl,
  refl,
  record {
    no_pair = none;
    refutes = record { front = []; last = 1; reached = negations C; clause = []; splits = refl; leads = refl; lives = empty_lives; conflict = λ k i. absurd (Contains-nil k i) };
  },
)

pub is_log : (C : Clause) → ¬ (IsTautology C) → IsLog absurdity (log_for C)
is_log C none = (follows C none, tt)

pub lives : (C : Clause) → get (after_steps (map_of absurdity) (log_for C)) 2 ≡ Some C
lives C = get-insert nat_cmp_total (map_of absurdity) 2 C 2

pub none_behind : (C : Clause) → ¬ (IsTautology C) → (k : ℕ) → 3 ≤ k → get (after_steps (map_of absurdity) (log_for C)) k ≡ None
none_behind C none k up = at (get (after_steps (map_of absurdity) (log_for C)) k) refl
  where
    at : (o : Option Clause) → get (after_steps (map_of absurdity) (log_for C)) k ≡ o → get (after_steps (map_of absurdity) (log_for C)) k ≡ None
    at None e = e
    at (Some D) e =
        let b = (log_between 1 (map_of absurdity) 1 (log_for C) (is_log C none) (between_formula absurdity) k D e).1 in
        absurd (omega arith)

-- ---- the leaves after one more lemma
abbrev pub Agree : List Clause → Leaf → Type 0
Agree clauses k = is_closed k ≡ is_closed_by clauses k.cube

any_last : (q : Cube) (clauses : List Clause) (C : Clause) → is_closed_by (clauses ++ C ∷ []) q ≡ (is_closed_by clauses q || (closes q C || false))
any_last q clauses C = list_any-append (closes q) clauses (C ∷ [])

or_true : (b c : Bool) → c ≡ true → (b || (c || false)) ≡ true
or_true true c e = refl
or_true false c e = ap (λ x. x || false) e

or_none : (b c : Bool) → c ≡ false → (b || (c || false)) ≡ b
or_none true c e = refl
or_none false c e = ap (λ x. x || false) e

true_or : (b c : Bool) → b ≡ true → (b || c) ≡ true
true_or true c e = refl
true_or false c e = absurd (true≢false (sym e))

open_is : (o : Option Numbered) → is_none o ≡ not (is_some o)
open_is None = refl
open_is (Some x) = refl

one_settled : (l : Numbered) (clauses : List Clause) (k : Leaf) → Agree clauses k → Agree (clauses ++ l.clause ∷ []) (closed_by l k)
one_settled l clauses k e = at (can_close l k) refl
  where
    stays : (c : Bool) → is_closed k ≡ c → can_close l k ≡ false → is_closed k ≡ is_closed_by (clauses ++ l.clause ∷ []) k.cube
    stays true is none = is ∙ sym (any_last k.cube clauses l.clause ∙ true_or (is_closed_by clauses k.cube) (closes k.cube l.clause || false) (sym e ∙ is))
    stays false is none =
        let no : closes k.cube l.clause ≡ false = sym (ap (λ b. b && closes k.cube l.clause) (open_is k.closing ∙ ap not is)) ∙ none in
        e ∙ sym (any_last k.cube clauses l.clause ∙ or_none (is_closed_by clauses k.cube) (closes k.cube l.clause) no)

    at : (b : Bool) → can_close l k ≡ b → Agree (clauses ++ l.clause ∷ []) (cond b (record { cube = k.cube; closing = Some l }) k)
    at true is = sym (any_last k.cube clauses l.clause ∙ or_true (is_closed_by clauses k.cube) (closes k.cube l.clause) (both (is_none k.closing) (closes k.cube l.clause) is).1)
    at false is = stays (is_closed k) refl is

pub all_settled : (l : Numbered) (clauses : List Clause) (leaves : List Leaf) → All (Agree clauses) leaves → All (Agree (clauses ++ l.clause ∷ [])) (settled l leaves)
all_settled l clauses [] h = All-nil (Agree (clauses ++ l.clause ∷ []))
all_settled l clauses (k ∷ leaves) h =
    All-cons (Agree (clauses ++ l.clause ∷ [])) (closed_by l k) (settled l leaves)
    (one_settled l clauses k (All-head (Agree clauses) k leaves h))
    (all_settled l clauses leaves (All-tail (Agree clauses) k leaves h))

swapped : (o : Option Numbered) (c d : Bool) → is_some o ≡ d → (is_none o && c) ≡ (c && not d)
swapped None true d e = ap not e
swapped None false d e = refl
swapped (Some x) true d e = ap not e
swapped (Some x) false d e = refl

-- and whether it closed one
pub any_told : (l : Numbered) (clauses : List Clause) (leaves : List Leaf) → All (Agree clauses) leaves
    → list_any (can_close l) leaves ≡ closes_new_leaf (map (λ k. k.cube) leaves) clauses l.clause
any_told l clauses [] h = refl
any_told l clauses (k ∷ leaves) h =
    ap (λ b. b || list_any (can_close l) leaves) (swapped k.closing (closes k.cube l.clause) (is_closed_by clauses k.cube) (All-head (Agree clauses) k leaves h))
    ∙ ap (λ b. (closes k.cube l.clause && not (is_closed_by clauses k.cube)) || b) (any_told l clauses leaves (All-tail (Agree clauses) k leaves h))

-- ---- one more log
pub one_log : (cubes : List Cube) (logs : List Handed) (C : Clause)
    → joined_so_far absurdity cubes (logs ++ handed_for C ∷ []) ≡ with_log absurdity (joined_so_far absurdity cubes logs) (handed_for C)
one_log cubes logs C = fold-append (with_log absurdity) (nothing absurdity cubes) logs (handed_for C ∷ [])

abbrev pub lemma_for : ℕ → Clause → Numbered
lemma_for top C = record { id = behind 1 top 2; clause = C }

pub leaves_then : (g : JoinState) (C : Clause) → (with_log absurdity g (handed_for C)).leaves ≡ settled (lemma_for g.top C) g.leaves
leaves_then g C = ap (λ (o : Option Clause). live_settled o) (lives C)
  where
    live_settled : Option Clause → List Leaf
    live_settled o = all_left g.leaves (with_live (behind 1 g.top 2) o [])

-- ---- clauses that close nothing
abbrev pub IsConsistent : Cube → Type 0
IsConsistent q = (l : Literal) → Contains q l → Contains q (negation l) → ⊥

not_free : (path : Cube) (x l : Literal) → IsFree path (var_of x) → Contains path l → var_of l ≡ var_of x → ⊥
not_free path x l free i e = All-contains (λ k. var_of k ≢ var_of x) path l free i e

other : (x : Literal) → x ≡ negation x → ⊥
other (Pos v) e = absurd cc
other (Neg v) e = absurd cc

longer : (path : Cube) (x : Literal) → IsFree path (var_of x) → IsConsistent path → IsConsistent (path ++ x ∷ [])
longer path x free fine l i j = elim (Contains-append_cases path (x ∷ []) l i) [
  | inl a ↦ elim (Contains-append_cases path (x ∷ []) (negation l) j) [
    | inl b ↦ fine l a b
    | inr b ↦ not_free path x l free a (sym (var_of-negation l) ∙ ap var_of (sym (last x (negation l) b)))
  ]
  | inr a ↦ elim (Contains-append_cases path (x ∷ []) (negation l) j) [
    | inl b ↦ not_free path x (negation l) free b (var_of-negation l ∙ ap var_of (sym (last x l a)))
    | inr b ↦ other l (sym (last x l a) ∙ last x (negation l) b)
  ]
]
  where
    last : (y k : Literal) → Contains (y ∷ []) k → y ≡ k
    last y k c = elim (Contains-cons_cases y k [] c) [
      | inl e ↦ e
      | inr none ↦ absurd (Contains-nil k none)
    ]

pub consistent : {path : Cube} {cubes : List Cube} → IsConsistent path → Leaves path cubes → (q : Cube) → Contains cubes q → IsConsistent q
consistent {path} fine leaf q i = elim (Contains-cons_cases path q [] i) [
  | inl e ↦ subst IsConsistent e fine
  | inr none ↦ absurd (Contains-nil q none)
]
consistent {path} fine (fork {left = left} {right = right} x free first second) q i = elim (Contains-append_cases left right q i) [
  | inl a ↦ consistent (longer path x free fine) first q a
  | inr b ↦ consistent (longer path (negation x) (subst (λ (v : ℕ). IsFree path v) (sym (var_of-negation x)) free) fine) second q b
]

pub tautology_closes_none : (q : Cube) (C : Clause) → IsConsistent q → IsTautology C → closes q C ≡ false
tautology_closes_none q C fine (l, i, j) = elim (cases_Bool (closes q C)) [
  | inl t ↦ absurd (fine (negation l) (closes_negates q C t l i) (closes_negates q C t (negation l) j))
  | inr f ↦ f
]

pub great_closes_none : (q : Cube) (C : Clause) (l : Literal) → All (IsWithin 2000000) q → Contains C l → 2000000 < var_of l → closes q C ≡ false
great_closes_none q C l within i great = elim (cases_Bool (closes q C)) [
  | inl t ↦
      let w = All-contains (IsWithin 2000000) q (negation l) within (closes_negates q C t l i) in
      let v : var_of (negation l) ≤ 2000000 = w.1 in
      let e : var_of (negation l) ≡ var_of l = var_of-negation l in
      absurd (omega arith)
  | inr f ↦ f
]

pub none_told : (cubes : List Cube) (clauses : List Clause) (C : Clause) → ((q : Cube) → Contains cubes q → closes q C ≡ false) → closes_new_leaf cubes clauses C ≡ false
none_told [] clauses C none = refl
none_told (q ∷ cubes) clauses C none =
    ap (λ b. (b && not (is_closed_by clauses q)) || closes_new_leaf cubes clauses C) (none q (Contains-head q cubes)) ∙ none_told cubes clauses C (λ p i. none p (Contains-cons q p cubes i))

pub none_settled : (leaves : List Leaf) (clauses : List Clause) (C : Clause) → ((q : Cube) → Contains (map (λ k. k.cube) leaves) q → closes q C ≡ false) → All (Agree clauses) leaves → All (Agree (clauses ++ C ∷ [])) leaves
none_settled [] clauses C none h = All-nil (Agree (clauses ++ C ∷ []))
none_settled (k ∷ leaves) clauses C none h =
    All-cons (Agree (clauses ++ C ∷ [])) k leaves
    (All-head (Agree clauses) k leaves h ∙ sym (any_last k.cube clauses C ∙ or_none (is_closed_by clauses k.cube) (closes k.cube C) (none k.cube (Contains-head k.cube (map (λ (z : Leaf). z.cube) leaves)))))
    (none_settled leaves clauses C (λ q i. none q (Contains-cons k.cube q (map (λ (z : Leaf). z.cube) leaves) i)) (All-tail (Agree clauses) k leaves h))

-- Clauses that cover a tree refute the formula, and the lemmas of a receipt follow from it.
use Rattle.std.proofs.Common.{◌≡◌, inl, inr, ℕ, ◌+◌, Bool, true, false, not, List, [], ◌∷◌, ◌++◌, length, Some, None, cond, sym, ◌∙◌, ap, subst, arith}
use Rattle.std.specs.Prelude.{nat_eq}
use Rattle.std.specs.List.{Contains, All, enumerate_from, list_any}
use Rattle.std.specs.FinMap.{get, insert, find, get-insert, get-retain_keys, get-from_entries, nat_cmp-IsAntisymmetric}
use Rattle.std.specs.Ordering.{nat_cmp, eq_by_cmp}
use Rattle.std.specs.Cmp.{nat_cmp_total}
use Rattle.std.proofs.lemmas.Bool.{both_ways, not-true, or_cases, true≢false}
use Rattle.std.proofs.lemmas.List.Elements.{All-head, All-tail, Contains-append_cases, Contains-append_left, Contains-append_right}
use Rattle.dimacs.specs.logic.ClauseMap.{ClauseMap, map_of, live_in}
use Rattle.dimacs.specs.logic.Cnf.{Cnf, Sat}
use Rattle.dimacs.specs.logic.Literal.{Literal, Clause, IsTrueIn, literal_true, negation}
use Rattle.dimacs.proofs.LiteralLemmas.{literal_true-negation}
use Rattle.dimacs.proofs.Members.{Contains-head, Contains-cons, Contains-cons_cases, Contains-nil}
use Rattle.icnf.specs.Leaves.{Cube, Leaves, leaf, fork}
use Rattle.lrat_text.specs.Log.{AreLogSteps, IsLog, additions, after_step}
use Rattle.lrat_text.specs.Proof.{without}
use Rattle.lrat_text.specs.Runs.{after_steps}
use Rattle.lrat_text.specs.declared.step.Step.{Step}
use Rattle.lrat_text.specs.declared.step.Step.TheVariants.{Add, Delete}
use Rattle.lrat_check.proofs.Truth.{Satisfies, one_true, rup_true}
use Rattle.log_join.specs.ClosedLeaves.{Numbered, closes}
use Rattle.log_join.specs.JoinedLogs.{ClosesLeaf}
use Rattle.log_join.proofs.LiveLemmas.{live_only, IsLive}
use Rattle.log_join.proofs.SettleLemmas.{closes_negates}
use Rattle.receipts.specs.ClosedLeaves.{AreCovered, CoveringRefutes, Follows, closing_of, closes_new_leaf, is_closed_by}
use Rattle.receipts.specs.Receipts.{ReceiptContents, SpellsReceipt, formula_digest}
use Rattle.receipts.specs.LogReceipt.{IsClosedByLog, IsReceiptOf, live_lemmas}

-- ---- covering
-- every literal of the cube is true
abbrev AllHold : (ℕ → Bool) → Cube → Type 0
AllHold a q = (l : Literal) → Contains q l → literal_true a l ≡ true

one_more : (a : ℕ → Bool) (path : Cube) (x : Literal) → AllHold a path → literal_true a x ≡ true → AllHold a (path ++ x ∷ [])
one_more a path x all t l i = elim (Contains-append_cases path (x ∷ []) l i) [
  | inl before ↦ all l before
  | inr last ↦ elim (Contains-cons_cases x l [] last) [
    | inl e ↦ subst (λ (k : Literal). literal_true a k ≡ true) e t
    | inr none ↦ absurd (Contains-nil l none)
  ]
]

-- an assignment goes down a tree to one leaf
reached : {path : Cube} {cubes : List Cube} (a : ℕ → Bool) → Leaves path cubes → AllHold a path → (q : Cube) × Contains cubes q × AllHold a q
reached {path} a leaf all = (path, Contains-head path [], all)
reached {path} a (fork {left = left} {right = right} x free first second) all = elim (one_true a x) [
  | inl t ↦
      let r = reached a first (one_more a path x all t) in
      (r.0, Contains-append_left left right r.0 r.1, r.2)
  | inr t ↦
      let r = reached a second (one_more a path (negation x) all t) in
      (r.0, Contains-append_right left right r.0 r.1, r.2)
]

closed_is_false : (a : ℕ → Bool) (q : Cube) (C : Clause) → closes q C ≡ true → AllHold a q → IsTrueIn a C → ⊥
closed_is_false a q C e all (l, i, t) =
    let f : literal_true a (negation l) ≡ true = all (negation l) (closes_negates q C e l i) in
    both_ways (literal_true a l) (not-true (literal_true a l) (sym (literal_true-negation a l) ∙ f)) t

pub some_closes : (q : Cube) (clauses : List Clause) → is_closed_by clauses q ≡ true → (C : Clause) × Contains clauses C × (closes q C ≡ true)
some_closes q [] e = absurd (true≢false (sym e))
some_closes q (C ∷ clauses) e = elim (or_cases (closes q C) (is_closed_by clauses q) e) [
  | inl here ↦ (C, Contains-head C clauses, here)
  | inr later ↦ (let r = some_closes q clauses later in (r.0, Contains-cons C r.0 clauses r.1, r.2))
]

pub covering : CoveringRefutes
covering F cubes clauses tree follow closed a sat =
    let r = reached {path = []} a tree (λ l i. absurd (Contains-nil l i)) in
    let c = some_closes r.0 clauses (closed r.0 r.1) in
    closed_is_false a r.0 c.0 c.2 r.2 (follow c.0 c.1 a sat)

-- ---- what a log adds follows
Some-injective : {X : Type 0} (x y : X) → Some x ≡ Some y → x ≡ y
Some-injective x y e = cc

None-Some : {X : Type 0} (x : X) → None ≡ Some x → ⊥
None-Some x e = cc

with_clause : (a : ℕ → Bool) (M : ClauseMap) (id : ℕ) (C : Clause) → Satisfies a (live_in M) → IsTrueIn a C → Satisfies a (live_in (insert M id C))
with_clause a M id C sat t q D live = at (eq_by_cmp nat_cmp q id) (sym (get-insert nat_cmp_total M id C q) ∙ live)
  where
    at : (b : Bool) → cond b (Some C) (get M q) ≡ Some D → IsTrueIn a D
    at true e = subst (λ x. IsTrueIn a x) (Some-injective C D e) t
    at false e = sat q D e

without_clauses : (a : ℕ → Bool) (M : ClauseMap) (ids : List ℕ) → Satisfies a (live_in M) → Satisfies a (live_in (without M ids))
without_clauses a M ids sat q D live = at (not (list_any (nat_eq q) ids)) (sym is ∙ live)
  where
    is : get (without M ids) q ≡ cond (not (list_any (nat_eq q) ids)) (get M q) None
    is = get-retain_keys M (λ id. not (list_any (nat_eq id) ids)) q (λ x e. ap (λ (y : ℕ). not (list_any (nat_eq y) ids)) (sym (nat_cmp-IsAntisymmetric q x e)))

    at : (b : Bool) → cond b (get M q) None ≡ Some D → IsTrueIn a D
    at true e = sat q D e
    at false e = absurd (None-Some D e)

steps_hold : (a : ℕ → Bool) (m : ℕ) (M : ClauseMap) (top : ℕ) (steps : List Step) → AreLogSteps m M top steps → Satisfies a (live_in M) → Satisfies a (live_in (after_steps M steps))
steps_hold a m M top [] h sat = sat
steps_hold a m M top (Add id lits hints groups ∷ steps) h sat =
    steps_hold a m (after_step M (Add id lits hints groups)) id steps h.1 (with_clause a M id lits sat (rup_true a (live_in M) lits hints sat h.0.2))
steps_hold a m M top (Delete ids ∷ steps) h sat = steps_hold a m (after_step M (Delete ids)) top steps h.1 (without_clauses a M ids sat)

found_true : (a : ℕ → Bool) (F : List Clause) (n q : ℕ) (C : Clause) → All (IsTrueIn a) F → find nat_cmp q (enumerate_from n F) ≡ Some C → IsTrueIn a C
found_true a [] n q C sat e = absurd (None-Some C e)
found_true a (D ∷ F) n q C sat e =
    at (eq_by_cmp nat_cmp q n) (λ is. found_true a F (n + 1) q C (All-tail (IsTrueIn a) D F sat) is) e
  where
    at : (b : Bool) → (find nat_cmp q (enumerate_from (n + 1) F) ≡ Some C → IsTrueIn a C)
        → cond b (Some D) (find nat_cmp q (enumerate_from (n + 1) F)) ≡ Some C → IsTrueIn a C
    at true rest is = subst (λ x. IsTrueIn a x) (Some-injective D C is) (All-head (IsTrueIn a) D F sat)
    at false rest is = rest is

log_holds : (a : ℕ → Bool) (F : Cnf) (steps : List Step) → Sat a F → IsLog F steps → Satisfies a (live_in (after_steps (map_of F) steps))
log_holds a F steps sat h =
    steps_hold a (length F.clauses) (map_of F) (length F.clauses) steps h
    (λ q C live. found_true a F.clauses 1 q C sat (sym (get-from_entries nat_cmp_total (enumerate_from 1 F.clauses) q) ∙ live))

-- ---- the lemmas of a receipt are the log's own
pub told_are_own : (cubes : List Cube) (before : List Clause) (lemmas : List Numbered) (l : Numbered) → Contains (closing_of cubes before lemmas) l → Contains lemmas l
told_are_own cubes before [] l i = i
told_are_own cubes before (x ∷ lemmas) l i = at (closes_new_leaf cubes before x.clause) i (told_are_own cubes (before ++ x.clause ∷ []) lemmas l)
  where
    at : (b : Bool) → Contains (cond b (x ∷ closing_of cubes (before ++ x.clause ∷ []) lemmas) (closing_of cubes (before ++ x.clause ∷ []) lemmas)) l
        → (Contains (closing_of cubes (before ++ x.clause ∷ []) lemmas) l → Contains lemmas l) → Contains (x ∷ lemmas) l
    at true j rest = elim (Contains-cons_cases x l (closing_of cubes (before ++ x.clause ∷ []) lemmas) j) [
      | inl e ↦ subst (Contains (x ∷ lemmas)) e (Contains-head x lemmas)
      | inr more ↦ Contains-cons x l lemmas (rest more)
    ]
    at false j rest = Contains-cons x l lemmas (rest j)

live_of : (F : Cnf) (cubes : List Cube) (log : List ℕ) (r : ReceiptContents) (h : IsReceiptOf F cubes log r) (l : Numbered) → Contains r.closing l
    → IsLive (λ n. n) (after_steps (map_of F) h.steps) (length F.clauses + 1) (additions h.steps) l
live_of F cubes log r h l i =
    live_only (λ n. n) (after_steps (map_of F) h.steps) (length F.clauses + 1) (additions h.steps) l
    (told_are_own cubes [] (live_lemmas F h.steps) l (subst (λ (ls : List Numbered). Contains ls l) h.closing i))

pub told_follow : (F : Cnf) (cubes : List Cube) (log : List ℕ) (r : ReceiptContents) → IsReceiptOf F cubes log r → (l : Numbered) → Contains r.closing l → Follows F l.clause
told_follow F cubes log r h l i a sat =
    let live = live_of F cubes log r h l i in
    log_holds a F h.steps sat h.is_log live.number l.clause live.lives

told_closes : (F : Cnf) (q : Cube) (trees : List Cube) (log : List ℕ) (r : ReceiptContents) (h : IsReceiptOf F trees log r) (l : Numbered) → Contains r.closing l → closes q l.clause ≡ true → ClosesLeaf F q h.steps
told_closes F q trees log r h l i e =
    let live = live_of F trees log r h l i in
    let low = live.low in
    record { id = live.number; clause = l.clause; own = omega arith; lives = live.lives; ends = e }

pub covered_closed : (F : Cnf) (cubes : List Cube) (texts files : List (List ℕ)) → AreCovered F cubes texts
    → ((text : List ℕ) (r : ReceiptContents) → Contains texts text → SpellsReceipt text r → r.formula ≡ formula_digest F
    → (file : List ℕ) × (tree : List Cube) × Contains files file × IsReceiptOf F tree file r)
    → (q : Cube) → Contains cubes q → IsClosedByLog F files q
covered_closed F cubes texts files covered are q i =
    let c = covered q i in
    let r = c.2 in
    let f = are c.0 r.told c.1 r.spells r.formula in
    let h = f.3 in
    (f.0, h.steps, f.2, h.spells, h.is_log, told_closes F q f.1 f.0 r.told h r.lemma r.named r.ends)

-- The lemmas of a log that a coverage takes in turn, and those that are kept.
use Rattle.std.proofs.Common.{◌≡◌, ℕ, suc, ◌+◌, ◌-◌, ◌≤◌, Bool, true, false, List, [], ◌∷◌, ◌++◌, cond, refl, sym, ◌∙◌, ap, subst, arith}
use Rattle.std.proofs.lemmas.List.{append-nil}
use Rattle.std.specs.FinMap.{get}
use Rattle.dimacs.specs.logic.ClauseMap.{ClauseMap}
use Rattle.dimacs.specs.logic.Literal.{Clause}
use Rattle.icnf.specs.Leaves.{Cube}
use Rattle.log_join.specs.ClosedLeaves.{Numbered}
use Rattle.log_join.specs.JoinedLogs.{live_from, with_live}
use Rattle.receipts.specs.ClosedLeaves.{closes_new_leaf, closing_of}
use Rattle.receipts.specs.Contents.{lemma_of, lemmas_in}
use Rattle.receipts.specs.declared.coverage.Coverage.{Coverage}
use Rattle.receipts.specs.declared.lemma.ClosingLemma.{ClosingLemma}
use Rattle.receipts.specs.Coverage.{HasTakenClauses}
use Rattle.receipts.specs.inner.KeptLemmas.{HasTakenLemmas}
use Rattle.receipts.proofs.LogReadLemmas.{closing_snoc, live_snoc}
use Rattle.receipts.proofs.TakenLemmas.{clauses_of}

snoc_clause : (ls : List Numbered) (l : Numbered) → clauses_of ls ++ l.clause ∷ [] ≡ clauses_of (ls ++ l ∷ [])
snoc_clause [] l = refl
snoc_clause (x ∷ ls) l = ap (λ (Cs : List Clause). x.clause ∷ Cs) (snoc_clause ls l)

pub snoc_told : (xs : List ClosingLemma) (x : ClosingLemma) → lemmas_in (xs ++ x ∷ []) ≡ lemmas_in xs ++ lemma_of x ∷ []
snoc_told [] x = refl
snoc_told (y ∷ xs) x = ap (λ (ls : List Numbered). lemma_of y ∷ ls) (snoc_told xs x)

-- one that closes nothing more
pub handed_none : (cubes : List Cube) (lemmas : List Numbered) (l : Numbered) (old new : Coverage) (closing : List ClosingLemma) → HasTakenLemmas cubes lemmas old closing
    → HasTakenClauses cubes (clauses_of lemmas ++ l.clause ∷ []) new → closes_new_leaf cubes (clauses_of lemmas) l.clause ≡ false → HasTakenLemmas cubes (lemmas ++ l ∷ []) new closing
handed_none cubes lemmas l old new closing h covers none = record {
  covers = subst (λ (Cs : List Clause). HasTakenClauses cubes Cs new) (snoc_clause lemmas l) covers;
  kept = h.kept ∙ sym (closing_snoc cubes [] lemmas l ∙ ap (λ (b : Bool). closing_of cubes [] lemmas ++ cond b (l ∷ []) []) none ∙ append-nil (closing_of cubes [] lemmas));
}

pub handed_one : (cubes : List Cube) (lemmas : List Numbered) (l : Numbered) (old new : Coverage) (closing more : List ClosingLemma) (x : ClosingLemma) → HasTakenLemmas cubes lemmas old closing
    → HasTakenClauses cubes (clauses_of lemmas ++ l.clause ∷ []) new → closes_new_leaf cubes (clauses_of lemmas) l.clause ≡ true → lemma_of x ≡ l → more ≡ closing ++ x ∷ [] → HasTakenLemmas cubes (lemmas ++ l ∷ []) new more
handed_one cubes lemmas l old new closing more x h covers some is e = record {
  covers = subst (λ (Cs : List Clause). HasTakenClauses cubes Cs new) (snoc_clause lemmas l) covers;
  kept = ap lemmas_in e ∙ snoc_told closing x ∙ ap (λ (k : Numbered). lemmas_in closing ++ k ∷ []) is ∙ ap (λ (ls : List Numbered). ls ++ l ∷ []) h.kept
      ∙ sym (closing_snoc cubes [] lemmas l ∙ ap (λ (b : Bool). closing_of cubes [] lemmas ++ cond b (l ∷ []) []) some);
}

-- the live lemmas up to one more number
pub handed_more : (cubes : List Cube) (M : ClauseMap) (first last : ℕ) (c : Coverage) (closing : List ClosingLemma) → first ≤ last
    → HasTakenLemmas cubes (live_from (λ n. n) M first (last - first) ++ with_live last (get M last) []) c closing
    → HasTakenLemmas cubes (live_from (λ n. n) M first (last + 1 - first)) c closing
handed_more cubes M first last c closing low h =
    let e : last + 1 - first ≡ suc (last - first) = omega arith in
    let s : live_from (λ n. n) M first (last + 1 - first) ≡ live_from (λ n. n) M first (last - first) ++ with_live last (get M last) [] =
    ap (λ (n : ℕ). live_from (λ k. k) M first n) e ∙ live_snoc (λ n. n) M first (last - first) last (omega arith) in
    subst (λ (ls : List Numbered). HasTakenLemmas cubes ls c closing) (sym s) h

pub handed_first : (cubes : List Cube) (c : Coverage) → HasTakenClauses cubes [] c → HasTakenLemmas cubes [] c []
handed_first cubes c h = record { covers = h; kept = refl }

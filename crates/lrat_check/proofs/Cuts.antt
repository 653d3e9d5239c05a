-- A refused line deletes a prefix of its numbers and changes nothing else.
use Rattle.std.proofs.Common.{◌≡◌, ◌≢◌, ◌⊎◌, ℕ, ◌+◌, ◌<◌, Bool, true, false, List, [], ◌∷◌, ◌++◌, Option, Some, None, cond, inl, inr, refl, sym, ◌∙◌, ap, arith, subst, length, get_or, take}
use Rattle.std.proofs.lemmas.Bool.{cases_eq}
use Rattle.std.proofs.lemmas.List.{take_more}
use Rattle.std.specs.Option.{is_some}
use Rattle.std.specs.FinMap.{get, remove, get-remove, same_map, nat_cmp-IsAntisymmetric}
use Rattle.std.specs.Cmp.{nat_cmp_total}
use Rattle.std.specs.Ordering.{nat_cmp, eq_by_cmp}
use Rattle.std.specs.Prelude.{nat_le}
use Rattle.dimacs.specs.logic.ClauseMap.{ClauseMap}
use Rattle.lrat_text.specs.declared.step.Step.{Step}
use Rattle.lrat_text.specs.declared.step.Step.TheVariants.{Delete}
use Rattle.lrat_text.proofs.ClauseMapLemmas.{apart_test, same_test}
use Rattle.lrat_check.specs.StepFaults.{removed}
use Rattle.lrat_check.specs.Logs.{DeletesPrefix, LogState, ids_of, log_deletion_fault}
use Rattle.lrat_check.specs.inner.Logs.{IsCutAt}
use Rattle.lrat_check.proofs.Logs.{live_same, log_from_none, own_none}

-- ---- a deletion, number by number
removed_more : (M : ClauseMap) (ids : List ℕ) (id : ℕ) → removed M (ids ++ id ∷ []) ≡ remove (removed M ids) id
removed_more M [] id = refl
removed_more M (first ∷ ids) id = removed_more (remove M first) ids id

own_more : (b : ℕ) (M : ClauseMap) (ids : List ℕ) (id : ℕ) → log_deletion_fault b M ids ≡ None → b < id → is_some (get (removed M ids) id) ≡ true
    → log_deletion_fault b M (ids ++ id ∷ []) ≡ None
own_more b M [] id e high live = own_none b M id [] high live refl
own_more b M (first ∷ ids) id e high live = at (nat_le first b) refl e (λ f. own_more b (remove M first) ids id f high live)
  where
    on : (c : Bool) → is_some (get M first) ≡ c → nat_le first b ≡ false → cond c (log_deletion_fault b (remove M first) ids) (Some 3) ≡ None
        → (log_deletion_fault b (remove M first) ids ≡ None → log_deletion_fault b (remove M first) (ids ++ id ∷ []) ≡ None)
        → log_deletion_fault b M (first ∷ ids ++ id ∷ []) ≡ None
    on true is above e rest =
        ap (λ c. cond c (Some 16) (cond (is_some (get M first)) (log_deletion_fault b (remove M first) (ids ++ id ∷ [])) (Some 3))) above
        ∙ ap (λ c. cond c (log_deletion_fault b (remove M first) (ids ++ id ∷ [])) (Some 3)) is
        ∙ rest e
    on false is above e rest = absurd cc

    at : (c : Bool) → nat_le first b ≡ c → cond c (Some 16) (cond (is_some (get M first)) (log_deletion_fault b (remove M first) ids) (Some 3)) ≡ None
        → (log_deletion_fault b (remove M first) ids ≡ None → log_deletion_fault b (remove M first) (ids ++ id ∷ []) ≡ None)
        → log_deletion_fault b M (first ∷ ids ++ id ∷ []) ≡ None
    at true is e rest = absurd cc
    at false is e rest = on (is_some (get M first)) refl is e rest

-- what is not live goes out without a trace
remove_none : (M : ClauseMap) (id : ℕ) → get M id ≡ None → remove M id ≡ M
remove_none M id none = same_map nat_cmp_total nat_cmp-IsAntisymmetric (remove M id) M (λ n. get-remove nat_cmp_total M id n ∙ at n (cases_eq n id))
  where
    at : (n : ℕ) → (n ≡ id) ⊎ (n ≢ id) → cond (eq_by_cmp nat_cmp n id) None (get M n) ≡ get M n
    at n (inl same) = ap (λ b. cond b None (get M n)) (same_test n id same) ∙ sym (ap (get M) same ∙ none)
    at n (inr apart) = ap (λ b. cond b None (get M n)) (apart_test n id apart)

none_is : {X : Type 0} (o : Option X) → is_some o ≡ false → o ≡ None
none_is None e = refl
none_is (Some x) e = absurd cc

-- nothing is out
pub cut_none : (b : ℕ) (M : ClauseMap) (ids : List ℕ) (cut : ℕ) (N : ClauseMap) → cut ≡ 0 → N ≡ M → IsCutAt b M ids cut N
cut_none b M ids cut N uncut same = record {
  within = omega (arith, uncut);
  none = ap (λ (n : ℕ). log_deletion_fault b M (take n ids)) uncut;
  left = same ∙ sym (ap (λ (n : ℕ). removed M (take n ids)) uncut);
}

-- a number that is not live ends it
pub cut_ends : (b : ℕ) (M : ClauseMap) (ids : List ℕ) (id i cut : ℕ) (N N' : ClauseMap) → cut ≡ i → N' ≡ remove N id → is_some (get N id) ≡ false → IsCutAt b M ids i N → IsCutAt b M ids cut N'
cut_ends b M ids id i cut N N' same now dead h = record {
  within = omega (arith, same, h.within);
  none = ap (λ (n : ℕ). log_deletion_fault b M (take n ids)) same ∙ h.none;
  left = now ∙ remove_none N id (none_is (get N id) dead) ∙ h.left ∙ sym (ap (λ (n : ℕ). removed M (take n ids)) same);
}

-- the next number is out too
pub cut_more : (b : ℕ) (M : ClauseMap) (ids : List ℕ) (i : ℕ) (N : ClauseMap) → i < length ids → b < get_or ids i 0 → is_some (get N (get_or ids i 0)) ≡ true
    → IsCutAt b M ids i N → IsCutAt b M ids (i + 1) (remove N (get_or ids i 0))
cut_more b M ids i N below high live h = record {
  within = omega (arith, below);
  none = ap (log_deletion_fault b M) (take_more ids i 0 below)
      ∙ own_more b M (take i ids) (get_or ids i 0) h.none high (subst (λ (L : ClauseMap). is_some (get L (get_or ids i 0)) ≡ true) h.left live);
  left = ap (λ (L : ClauseMap). remove L (get_or ids i 0)) h.left
      ∙ sym (ap (removed M) (take_more ids i 0 below) ∙ removed_more M (take i ids) (get_or ids i 0));
}

-- ---- states
-- a front of a deletion is out
pub cut_off : (s t : LogState) → t.base ≡ s.base → t.top ≡ s.top → t.line ≡ s.line → t.most ≡ s.most → IsCutAt s.base s.live (ids_of t.step) t.cut t.live → DeletesPrefix s t
cut_off s t base top line most h =
    let gone : Step = Delete (take t.cut (ids_of t.step)) in
    record {
      base = base;
      top = top;
      line = line;
      within = h.within;
      follows = log_from_none s.base s.live s.top gone h.none;
      live = h.left ∙ live_same s.live gone;
      most = most;
    }

-- nothing has become of the clauses
pub uncut : (s t : LogState) → t.base ≡ s.base → t.top ≡ s.top → t.line ≡ s.line → t.most ≡ s.most → t.cut ≡ 0 → t.live ≡ s.live → DeletesPrefix s t
uncut s t base top line most none live = cut_off s t base top line most (cut_none s.base s.live (ids_of t.step) t.cut t.live none live)

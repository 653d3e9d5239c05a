-- The clauses of a base and the lemmas after them (`ExtendsBase`).
use Rattle.std.proofs.Common.{◌≡◌, ◌≢◌, ℕ, ◌+◌, ◌-◌, ◌<◌, ◌≤◌, Bool, true, false, List, [], ◌∷◌, None, cond, inl, inr, refl, sym, ◌∙◌, ap, subst, arith, length}
use Rattle.std.proofs.lemmas.Bool.{cases_eq}
use Rattle.std.proofs.lemmas.List.Elements.{recursion_from_All}
use Rattle.std.specs.List.{AllByRecursion}
use Rattle.std.specs.FinMap.{get, insert, remove, get-remove, same_map, nat_cmp-IsAntisymmetric}
use Rattle.std.specs.Cmp.{nat_cmp_total}
use Rattle.std.specs.Ordering.{nat_cmp, eq_by_cmp}
use Rattle.std.specs.Prelude.{nat_le}
use Rattle.std.proofs.lemmas.Bool.Decides.{nat_tests}
use Rattle.dimacs.specs.logic.Cnf.{Cnf}
use Rattle.dimacs.specs.logic.ClauseMap.{ClauseMap, map_of}
use Rattle.dimacs.specs.logic.Literal.{Clause}
use Rattle.lrat_text.proofs.ClauseMapLemmas.{apart_test, same_test, get_other, numbered_none}
use Rattle.lrat_text.specs.Log.{IsLogStep, after_step, top_after}
use Rattle.lrat_text.specs.declared.step.Step.{Step}
use Rattle.lrat_text.specs.declared.step.Step.TheVariants.{Add, Delete}
use Rattle.lrat_check.specs.StepFaults.{removed}
use Rattle.lrat_check.specs.Logs.{ExtendsBase, IsBegun, LogState, HoldsFormula, TakesLogLine}
use Rattle.lrat_check.proofs.Taken.{removed-without}

get_apart : (live : ClauseMap) (id n : ℕ) → n ≢ id → get (remove live id) n ≡ get live n
get_apart live id n ne = get-remove nat_cmp_total live id n ∙ ap (λ b. cond b None (get live n)) (apart_test n id ne)

get_gone : (live : ClauseMap) (id n : ℕ) → get live n ≡ None → get (remove live id) n ≡ None
get_gone live id n none = get-remove nat_cmp_total live id n ∙ at (eq_by_cmp nat_cmp n id)
  where
    at : (b : Bool) → cond b None (get live n) ≡ None
    at true = refl
    at false = none

-- what stands after them may go out
pub behind-remove : (M : ClauseMap) (b top id : ℕ) (live : ClauseMap) → b < id → ExtendsBase M b top live → ExtendsBase M b top (remove live id)
behind-remove M b top id live high h = record {
  kept = λ n low. get_apart live id n (λ (e : n ≡ id). omega arith) ∙ h.kept n low;
  none_above = λ n above. get_gone live id n (h.none_above n above);
}

-- the greatest number goes out
pub behind-last : (M : ClauseMap) (b top : ℕ) (live : ClauseMap) → b < top → ExtendsBase M b top live → ExtendsBase M b (top - 1) (remove live top)
behind-last M b top live high h = record {
  kept = λ n low. get_apart live top n (λ (e : n ≡ top). omega arith) ∙ h.kept n low;
  none_above = λ n above. elim (cases_eq n top) [
    | inl same ↦ get-remove nat_cmp_total live top n ∙ ap (λ b. cond b None (get live n)) (same_test n top same)
    | inr apart ↦ get_gone live top n (h.none_above n (omega arith))
  ];
}

-- the next number comes in
pub behind-insert : (M : ClauseMap) (b top id : ℕ) (C : Clause) (live : ClauseMap) → b ≤ top → id ≡ top + 1 → ExtendsBase M b top live → ExtendsBase M b id (insert live id C)
behind-insert M b top id C live rises next h = record {
  kept = λ n low. get_other live id n C (λ (e : n ≡ id). omega arith) ∙ h.kept n low;
  none_above = λ n above. get_other live id n C (λ (e : n ≡ id). omega arith) ∙ h.none_above n (omega arith);
}

-- if nothing stands after the formula's clauses, they are all that is live
only : (F : Cnf) (live : ClauseMap) → ExtendsBase (map_of F) (length F.clauses) (length F.clauses) live → live ≡ map_of F
only F live h = same_map nat_cmp_total nat_cmp-IsAntisymmetric live (map_of F) (λ n. at n (nat_le n (length F.clauses)) refl)
  where
    at : (n : ℕ) (b : Bool) → nat_le n (length F.clauses) ≡ b → get live n ≡ get (map_of F) n
    at n true e = h.kept n (grind (arith, nat_tests))
    at n false e = let above : length F.clauses < n = grind (arith, nat_tests) in h.none_above n above ∙ sym (numbered_none F.clauses n above)

pub begun_behind : (F : Cnf) → ExtendsBase (map_of F) (length F.clauses) (length F.clauses) (map_of F)
begun_behind F = record { kept = λ n low. refl; none_above = λ n above. numbered_none F.clauses n above }

pub begun_stands : (F : Cnf) (s : LogState) → IsBegun F s → HoldsFormula F s
begun_stands F s h = record {
  base = h.base;
  rises = omega (arith, h.base, h.top);
  behind = subst (λ (b : ℕ). ExtendsBase (map_of F) b s.top s.live) (sym h.base)
      (subst (λ (t : ℕ). ExtendsBase (map_of F) (length F.clauses) t s.live) (sym h.top)
      (subst (λ (M : ClauseMap). ExtendsBase (map_of F) (length F.clauses) (length F.clauses) M) (sym h.live) (begun_behind F)));
  most = h.most;
}

-- a checker that was cleared
pub stands_begun : (F : Cnf) (s : LogState) → HoldsFormula F s → s.top ≡ s.base → s.line ≡ 1 → s.cut ≡ 0 → IsBegun F s
stands_begun F s h low first uncut = record {
  base = h.base;
  live = only F s.live
      (subst (λ (b : ℕ). ExtendsBase (map_of F) b (length F.clauses) s.live) h.base
      (subst (λ (t : ℕ). ExtendsBase (map_of F) s.base t s.live) (low ∙ h.base) h.behind));
  top = low ∙ h.base;
  line = first;
  cut = uncut;
  most = h.most;
}

-- another log may begin where the lemmas of the last one went out
pub cleared : (F : Cnf) (s t : LogState) → HoldsFormula F s → t.base ≡ s.base → t.top ≡ t.base → t.line ≡ 1 → t.cut ≡ 0 → t.most ≡ s.most
    → ((M : ClauseMap) → ExtendsBase M s.base s.top s.live → ExtendsBase M t.base t.top t.live) → IsBegun F t
cleared F s t h base low first uncut most behind =
    let rises : t.base ≤ t.top = omega (arith, low) in
    stands_begun F t (record { base = base ∙ h.base; rises = rises; behind = behind (map_of F) h.behind; most = most ∙ h.most }) low first uncut

-- ---- lines
behind-removed : (M : ClauseMap) (b top : ℕ) (ids : List ℕ) (live : ClauseMap) → AllByRecursion (λ id. b < id) ids → ExtendsBase M b top live → ExtendsBase M b top (removed live ids)
behind-removed M b top [] live high h = h
behind-removed M b top (id ∷ ids) live high h = behind-removed M b top ids (remove live id) high.1 (behind-remove M b top id live high.0 h)

behind-step : (M : ClauseMap) (b top : ℕ) (live : ClauseMap) (step : Step) → b ≤ top → IsLogStep b live top step → ExtendsBase M b top live
    → (b ≤ top_after top step) × ExtendsBase M b (top_after top step) (after_step live step)
behind-step M b top live (Add id lits hints groups) rises (next, none, rup) h = (omega arith, behind-insert M b top id lits live rises next h)
behind-step M b top live (Delete ids) rises (own, there, once) h =
    (rises, subst (λ (N : ClauseMap). ExtendsBase M b top N) (removed-without live ids) (behind-removed M b top ids live (recursion_from_All (λ id. b < id) ids own) h))

-- a line of a log leaves the formula's clauses
pub takes_stands : (F : Cnf) (s t : LogState) (line : List ℕ) → TakesLogLine s line t → HoldsFormula F s → HoldsFormula F t
takes_stands F s t line takes h =
    let after = behind-step (map_of F) s.base s.top s.live t.step h.rises takes.follows h.behind in
    record {
      base = takes.base ∙ h.base;
      rises = omega (arith, after.0, takes.base, takes.top);
      behind = subst (λ (b : ℕ). ExtendsBase (map_of F) b t.top t.live) (sym takes.base)
          (subst (λ (n : ℕ). ExtendsBase (map_of F) s.base n t.live) (sym takes.top)
          (subst (λ (N : ClauseMap). ExtendsBase (map_of F) s.base (top_after s.top t.step) N) (sym takes.live) after.1));
      most = takes.most ∙ h.most;
    }

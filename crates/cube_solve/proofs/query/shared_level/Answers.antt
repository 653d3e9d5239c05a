use Rattle.std.proofs.Common.{zero, suc, refl, ◌≡◌, ℕ, ◌-◌, ◌<◌, ◌≤◌, inl, inr, None, List, [], ◌∷◌, length, get_or, sym, subst, ap, ◌∙◌, arith}
use Rattle.std.specs.List.{Contains}
use Rattle.std.proofs.lemmas.Bool.{cases_lt}
use Rattle.watches.specs.declared.trail.Assigned.{Assigned}
use Rattle.cube_solve.specs.declared.marks.Marks.{Marks}
use Rattle.cube_solve.specs.inner.Queries.{IsMarked}
use Rattle.cube_solve.proofs.query.shared_level.Goals as goal

-- an entry's property: if it is a decision up to this level, it is marked
abbrev IsFine : Marks → ℕ → Assigned → Type 0
IsFine m shared e = e.reason ≡ None → 0 < e.level → e.level ≤ shared → IsMarked m e.literal

-- what stands at a place of a list is there whatever stands for none
within_any : (es : List Assigned) (k : ℕ) (d x : Assigned) → k < length es → get_or es k d ≡ get_or es k x
within_any [] k d x l = absurd (omega arith)
within_any (e ∷ es) zero d x l = refl
within_any (e ∷ es) (suc k) d x l = within_any es k d x (omega arith)

-- one more entry is fine
fine_more : (es : List Assigned) (m : Marks) (i old new : ℕ) (x : Assigned) → 0 < i → i ≤ length es → x ≡ get_or es (i - 1) x → new ≤ old → IsFine m new x
    → ((k : ℕ) (d : Assigned) → i ≤ k → k < length es → IsFine m old (get_or es k d)) → (k : ℕ) (d : Assigned) → i - 1 ≤ k → k < length es → IsFine m new (get_or es k d)
fine_more es m i old new x some in_list at less here rest k d from lt = elim (cases_lt k i) [
  | inl low ↦ let same : k ≡ i - 1 = omega arith in subst (IsFine m new) (at ∙ ap (λ j. get_or es j x) (sym same) ∙ within_any es k x d lt) here
  | inr ge ↦ λ r z le. rest k d ge lt r z (omega arith)
]

-- the entries below one at level 0 are at level 0
fine_below : (es : List Assigned) (m : Marks) (i shared : ℕ) (x : Assigned) → 0 < i → i ≤ length es → x ≡ get_or es (i - 1) x → x.level ≡ 0
    → ((j k : ℕ) (d : Assigned) → j ≤ k → k < length es → (get_or es j d).level ≤ (get_or es k d).level)
    → ((k : ℕ) (d : Assigned) → i ≤ k → k < length es → IsFine m shared (get_or es k d)) → (e : Assigned) → Contains es e → IsFine m shared e
fine_below es m i shared x some in_list at zero_level rising rest e (k, lt, is) = elim (cases_lt k i) [
  | inl low ↦ λ r z le. absurd (
      let up = rising k (i - 1) x (omega arith) (omega arith) in
      let top : x.level ≡ (get_or es (i - 1) x).level = ap (λ (y : Assigned). y.level) at in
      let here : (get_or es k x).level ≡ e.level = ap (λ (y : Assigned). y.level) (within_any es k x e lt ∙ is) in
      omega arith)
  | inr ge ↦ subst (IsFine m shared) is (rest k e ge lt)
]

pub going_down-preserved : goal.going_down-preserved
going_down-preserved c =
    let es = c.args.trail.now.entries in
    let w = c.going_down.invariant.within in
    let at = c.index-entries-i.is ∙ ap (λ (xs : List Assigned). get_or xs (c.going_down.i - 1) c.index-entries-i.result) c.entries-entries.ensures.entries in
    record {
      within = omega arith;
      marked = fine_more es c.args.marks.now c.going_down.i c.going_down.shared c.shared_below-shared.result c.index-entries-i.result (let t = c.going_down-test.true in omega arith) w at c.shared_below-shared.ensures.less
          c.shared_below-shared.ensures.marked c.going_down.invariant.marked;
    }

pub returns-then-entry-eq0 : goal.returns-then-entry-eq0
returns-then-entry-eq0 c =
    let es = c.args.trail.now.entries in
    let at = c.index-entries-i.is ∙ ap (λ (xs : List Assigned). get_or xs (c.going_down.i - 1) c.index-entries-i.result) c.entries-entries.ensures.entries in
    fine_below es c.args.marks.now c.going_down.i c.going_down.shared c.index-entries-i.result (let t = c.going_down-test.true in omega arith) c.going_down.invariant.within at c.if-entry-eq0.true (c.entries-entries.ensures.valid).rising
    c.going_down.invariant.marked

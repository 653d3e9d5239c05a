use Rattle.std.proofs.Common.{zero, suc, [], ◌∷◌, refl, ◌≡◌, ℕ, ◌-◌, ◌<◌, ◌≤◌, inl, inr, true, List, length, get_or, sym, subst, ap, ◌∙◌, arith}
use Rattle.std.specs.List.{Contains}
use Rattle.std.proofs.lemmas.Bool.{cases_lt}
use Rattle.dimacs.specs.logic.Literal.{var_of}
use Rattle.decide_heap.specs.Decisions.{Decisions, is_in}
use Rattle.watches.specs.declared.trail.Assigned.{Assigned}
use Rattle.cube_solve.proofs.decision_order.put_back.Goals as goal

-- what stands at a place of a list is there whatever stands for none
within_any : (es : List Assigned) (k : ℕ) (d x : Assigned) → k < length es → get_or es k d ≡ get_or es k x
within_any [] k d x l = absurd (omega arith)
within_any (e ∷ es) zero d x l = refl
within_any (e ∷ es) (suc k) d x l = within_any es k d x (omega arith)

-- an entry above the level of the last that is left stands after it
behind : (es : List Assigned) (i level : ℕ) (d : Decisions) → ((j k : ℕ) (x : Assigned) → j ≤ k → k < length es → (get_or es j x).level ≤ (get_or es k x).level)
    → ((k : ℕ) (x : Assigned) → i ≤ k → k < length es → is_in d (var_of (get_or es k x).literal) ≡ true)
    → ((k : ℕ) (x : Assigned) → k < i → k < length es → (get_or es k x).level ≤ level)
    → (e : Assigned) → Contains es e → level < e.level → is_in d (var_of e.literal) ≡ true
behind es i level d rising back low e (k, l, is) above = elim (cases_lt k i) [
  | inl lt ↦ absurd (let a = low k e lt l in let b : (get_or es k e).level ≡ e.level = ap (λ (x : Assigned). x.level) is in omega arith)
  | inr ge ↦ subst (λ (x : Assigned). is_in d (var_of x.literal) ≡ true) is (back k e ge l)
]

pub returns-then-entry-level : goal.returns-then-entry-level
returns-then-entry-level c =
    let es = c.args.trail.now.entries in
    let v = c.entries-entries.ensures.valid in
    let last : c.index-entries-i.result ≡ get_or es (c.putting.i - 1) c.index-entries-i.result =
    c.index-entries-i.is ∙ ap (λ (xs : List Assigned). get_or xs (c.putting.i - 1) c.index-entries-i.result) c.entries-entries.ensures.entries in
    record {
      vars = c.putting.invariant.vars;
      kept = c.putting.invariant.kept;
      back = behind es c.putting.i c.args.level c.putting.heap v.rising c.putting.invariant.back
          (λ k x lt l.
          let w = c.putting.invariant.within in
          let t = c.if-entry-level.true in
          let r = v.rising k (c.putting.i - 1) c.index-entries-i.result (omega arith) (omega arith) in
          let top : (get_or es (c.putting.i - 1) c.index-entries-i.result).level ≡ c.index-entries-i.result.level = ap (λ (y : Assigned). y.level) (sym last) in
          subst (λ (y : Assigned). y.level ≤ c.args.level) (within_any es k c.index-entries-i.result x l) (omega arith));
    }

use Rattle.std.proofs.Common.{arith, ◌≡◌, ◌∙◌, Bool, true, false, ℕ, if◌then◌else◌, refl, sym, ap, get_or, []}
use Rattle.std.specs.List.{list_any}
use Rattle.std.proofs.lemmas.Bool.{not-true as not_true, not-false as not_false}
use Rattle.cube_split.proofs.WalkLemmas.{closed_push}
use Rattle.cube_split.proofs.walk.closed_by_units.Goals as goal
use Rattle.cube_split.proofs.walk.closed_by_units.Goals.{then-is_apart, else-is_apart}

zero_at : (b : Bool) → b ≡ false → ◌≡◌ {A = ℕ} 0 (if b then 1 else 0)
zero_at b e = rw e refl

one_at : (b : Bool) → b ≡ true → ◌≡◌ {A = ℕ} 1 (if b then 1 else 0)
one_at b e = rw e refl

pub loop-i-preserved : goal.loop-i-preserved
loop-i-preserved c = λ test marked.
    let clause : list_any test c.clause.result.now ≡ list_any test (get_or c.args.formula.now.clauses c.loop-i.i []) = ap (list_any test) c.clause.ensures.clause in
    rw c.in_ok-push.ensures.items (closed_push test c.args.formula.now.clauses c.loop-i.i c.if-is_apart.level c.loop-i.closed.items (omega arith)
    (elim c.if-is_apart.branch [
      | then-is_apart w ↦ w.level-is ∙ zero_at _ (sym clause ∙ not_true _ (sym (c.is_apart.ensures test marked) ∙ w.if-is_apart.true))
      | else-is_apart w ↦ w.level-is ∙ one_at _ (sym clause ∙ not_false _ (sym (c.is_apart.ensures test marked) ∙ w.if-is_apart.false))
    ])
    (c.loop-i.invariant test marked))

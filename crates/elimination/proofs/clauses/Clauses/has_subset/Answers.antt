use Rattle.std.proofs.Common.{◌<◌, ◌∙◌, ℕ, true, false, get_or, length, refl, subst, sym, arith}
use Rattle.std.specs.List.{All, Contains}
use Rattle.std.proofs.lemmas.Bool.{true≢false}
use Rattle.std.proofs.lemmas.List.{take_all}
use Rattle.std.proofs.lemmas.List.Elements.{All-more, All-contains}
use Rattle.elimination.specs.Kept.{IsSubset}
use Rattle.elimination.specs.inner.Indexed.{clause_at, IsActive}
use Rattle.elimination.proofs.IndexLemmas.{active_read, answer_true, answer_false}
use Rattle.elimination.proofs.clauses.Clauses.has_subset.Goals as goal
use Rattle.elimination.proofs.clauses.Clauses.has_subset.Goals.{else-index-via-then-index+else-is_subset, else-index-via-else-index}

pub returns-then-is_subset : goal.returns-then-is_subset
returns-then-is_subset c =
    let s = c.args.self.now in
    let xs = c.with-i-items.result.now in
    let i = get_or xs c.loop-i.i-index 0 in
    let held = c.with-i-items.ensures.held c.loop-i.i-index 0 c.loop-i-test.true in
    let below : i < length s.active.items = let h = held.0 in omega (arith, c.requires.indexed.stored.truths) in (
      i,
      held.0,
      active_read s.active.items i c.index.result.now true below c.index.ensures c.if-index.true,
      answer_true c.is_subset.result c.clause.result.now c.args.lits.now (clause_at s.all.clauses i) c.args.lits.now c.is_subset.ensures c.clause.ensures.clause refl c.if-is_subset.true,
    )

pub loop-i-preserved : goal.loop-i-preserved
loop-i-preserved c =
    let s = c.args.self.now in
    let xs = c.with-i-items.result.now in
    let i = get_or xs c.loop-i.i-index 0 in
    let held = c.with-i-items.ensures.held c.loop-i.i-index 0 c.loop-i-test.true in
    let below : i < length s.active.items = let h = held.0 in omega (arith, c.requires.indexed.stored.truths) in
    let none : IsActive s.active.items i → IsSubset (clause_at s.all.clauses i) c.args.lits.now → ⊥ = elim c.else-index.branch [
      | else-index-via-then-index+else-is_subset w ↦
          λ a t. answer_false w.is_subset.result w.clause.result.now c.args.lits.now (clause_at s.all.clauses i) c.args.lits.now w.is_subset.ensures w.clause.ensures.clause refl w.if-is_subset.false t
      | else-index-via-else-index w ↦ λ a t. true≢false (sym a ∙ active_read s.active.items i c.index.result.now false below c.index.ensures w.if-index.false)
    ] in
    All-more (λ n. IsActive s.active.items n → IsSubset (clause_at s.all.clauses n) c.args.lits.now → ⊥) xs c.loop-i.i-index 0 c.loop-i-test.true c.loop-i.invariant none

pub returns : goal.returns
returns c i m a t =
    let s = c.args.self.now in
    let xs = c.with-i-items.result.now in
    let P : ℕ → Type 0 = λ n. IsActive s.active.items n → IsSubset (clause_at s.all.clauses n) c.args.lits.now → ⊥ in
    All-contains P xs i (subst (All P) (take_all c.loop-i.i-index xs c.loop-i-test.false) c.loop-i.invariant) (subst (λ ys. Contains ys i) (sym c.with-i-items.ensures.list) m) a t

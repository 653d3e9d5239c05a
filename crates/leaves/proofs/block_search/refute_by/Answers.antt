use Rattle.std.proofs.Common.{◌≡◌, ◌+◌, ◌<◌, ◌≤◌, List, Bool, Option, inl, inr, length, subst, arith}
use Rattle.leaves.specs.inner.BlockSearch.{SearchesLeaf}
use Rattle.leaves.proofs.LineLemmas.{if_if}
use Rattle.leaves.proofs.BlockSearchLemmas.{all_done, finds_model, none_done, one_done}
use Rattle.leaves.proofs.block_search.refute_by.Goals as goal

pub loop-leaf-init : goal.loop-leaf-init
loop-leaf-init g c =
    let e = c.in_ok-run.ensures in
    record {
      done = none_done c.args.split.now.formula c.args.split.now.tree c.args.first c.args.search.now c.in_ok-run.run' e.stands e.notes e.closed;
      ready = e.ready;
      vars = e.stands.vars;
    }

pub loop-leaf-preserved : goal.loop-leaf-preserved
loop-leaf-preserved g c =
    let n = c.loop-leaf.leaf in
    let a = c.loop-leaf.auto.leaf in
    let low : 0 < n = omega arith in
    let up : n ≤ length c.args.split.now.tree = omega arith in
    record {
      done = one_done c.args.split.now.formula c.args.split.now.tree c.args.first n c.args.search.now c.loop-leaf.run c.loop-leaf.invariant.done c.search_leaf.new.self low up
          (subst (λ (found : Option (List Bool)). SearchesLeaf c.args.split.now.formula c.args.split.now.tree n c.args.search.now c.loop-leaf.run c.search_leaf.new.self found) c.in_default.is c.in_ok-values.ensures.search_leaf);
      ready = c.in_ok-values.ensures.ready;
      vars = c.in_ok-values.ensures.vars;
    }

pub returns-in-Some : goal.returns-in-Some
returns-in-Some g c =
    let n = c.loop-leaf.leaf in
    let a = c.loop-leaf.auto.leaf in
    let low : 0 < n = omega arith in
    let up : n ≤ length c.args.split.now.tree = omega arith in
    let before : n ≤ c.args.last = omega arith in
    if_if c.satisfied.result _ _ (λ r h. inl (finds_model c.args.split.now.formula c.args.split.now.tree c.args.first n c.args.search.now c.loop-leaf.run c.loop-leaf.invariant.done c.search_leaf.new.self low up
    c.in-Some.values c.args.last before
    (subst (λ (found : Option (List Bool)). SearchesLeaf c.args.split.now.formula c.args.split.now.tree n c.args.search.now c.loop-leaf.run c.search_leaf.new.self found) c.in-Some.is c.in_ok-values.ensures.search_leaf) r h)) c.satisfied.ensures

pub returns : goal.returns
returns g c =
    let a = c.loop-leaf.auto.leaf in
    let b = c.loop-leaf.auto.leaf-end in
    let end : c.loop-leaf.leaf ≡ c.args.last + 1 = omega arith in
    inr (all_done c.args.split.now.formula c.args.split.now.tree c.args.first c.loop-leaf.leaf c.args.search.now c.loop-leaf.run c.loop-leaf.invariant.done c.args.last c.ended.result end c.ended.ensures)

use Rattle.std.proofs.Common.{◌≡◌, ℕ, ◌+◌, ◌≤◌, List, [], Bool, Option, None, inl, inr, subst, arith}
use Rattle.leaves.specs.LeafSearch.{Hands}
use Rattle.leaves.specs.inner.GrowingSearch.{GrowsOn}
use Rattle.leaves.proofs.LineLemmas.{if_if}
use Rattle.leaves.proofs.GrowingLemmas.{always_err, ends_all, ends_model, left_standing, none_grows}
use Rattle.leaves.proofs.growing_search.grow_by.Goals as goal

pub loop-leaf-init : goal.loop-leaf-init
loop-leaf-init g c =
    let e = c.in-Ok.ensures in
    record {
      grows = λ empty. none_grows c.args.split.now.formula c.args.split.now.tree c.args.span.first c.args.search.now _ _ empty e.stands e.notes e.closed;
      ready = e.ready;
      vars = e.stands.vars;
    }

pub loop-leaf-preserved : goal.loop-leaf-preserved
loop-leaf-preserved g c =
    let e = c.in_ok-values.ensures in
    record {
      grows = λ empty. subst (λ (found : Option (List Bool)). GrowsOn (g.G.GrowingLog.stood c.grow_leaf.new.kept) c.args.split.now.formula c.args.split.now.tree c.args.span.first c.loop-leaf.leaf c.args.search.now c.loop-leaf.run c.grow_leaf.new.self found) c.in_default.is (e.grows c.args.span.first (c.loop-leaf.invariant.grows empty));
      ready = e.ready;
      vars = e.vars;
    }

pub returns-in_err-values-clause-left : goal.returns-in_err-values-clause-left
returns-in_err-values-clause-left g c = λ empty.
    always_err c.from_residual.result (c.in_err-values.ensures.left c.args.span.first (c.loop-leaf.invariant.grows empty))

pub returns-in-Some-clause-grows : goal.returns-in-Some-clause-grows
returns-in-Some-clause-grows g c = λ empty.
    let F = c.args.split.now.formula in
    let tree = c.args.split.now.tree in
    let first = c.args.span.first in
    let s = c.args.search.now in
    let n = c.loop-leaf.leaf in
    let stood = g.G.GrowingLog.stood c.grow_leaf.new.kept in
    let a = c.loop-leaf.auto.leaf in
    let before : n ≤ c.args.span.last = omega arith in
    let now = subst (λ (found : Option (List Bool)). GrowsOn stood F tree first n s c.loop-leaf.run c.grow_leaf.new.self found) c.in-Some.is (c.in_ok-values.ensures.grows first (c.loop-leaf.invariant.grows empty)) in
    if_if c.report_model.result _ _ (λ r h. inl (ends_model F tree first s stood n c.loop-leaf.run now.0 c.in-Some.values c.args.span.last r now.1 before h)) c.report_model.ensures.hands

pub returns-in-Some-clause-left : goal.returns-in-Some-clause-left
returns-in-Some-clause-left g c = λ empty.
    let F = c.args.split.now.formula in
    let tree = c.args.split.now.tree in
    let first = c.args.span.first in
    let s = c.args.search.now in
    let n = c.loop-leaf.leaf in
    let stood = g.G.GrowingLog.stood c.grow_leaf.new.kept in
    let now = subst (λ (found : Option (List Bool)). GrowsOn stood F tree first n s c.loop-leaf.run c.grow_leaf.new.self found) c.in-Some.is (c.in_ok-values.ensures.grows first (c.loop-leaf.invariant.grows empty)) in
    always_err c.report_model.result (left_standing F tree first s stood n c.loop-leaf.run now.0 (g.G.GrowingLog.cut c.grow_leaf.new.kept))

pub returns-clause-grows : goal.returns-clause-grows
returns-clause-grows g c = λ empty.
    let n = c.loop-leaf.leaf in
    let a = c.loop-leaf.auto.leaf in
    let b = c.loop-leaf.auto.leaf-end in
    let end : n ≡ c.args.span.last + 1 = omega arith in
    if_if c.report_text.result _ _ (λ r h. inr (ends_all c.args.split.now.formula c.args.split.now.tree c.args.span.first c.args.search.now (g.G.GrowingLog.stood c.loop-leaf.kept) n c.loop-leaf.run
    (c.loop-leaf.invariant.grows empty) c.args.span.last r end (subst (λ (status : ℕ). Hands status [] None r) c.status_of.ensures h))) c.report_text.ensures.prints

pub returns-clause-left : goal.returns-clause-left
returns-clause-left g c = λ empty.
    always_err c.report_text.result (left_standing c.args.split.now.formula c.args.split.now.tree c.args.span.first c.args.search.now (g.G.GrowingLog.stood c.loop-leaf.kept) c.loop-leaf.leaf c.loop-leaf.run
    (c.loop-leaf.invariant.grows empty) (g.G.GrowingLog.cut c.loop-leaf.kept))

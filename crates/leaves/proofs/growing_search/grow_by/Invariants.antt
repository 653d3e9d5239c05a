use Rattle.std.proofs.Common.{◌≡◌, []}
use Rattle.cube_solve.specs.Session.{IsReady, vars_of}
use Rattle.leaves.specs.inner.GrowingSearch.{IsGrowing}
use Rattle.leaves.proofs.growing_search.grow_by.Given as goal

abbrev pub invariant-loop-leaf : goal.invariant-loop-leaf
invariant-loop-leaf g l = record {
  grows : g.G.GrowingLog.stood l.initial.kept [] → IsGrowing (g.G.GrowingLog.stood l.kept) l.split.formula l.split.tree l.fn.span.first l.leaf l.search l.run;
  ready : IsReady g.P.Propagator.is_ready g.P.Propagator.attached l.run.searches.session;
  vars : vars_of l.run.searches.session ≡ l.split.formula.vars;
}

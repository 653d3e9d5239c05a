use Rattle.std.proofs.Common.{◌≡◌, ◌≤◌, ◌∙◌, ℕ, length, None, sym, ap, subst, rules, arith}
use Rattle.std.specs.Prelude.{replicate}
use Rattle.cube_split.specs.Definitions.{base_with}
use Rattle.cube_split.specs.Pairs.{Definitions}
use Rattle.coordinator_core.specs.Coordinator.{CoordinatorState, restarted_coordinator}
use Rattle.coordinator_core.specs.Invariant.{IsTreeOf}
use Rattle.coordinator_core.proofs.NewCoordinatorLemmas.{begin_is, beginning, begun}
use Rattle.coordinator_core.proofs.coordinator.Coordinator.restart.Goals as goal

pub invariant_of-self : goal.invariant_of-self
invariant_of-self c =
    let count : c.len-workers.result ≡ length c.self.inside.jobs.items = search rules in
    let unwanted : c.in_ok-wants.wants.items ≡ replicate c.len-workers.result None = c.in_ok-wants.ensures in
    let is = c.self.invariant.2 in
    let some : 1 ≤ c.len-workers.result = omega (arith, count, is.tables.some_worker) in
    let few : c.len-workers.result ≤ 64 = omega (arith, count, is.tables.few_workers) in
    let d : Definitions = record { wanted = c.self.inside.defs; pairs = c.self.inside.preamble.pairs } in (
      c.self.invariant.0,
      c.self.invariant.1,
      begin_is c.self.inside.formula d c.self.inside.initial_tree c.in_ok-tree.tree c.self.inside.limit c.len-workers.result c.args.session c.leaves.result c.in_ok-leaves.leaves c.in_ok-jobs.jobs.items c.in_ok-wants.wants.items
          is.grounds.formula is.grounds.defined (subst (IsTreeOf (base_with c.self.inside.formula d.pairs)) (sym c.in_ok-tree.ensures) is.grounds.initial_is) some few
          (sym c.in_ok-tree.ensures) c.leaves.ensures.value c.in_ok-leaves.ensures c.in_ok-jobs.ensures unwanted,
      c.self.invariant.3,
      tt,
    )

pub returns-clause-ok : goal.returns-clause-ok
returns-clause-ok c =
    let count : c.len-workers.result ≡ length c.self.inside.jobs.items = search rules in
    let unwanted : c.in_ok-wants.wants.items ≡ replicate c.len-workers.result None = c.in_ok-wants.ensures in
    let d : Definitions = record { wanted = c.self.inside.defs; pairs = c.self.inside.preamble.pairs } in
    begun c.self.inside.formula d c.self.inside.initial_tree c.in_ok-tree.tree c.self.inside.limit c.len-workers.result c.args.session c.leaves.result c.in_ok-leaves.leaves c.in_ok-jobs.jobs.items c.in_ok-wants.wants.items
    c.in_ok-tree.ensures c.leaves.ensures.value c.in_ok-leaves.ensures c.in_ok-jobs.ensures unwanted
    ∙ ap (λ (k : ℕ). beginning c.self.inside.formula d c.self.inside.initial_tree c.self.inside.limit k c.args.session) count
    ∙ ap (λ (s : CoordinatorState). restarted_coordinator s c.args.session) c.self.view_is

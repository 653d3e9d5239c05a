use Rattle.std.proofs.Common.{◌≡◌, ◌<◌, ◌∙◌, List, None, refl, sym, ap, subst}
use Rattle.std.specs.Prelude.{replicate, All}
use Rattle.icnf.specs.Leaves.{Cube}
use Rattle.evidence.specs.Jobs.{IsOverBase}
use Rattle.cube_split.specs.Definitions.{base_with}
use Rattle.cube_split.specs.Pairs.{Definitions, IsBaseWith, OpenedFormula}
use Rattle.dimacs.specs.logic.Cnf.{Cnf}
use Rattle.dimacs.specs.logic.Literal.{IsWithin}
use Rattle.cube_split.proofs.DefinedLemmas.{all_chosen}
use Rattle.coordinator_core.proofs.NewCoordinatorLemmas.{begin_is, beginning, begun, narrow_tree}
use Rattle.coordinator_core.proofs.coordinator.Coordinator.of.Goals as goal

pub own_base-requires-clause-pairs : goal.own_base-requires-clause-pairs
own_base-requires-clause-pairs c = let parts = c.into_parts-formula.result in all_chosen parts.0 parts.1 parts.2.pairs c.into_parts-formula.ensures.defined.defined

pub invariant_of-result : goal.invariant_of-result
invariant_of-result c =
    let parts = c.into_parts-formula.result in
    let unwanted : c.in_ok-wants.wants.items ≡ replicate c.args.workers None = c.in_ok-wants.ensures in
    let d : Definitions = record { wanted = parts.1; pairs = parts.2.pairs } in
    let inside : All (IsOverBase (base_with parts.0 d.pairs)) c.args.tree =
    subst (λ (o : OpenedFormula). (B : Cnf) → IsBaseWith o.formula o.definitions.wanted B → All (IsOverBase B) c.args.tree) (sym c.into_parts-formula.ensures.whole) c.requires.inside
    (base_with parts.0 d.pairs) (record { pairs = d.pairs; defined = c.into_parts-formula.ensures.defined.defined; is = refl }) in
    let narrow : 1000000 < parts.0.vars → All (All (IsWithin 2000000)) c.args.tree =
    subst (λ (o : OpenedFormula). 1000000 < o.formula.vars → All (All (IsWithin 2000000)) c.args.tree) (sym c.into_parts-formula.ensures.whole) c.requires.narrow in (
      c.into_parts-formula.ensures.units,
      c.in_ok-base.ensures.base,
      begin_is parts.0 d c.in_ok-initial_tree.initial_tree c.args.tree c.args.limit c.args.workers c.args.session c.leaves.result c.in_ok-leaves.leaves c.in_ok-jobs.jobs.items c.in_ok-wants.wants.items
          c.vars.ensures.valid c.into_parts-formula.ensures.defined (record { is_tree = c.leaves.ensures.valid; inside = inside; narrow = narrow_tree parts.0 d c.args.tree c.into_parts-formula.ensures.defined inside narrow })
          c.requires.workers.0 c.requires.workers.1 c.in_ok-initial_tree.ensures c.leaves.ensures.value c.in_ok-leaves.ensures c.in_ok-jobs.ensures unwanted,
      tt,
      tt,
    )

pub returns : goal.returns
returns c =
    let parts = c.into_parts-formula.result in
    let unwanted : c.in_ok-wants.wants.items ≡ replicate c.args.workers None = c.in_ok-wants.ensures in
    let d : Definitions = record { wanted = parts.1; pairs = parts.2.pairs } in
    begun parts.0 d c.in_ok-initial_tree.initial_tree c.args.tree c.args.limit c.args.workers c.args.session c.leaves.result c.in_ok-leaves.leaves c.in_ok-jobs.jobs.items c.in_ok-wants.wants.items
    (sym c.in_ok-initial_tree.ensures) c.leaves.ensures.value c.in_ok-leaves.ensures c.in_ok-jobs.ensures unwanted
    ∙ ap (λ (t : List Cube). beginning parts.0 d t c.args.limit c.args.workers c.args.session) c.in_ok-initial_tree.ensures
    ∙ ap (λ (o : OpenedFormula). beginning o.formula o.definitions c.args.tree c.args.limit c.args.workers c.args.session) c.into_parts-formula.ensures.whole

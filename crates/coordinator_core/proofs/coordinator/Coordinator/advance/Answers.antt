use Rattle.std.proofs.Common.{◌≡◌, ℕ, List, [], Some, length, get_or, arith, ap, sym, subst}
use Rattle.std.specs.Prelude.{slice_get}
use Rattle.std.proofs.lemmas.Option.{slice_get_within}
use Rattle.lrat_text.specs.Log.{Closes}
use Rattle.cube_split.specs.Definitions.{base_with}
use Rattle.coordinator_core.specs.inner.Fronts.{IsFrontOfTree, IsJoined}
use Rattle.coordinator_core.specs.declared.job_state.LeafState.TheVariants.{Closed}
use Rattle.coordinator_core.proofs.FrontLemmas.{joined_base}
use Rattle.coordinator_core.proofs.InvariantLemmas.{base_low, pairs_inside}
use Rattle.coordinator_core.proofs.coordinator.Coordinator.advance.Goals as goal

pub front_or_new-front-requires-clause-pairs : goal.front_or_new-front-requires-clause-pairs
front_or_new-front-requires-clause-pairs c = pairs_inside _ c.self.invariant.2

pub join_next-requires-clause-inside : goal.join_next-requires-clause-inside
join_next-requires-clause-inside c =
    let closed_there : slice_get c.self.inside.leaves.states c.place_of-place.result ≡ Some Closed = c.is_closed.ensures.0 c.if-not-is_closed.false in
    let there = slice_get_within c.self.inside.leaves.states c.place_of-place.result Closed closed_there in
    let tables = c.self.invariant.2.tables in
    (omega (arith, there, tables.each_leaf), omega (arith, there, tables.each_leaf, tables.each_fragment, ap length c.fragments.ensures))

pub join_next-requires-clause-closes : goal.join_next-requires-clause-closes
join_next-requires-clause-closes c =
    let closed_there : slice_get c.self.inside.leaves.states c.place_of-place.result ≡ Some Closed = c.is_closed.ensures.0 c.if-not-is_closed.false in
    let joined : IsJoined c.self.inside.formula c.self.inside.preamble.pairs c.self.inside.tree c.self.inside.leaves.states c.fragments.result.now c.take-held.result =
    subst (IsJoined c.self.inside.formula c.self.inside.preamble.pairs c.self.inside.tree c.self.inside.leaves.states c.fragments.result.now) (sym c.take-held.ensures.value)
    (subst (λ (ts : List (List ℕ)). IsJoined c.self.inside.formula c.self.inside.preamble.pairs c.self.inside.tree c.self.inside.leaves.states ts c.self.inside.front) (sym c.fragments.ensures) c.self.invariant.4) in (
      c.self.inside.formula,
      c.self.inside.preamble.pairs,
      subst (λ (ts : List (List ℕ)). Closes (base_with c.self.inside.formula c.self.inside.preamble.pairs) (get_or c.self.inside.tree c.place_of-place.result []) (get_or ts c.place_of-place.result [])) (sym c.fragments.ensures) (c.self.invariant.2.closing c.place_of-place.result closed_there),
      joined_base c.self.inside.formula c.self.inside.preamble.pairs c.self.inside.tree c.self.inside.leaves.states c.fragments.result.now c.front_or_new-front.result (c.front_or_new-front.ensures.front c.self.inside.tree c.self.inside.leaves.states c.fragments.result.now joined),
      base_low _ c.self.invariant.2,
    )

pub invariant_of-self : goal.invariant_of-self
invariant_of-self c =
    let closed_there : slice_get c.self.inside.leaves.states c.place_of-place.result ≡ Some Closed = c.is_closed.ensures.0 c.if-not-is_closed.false in
    let joined : IsJoined c.self.inside.formula c.self.inside.preamble.pairs c.self.inside.tree c.self.inside.leaves.states c.fragments.result.now c.take-held.result =
    subst (IsJoined c.self.inside.formula c.self.inside.preamble.pairs c.self.inside.tree c.self.inside.leaves.states c.fragments.result.now) (sym c.take-held.ensures.value)
    (subst (λ (ts : List (List ℕ)). IsJoined c.self.inside.formula c.self.inside.preamble.pairs c.self.inside.tree c.self.inside.leaves.states ts c.self.inside.front) (sym c.fragments.ensures) c.self.invariant.4) in (
      c.self.invariant.0,
      c.self.invariant.1,
      c.self.invariant.2,
      c.self.invariant.3,
      subst (λ (ts : List (List ℕ)). IsFrontOfTree c.self.inside.formula c.self.inside.preamble.pairs c.self.inside.tree c.self.inside.leaves.states ts c.in-Ok.joining) c.fragments.ensures
          (c.in-Ok.ensures c.self.inside.formula c.self.inside.preamble.pairs c.self.inside.leaves.states closed_there (c.front_or_new-front.ensures.front c.self.inside.tree c.self.inside.leaves.states c.fragments.result.now joined)),
    )

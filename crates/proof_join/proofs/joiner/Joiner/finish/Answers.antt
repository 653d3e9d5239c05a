use Rattle.std.proofs.Common.{◌+◌, ◌≤◌, List, [], length, take, get_or, refl, arith, ap, sym, subst}
use Rattle.std.proofs.lemmas.Result.{err_from_is_err_and}
use Rattle.icnf.specs.Leaves.{Cube}
use Rattle.lrat_text.specs.Log.{Closes}
use Rattle.cube_split.specs.Definitions.{base_with}
use Rattle.cube_split.specs.declared.pair.Pair.{Pair}
use Rattle.proof_join.specs.Definitions.{preamble_steps}
use Rattle.proof_join.specs.Fronts.{Front, IsFrontOf, appended}
use Rattle.proof_join.specs.JoinedProof.{IsPreamble}
use Rattle.proof_join.specs.Steps.{steps_in}
use Rattle.proof_join.proofs.DefinitionLemmas.{definitions_lead}
use Rattle.proof_join.proofs.FinishLemmas.{front_long, front_joined, front_accepts}
use Rattle.proof_join.proofs.FrontLemmas.{front_next, front_count}
use Rattle.proof_join.proofs.WholeLemmas.{close_at, close_length}
use Rattle.proof_join.proofs.joiner.Joiner.finish.Goals as goal

pub text_at-requires : goal.text_at-requires
text_at-requires c =
    let each = close_length (base_with c.args.formula.now c.args.preamble.now.pairs) c.args.tree.now c.args.fragments.now c.requires.closed in
    omega arith

pub advance-requires-clause-closes : goal.advance-requires-clause-closes
advance-requires-clause-closes c =
    let few : length c.args.preamble.now.pairs ≤ 64 = omega (arith, c.pairs.ensures.limit, ap (λ (ps : List Pair). length ps) c.pairs.ensures.value) in
    let low : c.args.formula.now.vars + length c.args.preamble.now.pairs ≤ 199999999 = omega (arith, c.vars.ensures.valid.vars, few) in
    let here = close_at (base_with c.args.formula.now c.args.preamble.now.pairs) c.args.tree.now c.args.fragments.now c.requires.closed c.loop-place.place (omega arith) in (
      base_with c.args.formula.now c.args.preamble.now.pairs,
      low,
      sym c.loop-place.invariant.front.base,
      subst (λ (q : Cube). Closes (base_with c.args.formula.now c.args.preamble.now.pairs) q c.text_at.result.now) (sym c.cube.ensures.cube)
          (subst (Closes (base_with c.args.formula.now c.args.preamble.now.pairs) (get_or c.args.tree.now c.loop-place.place [])) (sym c.text_at.ensures) here),
    )

pub loop-place-preserved : goal.loop-place-preserved
loop-place-preserved c =
    let each = close_length (base_with c.args.formula.now c.args.preamble.now.pairs) c.args.tree.now c.args.fragments.now c.requires.closed in
    let now : IsFrontOf c.args.formula.now c.args.preamble.now.pairs (take (c.loop-place.place + 1) c.args.tree.now) (take (c.loop-place.place + 1) c.args.fragments.now) c.in_ok-joining.joining =
    front_next c.args.formula.now c.args.preamble.now.pairs c.args.tree.now c.args.fragments.now c.loop-place.place c.loop-place.joining c.in_ok-joining.joining c.cube.result.now c.text_at.result.now c.loop-place.invariant.front
    (omega arith) (omega arith) c.cube.ensures.cube c.text_at.ensures c.in_ok-joining.ensures.appended in
    record { count = front_count c.args.formula.now c.args.preamble.now.pairs c.args.tree.now c.args.fragments.now (c.loop-place.place + 1) c.in_ok-joining.joining now (omega arith); front = now }

pub returns-in_err-joining-clause-long : goal.returns-in_err-joining-clause-long
returns-in_err-joining-clause-long c =
    let p = err_from_is_err_and c.from_residual.result c.from_residual.ensures.1 in
    rw (p.1, p.2) (λ is text j.
    let few : length c.args.preamble.now.pairs ≤ 64 = omega (arith, c.pairs.ensures.limit, ap (λ (ps : List Pair). length ps) c.pairs.ensures.value) in
    let low : c.args.formula.now.vars + length c.args.preamble.now.pairs ≤ 199999999 = omega (arith, c.vars.ensures.valid.vars, few) in
    let lead : IsPreamble c.args.formula.now (base_with c.args.formula.now c.args.preamble.now.pairs) (preamble_steps c.args.formula.now c.args.preamble.now.pairs) = definitions_lead c.args.formula.now c.args.preamble.now.pairs c.vars.ensures.valid c.requires.pairs few in
    let each = close_length (base_with c.args.formula.now c.args.preamble.now.pairs) c.args.tree.now c.args.fragments.now c.requires.closed in
    let next : Front = appended c.loop-place.joining c.cube.result.now (steps_in c.text_at.result.now) in
    let now : IsFrontOf c.args.formula.now c.args.preamble.now.pairs (take (c.loop-place.place + 1) c.args.tree.now) (take (c.loop-place.place + 1) c.args.fragments.now) next =
    front_next c.args.formula.now c.args.preamble.now.pairs c.args.tree.now c.args.fragments.now c.loop-place.place c.loop-place.joining next c.cube.result.now c.text_at.result.now c.loop-place.invariant.front
    (omega arith) (omega arith) c.cube.ensures.cube c.text_at.ensures refl in
    front_long c.args.formula.now c.args.preamble.now.pairs c.args.tree.now c.args.fragments.now c.leaves.ensures.valid.leaves c.requires.closed low lead (c.loop-place.place + 1) next now (c.in_err-joining.ensures.long is) text j)

pub returns-clause-joined : goal.returns-clause-joined
returns-clause-joined c =
    let few : length c.args.preamble.now.pairs ≤ 64 = omega (arith, c.pairs.ensures.limit, ap (λ (ps : List Pair). length ps) c.pairs.ensures.value) in
    let low : c.args.formula.now.vars + length c.args.preamble.now.pairs ≤ 199999999 = omega (arith, c.vars.ensures.valid.vars, few) in
    let lead : IsPreamble c.args.formula.now (base_with c.args.formula.now c.args.preamble.now.pairs) (preamble_steps c.args.formula.now c.args.preamble.now.pairs) = definitions_lead c.args.formula.now c.args.preamble.now.pairs c.vars.ensures.valid c.requires.pairs few in
    front_joined c.args.formula.now c.args.preamble.now.pairs c.args.tree.now c.args.fragments.now c.leaves.ensures.valid.leaves c.requires.closed low lead c.loop-place.place c.loop-place.joining c.loop-place.invariant.front (omega arith) c.into_text.result c.into_text.ensures.text

pub returns-clause-accepted : goal.returns-clause-accepted
returns-clause-accepted c =
    let few : length c.args.preamble.now.pairs ≤ 64 = omega (arith, c.pairs.ensures.limit, ap (λ (ps : List Pair). length ps) c.pairs.ensures.value) in
    let low : c.args.formula.now.vars + length c.args.preamble.now.pairs ≤ 199999999 = omega (arith, c.vars.ensures.valid.vars, few) in
    let lead : IsPreamble c.args.formula.now (base_with c.args.formula.now c.args.preamble.now.pairs) (preamble_steps c.args.formula.now c.args.preamble.now.pairs) = definitions_lead c.args.formula.now c.args.preamble.now.pairs c.vars.ensures.valid c.requires.pairs few in
    front_accepts c.args.formula.now c.args.preamble.now.pairs c.args.tree.now c.args.fragments.now c.leaves.ensures.valid.leaves c.requires.closed low lead c.loop-place.place c.loop-place.joining c.loop-place.invariant.front (omega arith) c.into_text.result c.into_text.ensures.text c.vars.ensures.valid c.into_text.ensures.short

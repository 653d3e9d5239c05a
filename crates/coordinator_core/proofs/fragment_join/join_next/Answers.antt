use Rattle.std.proofs.Common.{◌≡◌, [], length, get_or, arith, sym, subst}
use Rattle.icnf.specs.Leaves.{Cube}
use Rattle.lrat_text.specs.Log.{Closes}
use Rattle.cube_split.specs.Definitions.{base_with}
use Rattle.proof_join.specs.declared.fault.JoinFault.{JoinFault}
use Rattle.proof_join.specs.Fronts.{Front}
use Rattle.coordinator_core.specs.inner.Fronts.{IsFrontOfTree}
use Rattle.coordinator_core.proofs.FrontLemmas.{at_ok, next_joined}
use Rattle.coordinator_core.proofs.fragment_join.join_next.Goals as goal

pub advance-requires-clause-closes : goal.advance-requires-clause-closes
advance-requires-clause-closes c =
    let w = c.requires.closes in (
      base_with w.0 w.1,
      w.4,
      sym (at_ok {A = Front} {E = JoinFault} c.args.front c.in_ok-front.field-0 (λ j. j.base ≡ length (base_with w.0 w.1).clauses) c.in_ok-front.was w.3),
      subst (λ (q : Cube). Closes (base_with w.0 w.1) q c.text_at.result.now) (sym c.cube.ensures.cube) (subst (Closes (base_with w.0 w.1) (get_or c.args.tree.now c.args.place [])) (sym c.text_at.ensures) w.2),
    )

pub advance-requires-clause-few : goal.advance-requires-clause-few
advance-requires-clause-few c =
    let next : c.in_ok-front.field-0.count ≡ c.args.place = at_ok {A = Front} {E = JoinFault} c.args.front c.in_ok-front.field-0 (λ j. j.count ≡ c.args.place) c.in_ok-front.was c.requires.next in
    let inside = c.requires.inside.0 in
    omega (arith, c.leaves.ensures.value, c.leaves.ensures.limit)

pub returns : goal.returns
returns c = λ F pairs leaves closed_there h.
    next_joined F pairs c.args.tree.now leaves c.args.fragments.now c.in_ok-front.field-0 c.cube.result.now c.text_at.result.now c.args.place c.advance.result
    (at_ok {A = Front} {E = JoinFault} c.args.front c.in_ok-front.field-0 (IsFrontOfTree F pairs c.args.tree.now leaves c.args.fragments.now) c.in_ok-front.was h)
    (at_ok {A = Front} {E = JoinFault} c.args.front c.in_ok-front.field-0 (λ j. j.count ≡ c.args.place) c.in_ok-front.was c.requires.next)
    c.requires.inside.0 c.requires.inside.1 closed_there c.cube.ensures.cube c.text_at.ensures c.advance.ensures.appended

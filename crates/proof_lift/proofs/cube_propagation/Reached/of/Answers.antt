use Rattle.std.proofs.Common.{ℕ, ◌∙◌, List, [], ap}
use Rattle.dimacs.specs.logic.Propagation.{negations}
use Rattle.proof_lift.specs.TrimmedLemma.{union}
use Rattle.proof_lift.specs.inner.Tables.{marked}
use Rattle.proof_lift.proofs.ReachedLemmas.{reaches_none}
use Rattle.proof_lift.proofs.ReadyLemmas.{lent_back}
use Rattle.proof_lift.proofs.cube_propagation.Reached.of.Goals as goal

pub returns-clause-reached : goal.returns-clause-reached
returns-clause-reached c = λ T.
    let q = c.args.cube.now in
    let room = c.grow.new.table in
    let back = lent_back room.len c.join_cube.new.marks room.items (c.join_cube.ensures.places ∙ c.deref_mut.ensures.len) in
    let is = ap (λ (m : List ℕ). marked m 1) back ∙ c.in_ok-join_cube.ensures.assumed ∙ ap negations (c.in_ok-join_cube.ensures.clause ∙ ap (union q) c.new-clause.ensures.items) in
    reaches_none T (negations (union q [])) _ c.new.result.items c.new.ensures.items is

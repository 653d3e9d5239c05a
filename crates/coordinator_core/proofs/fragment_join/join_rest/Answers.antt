use Rattle.std.proofs.Common.{◌≡◌, ℕ, ◌^◌, ◌≤◌, List, length, Result, Ok, Err, IfErr, subst}
use Rattle.std.proofs.lemmas.Result.{err_from_is_err_and}
use Rattle.icnf.specs.Leaves.{Cube}
use Rattle.proof_join.specs.Definitions.{JoinedOver}
use Rattle.proof_join.specs.declared.fault.JoinFault.{JoinFault}
use Rattle.proof_join.specs.declared.fault.JoinFault.TheVariants.{TooLong}
use Rattle.proof_join.specs.Fronts.{Front}
use Rattle.coordinator_core.specs.inner.Fronts.{IsFrontOfTree}
use Rattle.coordinator_core.proofs.FrontLemmas.{at_ok}
use Rattle.coordinator_core.proofs.fragment_join.join_rest.Goals as goal

at_err : (r : Result Front JoinFault) (x : JoinFault) (P : JoinFault → Type 0) → r ≡ Err x → IfErr r P → P x
at_err (Ok y) x P e h = absurd cc
at_err (Err y) x P e h = let same : y ≡ x = cc in subst P same h

pub finish-requires-clause-inside : goal.finish-requires-clause-inside
finish-requires-clause-inside c =
    let w = c.requires.front in
    (at_ok {A = Front} {E = JoinFault} c.args.front c.in_ok-front.field-0 (IsFrontOfTree c.args.formula.now c.args.preamble.now.pairs c.args.tree.now w.0 c.args.fragments.now) c.in_ok-front.was w.1).inside

pub finish-requires-clause-front : goal.finish-requires-clause-front
finish-requires-clause-front c =
    let w = c.requires.front in
    (at_ok {A = Front} {E = JoinFault} c.args.front c.in_ok-front.field-0 (IsFrontOfTree c.args.formula.now c.args.preamble.now.pairs c.args.tree.now w.0 c.args.fragments.now) c.in_ok-front.was w.1).front

pub returns-in_err-front-clause-long : goal.returns-in_err-front-clause-long
returns-in_err-front-clause-long c =
    let p = err_from_is_err_and c.from_residual.result c.from_residual.ensures.1 in
    rw (p.1, p.2) (λ is text j.
    at_err c.args.front c.in_err-front.field-0.0
    (λ (f : JoinFault). f ≡ TooLong → (leaves : List Cube) (texts : List (List ℕ)) (joined : List ℕ) → JoinedOver c.args.formula.now c.args.preamble.now.pairs leaves texts joined → 2 ^ 32 ≤ length joined)
    c.in_err-front.was c.requires.long is c.args.tree.now c.args.fragments.now text j)

use Rattle.std.proofs.Common.{◌≡◌, Option, None, Some, subst}
use Rattle.std.specs.Option.{IfSome}
use Rattle.std.specs.Result.{IfOk}
use Rattle.elimination.specs.Kept.{IsLeftOf}
use Rattle.elimination.specs.declared.kept.Kept.{Kept}
use Rattle.elimination.proofs.kept.eliminate.Goals as goal
use Rattle.elimination.proofs.kept.eliminate.Goals.{in-Do+in_ok-reducer-in-Do, in-Wait}

pub loop-preserved : goal.loop-preserved
loop-preserved c =
    elim c.match-branch-6.branch [
      | in-Do+in_ok-reducer-in-Do w ↦ rw w.reducer-is (w.in_ok-reducer-in-Do.ensures c.args.formula.now c.loop.invariant)
      | in-Wait w ↦ rw w.reducer-is c.loop.invariant
    ]

-- what holds of what was found holds of what is left of that
still : (found left : Option Kept) (P : Kept → Type 0) → IfSome left (λ k. found ≡ Some k) → IfSome found P → IfSome left P
still found None P same h = tt
still found (Some k) P same h = subst (λ o. IfSome o P) same h

pub returns-clause-left : goal.returns-clause-left
returns-clause-left c =
    let P = IsLeftOf c.args.formula.now in
    let found = subst (λ r. IfOk r (λ o. IfSome o P)) c.in_ok-found.was (c.kept_of.ensures c.args.formula.now c.loop.invariant) in
    still c.in_ok-found.found c.unless_frozen.result P c.unless_frozen.ensures.same found

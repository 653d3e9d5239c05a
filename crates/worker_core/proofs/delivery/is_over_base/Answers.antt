use Rattle.std.proofs.Common.{◌≡◌, ℕ, take, All, subst, refl, arith}
use Rattle.std.proofs.lemmas.List.{take_all}
use Rattle.std.proofs.lemmas.List.Elements.{All-more}
use Rattle.dimacs.specs.logic.Literal.{IsWithin}
use Rattle.worker_core.proofs.delivery.is_over_base.Goals as goal

pub loop-literal-preserved : goal.loop-literal-preserved
loop-literal-preserved c =
    let item : IsWithin c.vars-vars.result c.literal-item.result = (omega (arith, c.number.ensures.above, c.number.ensures.value, c.var.ensures), omega (arith, c.if-number-vars.false, c.number.ensures.value, c.var.ensures)) in
    All-more (IsWithin c.vars-vars.result) c.args.cube.now c.loop-literal.literal-index c.literal-item.result c.loop-literal-test.true c.loop-literal.invariant
    (subst (IsWithin c.vars-vars.result) c.literal-item.is item)

pub returns : goal.returns
returns c =
    let all : take c.loop-literal.literal-index c.args.cube.now ≡ c.args.cube.now = take_all c.loop-literal.literal-index c.args.cube.now c.loop-literal-test.false in
    (λ _. subst (λ (n : ℕ). All (IsWithin n) c.args.cube.now) c.vars-vars.ensures.value (subst (All (IsWithin c.vars-vars.result)) all c.loop-literal.invariant), λ _. refl)

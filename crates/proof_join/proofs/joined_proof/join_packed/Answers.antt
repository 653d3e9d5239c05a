use Rattle.std.proofs.Common.{◌≡◌, ℕ, take, arith, sym, subst}
use Rattle.std.proofs.lemmas.Result.{err_from_is_err_and}
use Rattle.proof_join.specs.Fronts.{IsFrontOf}
use Rattle.proof_join.proofs.joined_proof.join_packed.Goals as goal

pub finish-requires-clause-inside : goal.finish-requires-clause-inside
finish-requires-clause-inside c = let none : c.in_ok-joining.joining.count ≡ 0 = c.in_ok-joining.ensures.front.count in omega arith

pub finish-requires-clause-front : goal.finish-requires-clause-front
finish-requires-clause-front c =
    let none : c.in_ok-joining.joining.count ≡ 0 = c.in_ok-joining.ensures.front.count in
    subst (λ (k : ℕ). IsFrontOf c.args.formula.now c.args.preamble.now.pairs (take k c.args.tree.now) (take k c.args.fragments.now) c.in_ok-joining.joining) (sym none) c.in_ok-joining.ensures.front

pub returns-in_err-joining-clause-long : goal.returns-in_err-joining-clause-long
returns-in_err-joining-clause-long c =
    let p = err_from_is_err_and c.from_residual.result c.from_residual.ensures.1 in
    rw (p.1, p.2) (λ is text j. c.in_err-joining.ensures.long is c.args.tree.now c.args.fragments.now text j)

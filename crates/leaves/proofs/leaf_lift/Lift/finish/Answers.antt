use Rattle.std.proofs.Common.{◌++◌, ◌≤◌, Result, subst, arith}
use Rattle.std.proofs.lemmas.Result.{err_from_is_err_and}
use Rattle.lrat_check.specs.declared.line_checker.CheckFault.{CheckFault}
use Rattle.lrat_text.specs.Log.{Closes}
use Rattle.proof_lift.specs.Stream.{GivesEnd}
use Rattle.proof_lift.proofs.StreamLemmas.{fault_of}
use Rattle.leaves.proofs.LineLemmas.{appended}
use Rattle.leaves.proofs.LiftLemmas.{only_memory}
use Rattle.leaves.proofs.leaf_lift.Lift.finish.Goals as goal

pub returns-clause-closes : goal.returns-clause-closes
returns-clause-closes c = λ F q bytes handed h.
    let before = c.args.self.out.items in
    let ends = c.in_ok-finish.ensures.closes F q bytes (handed ++ before) h.formula h.cube h.taken in
    appended (Closes F q) handed before c.finish.new.out.items ends.0 ends.1 ends.2

pub returns-in_err-finish-clause-complete : goal.returns-in_err-finish-clause-complete
returns-in_err-finish-clause-complete c =
    let p = err_from_is_err_and c.from_residual.result c.from_residual.ensures.1 in
    rw (p.1, p.2) (λ F q bytes handed h refutes.
    let low : F.vars ≤ 199999999 = (let few : F.vars ≤ 99999999 = h.formula.vars in omega arith) in
    only_memory c.in_err-finish.field-0.0 c.finish.result c.in_err-finish.was (c.finish.ensures.complete F q bytes (handed ++ c.args.self.out.items) low h.cube h.taken refutes))

pub returns-in_err-finish-clause-exact : goal.returns-in_err-finish-clause-exact
returns-in_err-finish-clause-exact c =
    let p = err_from_is_err_and c.from_residual.result c.from_residual.ensures.1 in
    rw (p.1, p.2) (λ F q bytes handed h.
    let l = c.args.self.lifter in
    let before = c.args.self.out.items in
    let after = c.finish.new.out.items in
    fault_of F q l bytes (handed ++ before) before after c.in_err-finish.field-0.0 h.taken
    (subst (λ (r : Result (Unit {0}) CheckFault). GivesEnd l r before after) c.in_err-finish.was c.finish.ensures.exact))

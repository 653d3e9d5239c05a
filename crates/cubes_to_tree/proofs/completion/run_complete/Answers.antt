use Rattle.std.proofs.Common.{◌≡◌, List, Result, Ok, arith, subst, sym}
use Rattle.std.proofs.lemmas.Result.{IfOk-weaker}
use Rattle.dimacs.specs.logic.Cnf.{greatest_in}
use Rattle.icnf.specs.declared.fault.IcnfFault.{IcnfFault}
use Rattle.icnf.specs.Leaves.{Cube}
use Rattle.icnf.proofs.StateLemmas.{clauses_greatest}
use Rattle.cubes_to_tree.specs.Completion.{PrintsCompletion}
use Rattle.cubes_to_tree.specs.CubeList.{listed}
use Rattle.cubes_to_tree.proofs.completion.run_complete.Goals as goal

pub read-requires : goal.read-requires
read-requires c =
    let valid = c.vars.ensures.valid in
    let within = clauses_greatest c.args.formula.now.vars c.args.formula.now.clauses valid.within in
    let few = valid.vars in
    let is = c.greatest_in.ensures.value in
    omega arith

pub returns-in-Ok : goal.returns-in-Ok
returns-in-Ok c =
    let F = c.args.formula.now in
    let read = c.in-Ok.ensures in
    let is : listed (greatest_in F.clauses) c.args.text.now ≡ Ok read.0 = subst (λ g. listed g c.args.text.now ≡ Ok read.0) c.greatest_in.ensures.value read.1 in
    IfOk-weaker c.completion_report.result _ _
    (λ r h. subst (λ (x : Result (List Cube) IcnfFault). PrintsCompletion F x r) (sym is) (h read.0 read.2.same)) c.completion_report.ensures

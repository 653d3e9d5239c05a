use Rattle.std.proofs.Common.{Option, IfOk, sym, subst}
use Rattle.commands.specs.Join.{IsStored}
use Rattle.commands.specs.declared.drafts.Target.{Target}
use Rattle.formula_search.specs.Decisions.{DecidesTo}
use Rattle.commands.proofs.decide.search.Goals as goal

pub returns-in-Some-clause-decides : goal.returns-in-Some-clause-decides
returns-in-Some-clause-decides g c =
    let F = c.args.formula.now in
    let asked = c.args.files.now.asked in
    let P : Option Target → Type 0 = λ o. IfOk c.end_search.result (DecidesTo F asked (IsStored g.D.Drafts.kept c.args.disk.now c.end_search.new.disk o)) in
    subst P (sym c.in-Some.is) (c.end_search.ensures.decides F asked c.search_to_file-searched.ensures.decides)

use Rattle.std.proofs.Common.{◌∙◌, inr, sym}
use Rattle.icnf.proofs.TreeBodyLemmas.{taken_mark, taken_number, taken_bad}
use Rattle.icnf.proofs.tree_body.TreeBody.read_found.Goals as goal

pub returns-in-Some : goal.returns-in-Some
returns-in-Some c = λ word more is found.
    taken_number c.args.formula.now.clauses c.args.line word c.args.self.now _ _ c.in-Some.number (sym c.in-Some.is ∙ found) c.read_number.ensures

pub returns-in-None : goal.returns-in-None
returns-in-None c = λ word more is found.
    taken_mark c.args.formula.now.clauses c.args.line word c.args.self.now _ _ (sym (c.begins_with_mark.ensures word more is) ∙ c.if-begins_with_mark.true) c.read_mark.ensures

pub returns-in-None-2 : goal.returns-in-None-2
returns-in-None-2 c = λ word more is found.
    inr (taken_bad c.args.formula.now.clauses c.args.line word c.args.self.now (sym (c.begins_with_mark.ensures word more is) ∙ c.if-begins_with_mark.false) (sym c.in-None.is ∙ found))

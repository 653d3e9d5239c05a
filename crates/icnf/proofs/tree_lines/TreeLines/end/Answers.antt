use Rattle.std.proofs.Common.{◌∙◌, ap, subst}
use Rattle.icnf.specs.inner.Lines.{IsKept}
use Rattle.icnf.specs.inner.TreeBody.{told_of}
use Rattle.icnf.proofs.PieceLemmas.{body_tells, front_tells}
use Rattle.icnf.proofs.tree_lines.TreeLines.end.Goals as goal

pub returns-in-Some : goal.returns-in-Some
returns-in-Some c = λ s is.
    body_tells c.args.self.limits c.args.self.formula c.args.self.count s c.in-Some.body c.told_of.result (subst (IsKept c.args.self.formula s) c.in-Some.is is) (c.told_of.ensures ∙ ap told_of c.finish.ensures)

pub returns : goal.returns
returns c = λ s is. front_tells c.args.self.limits c.args.self.formula c.args.self.count s (subst (IsKept c.args.self.formula s) c.in-None.is is)

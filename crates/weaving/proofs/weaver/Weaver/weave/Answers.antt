use Rattle.std.proofs.Common.{◌∙◌, ap}
use Rattle.weaving.proofs.TextLemmas.{closes_on, keeps_on}
use Rattle.weaving.proofs.weaver.Weaver.weave.Goals as goal

pub returns-then-branch-clause-woven : goal.returns-then-branch-clause-woven
returns-then-branch-clause-woven g c = keeps_on c.args.self.now.text c.lines.self.text c.weave_line.new.self.text c.lines.invariant.0 c.in_ok-weave_line.ensures.woven

pub returns-then-branch-clause-closes : goal.returns-then-branch-clause-closes
returns-then-branch-clause-closes g c = λ ended.
    closes_on c.lines.self.cube.items c.args.self.now.cube.items c.args.self.now.text c.lines.self.text c.weave_line.new.self.text (ap (λ v. v.items) c.lines.invariant.1) c.lines.invariant.0
    (c.in_ok-weave_line.ensures.closes c.if-branch.true)

pub lines-preserved : goal.lines-preserved
lines-preserved g c = (keeps_on c.args.self.now.text c.lines.self.text c.weave_line.new.self.text c.lines.invariant.0 c.in_ok-weave_line.ensures.woven, c.weave_line.ensures.cube ∙ c.lines.invariant.1)

pub returns-then-len-ge-BLOCK-clause-woven : goal.returns-then-len-ge-BLOCK-clause-woven
returns-then-len-ge-BLOCK-clause-woven g c = keeps_on c.args.self.now.text c.lines.self.text c.weave_line.new.self.text c.lines.invariant.0 c.in_ok-weave_line.ensures.woven

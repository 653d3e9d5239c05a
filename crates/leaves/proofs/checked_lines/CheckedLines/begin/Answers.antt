use Rattle.std.proofs.Common.{◌++◌}
use Rattle.leaves.proofs.LineLemmas.{begun_behind}
use Rattle.leaves.proofs.checked_lines.CheckedLines.begin.Goals as goal

pub returns : goal.returns
returns c = λ F cubes logs written h. (
  record {
    within = c.begin-2.ensures F cubes logs (written ++ c.args.self.now.out.items) h.between;
    after = begun_behind F c.begin.new.self (c.begin.ensures.begun F h.stands) (c.begin.ensures.stands F h.stands);
  },
  c.begin.ensures.begun F h.stands,
)

use Rattle.std.proofs.Common.{true, ap, ◌∙◌, set}
use Rattle.conflict_analysis.proofs.seen.Seen.insert.Goals as goal

pub returns : goal.returns
returns c = c.insert_at.ensures ∙ ap (λ u. set c.args.self.now u true) c.number.ensures.value

use Rattle.std.proofs.Common.{true, ap, ◌∙◌, set}
use Rattle.conflict_analysis.proofs.StampLemmas.{stamped_set}
use Rattle.conflict_analysis.proofs.seen.Seen.insert_at.Goals as goal

pub returns : goal.returns
returns c = stamped_set c.self.inside.stamps.items c.self.inside.stamp c.args.row ∙ ap (λ xs. set xs c.args.row true) c.self.view_is

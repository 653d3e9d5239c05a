use Rattle.std.proofs.Common.{◌∙◌}
use Rattle.links.proofs.LinkedLemmas.{missing_at, none_missing}
use Rattle.links.proofs.coordinator_ends.CoordinatorEnds.lacks.Goals as goal

pub returns-in-Some : goal.returns-in-Some
returns-in-Some g c =
    let p = c.in-Some.ensures.place in
    missing_at c.args.self.now.ends.items c.index.result.now c.args.worker c.in-Some.place c.len.result c.is_none.result (c.len.ensures ∙ c.args.self.now.ends.ok.0) p.0 p.1 c.index.ensures c.is_none.ensures

pub returns-in-None : goal.returns-in-None
returns-in-None g c = none_missing c.args.self.now.ends.items c.args.worker c.len.result (c.len.ensures ∙ c.args.self.now.ends.ok.0) c.in-None.ensures.none

use Rattle.std.proofs.Common.{◌∙◌}
use Rattle.sessions.proofs.SetLemmas.{found}
use Rattle.sessions.proofs.numbers.find.Goals as goal

pub returns : goal.returns
returns c = c.is_ok.ensures.value ∙ found c.args.numbers.now c.args.number c.binary_search.result c.requires c.binary_search.ensures.position

use Rattle.weaving.proofs.TextLemmas.{closing_closes}
use Rattle.weaving.proofs.weaver.Weaver.closes.Goals as goal

pub returns : goal.returns
returns g c = closing_closes c.args.self.now.text c.closing_number.result c.args.cube.now c.has_closing.result c.has_closing.ensures

use Rattle.weaving.proofs.TextLemmas.{on_line}
use Rattle.weaving.proofs.checked_text.CheckedText.add.Goals as goal

pub returns : goal.returns
returns c = on_line c.args.self.now _ c.append_made.result c.append_made.ensures

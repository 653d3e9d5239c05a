use Rattle.weaving.proofs.TextLemmas.{woven_begun}
use Rattle.weaving.proofs.checked_text.CheckedText.of.Goals as goal

pub returns : goal.returns
returns c = woven_begun c.args.formula _ c.in_ok-of.ensures.begun c.new.ensures.items

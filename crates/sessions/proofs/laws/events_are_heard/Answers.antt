use Rattle.dimacs.specs.text.Words.{lines}
use Rattle.sessions.specs.Events.{start}
use Rattle.sessions.proofs.HeardLemmas.{heard_is_read}
use Rattle.sessions.proofs.laws.events_are_heard.Goals as goal

pub returns : goal.returns
returns c = λ L text. heard_is_read 0 (lines text) (start L)

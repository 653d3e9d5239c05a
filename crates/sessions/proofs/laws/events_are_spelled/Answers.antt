use Rattle.sessions.proofs.SpellingLemmas.{read_is_spelled, spelled_is_read}
use Rattle.sessions.proofs.laws.events_are_spelled.Goals as goal

pub returns : goal.returns
returns c = λ L text E. (read_is_spelled L text E, spelled_is_read L text E)

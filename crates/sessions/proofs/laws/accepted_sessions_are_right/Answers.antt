use Rattle.sessions.proofs.SoundLemmas.{all_answered, fronts_right}
use Rattle.sessions.proofs.laws.accepted_sessions_are_right.Goals as goal

pub returns : goal.returns
returns c = record { right = λ L E text none. fronts_right L E text; all = all_answered; front = fronts_right }

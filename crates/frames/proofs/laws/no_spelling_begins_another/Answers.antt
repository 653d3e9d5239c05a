use Rattle.frames.proofs.Payloads.{same_frame}
use Rattle.frames.proofs.laws.no_spelling_begins_another.Goals as goal

pub returns : goal.returns
returns c = record { same = λ f g a b r r' e. let s = same_frame f g a b r r' e in (s.value, s.rest) }

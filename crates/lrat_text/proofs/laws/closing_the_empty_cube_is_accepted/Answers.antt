use Rattle.lrat_text.proofs.LogLemmas.{closed_accepts}
use Rattle.lrat_text.proofs.laws.closing_the_empty_cube_is_accepted.Goals as goal

pub returns : goal.returns
returns c = closed_accepts

use Rattle.lrat_text.proofs.LineLemmas.{spells_more}
use Rattle.lrat_text.proofs.laws.a_greater_limit_spells_the_same.Goals as goal

pub returns : goal.returns
returns c = λ few most text steps le h. spells_more few most le text steps h

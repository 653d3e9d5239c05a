use Rattle.drat_forms.proofs.OneListLemmas.{spells_one}
use Rattle.drat_forms.proofs.laws.drat_proofs_spell_one_list.Goals as goal

pub returns : goal.returns
returns c = spells_one

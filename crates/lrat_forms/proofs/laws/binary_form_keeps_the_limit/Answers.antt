use Rattle.lrat_forms.proofs.LawLemmas.{one_limit}
use Rattle.lrat_forms.proofs.laws.binary_form_keeps_the_limit.Goals as goal

pub returns : goal.returns
returns c = one_limit

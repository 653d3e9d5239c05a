use Rattle.lrat_forms.proofs.FormLemmas.{begins}
use Rattle.lrat_forms.proofs.text_form.TextForm.within.Goals as goal

pub returns : goal.returns
returns c = begins c.args.most c.within.result c.within.ensures

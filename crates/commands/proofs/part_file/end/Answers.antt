use Rattle.std.proofs.Common.{sym, subst, Option}
use Rattle.commands.specs.inner.Parts.{IsEnded}
use Rattle.commands.proofs.PartLemmas.{ended_some}
use Rattle.commands.proofs.part_file.end.Goals as goal
use Rattle.lrat_forms.specs.declared.binary_form.BinaryForm.{BinaryForm}

pub returns-in-Ok-clause-ended : goal.returns-in-Ok-clause-ended
returns-in-Ok-clause-ended c =
    let P : Option BinaryForm → Type 0 = IsEnded in
    subst P (sym c.in-Some.is) (ended_some c.in-Some.form (c.in-Ok.ensures 199999999))

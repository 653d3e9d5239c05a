use Rattle.std.proofs.Common.{subst}
use Rattle.commands.specs.declared.trim.TrimText.{TrimText}
use Rattle.commands.specs.inner.Trim.{IsTrimming}
use Rattle.commands.proofs.TrimLemmas.{faulty_told}
use Rattle.commands.proofs.trim.finished.Goals as goal

pub returns-in-Refused-clause-tells : goal.returns-in-Refused-clause-tells
returns-in-Refused-clause-tells c = λ F proof h.
    let P : TrimText → Type 0 = IsTrimming F proof in
    let told = c.reported-in-Refused.ensures in
    faulty_told F proof c.in-Refused.faulty c.reported-in-Refused.result (subst P c.in-Refused.is h) told.text told.status told.proof told.memory

use Rattle.std.proofs.Common.{None, refl}
use Rattle.commands.proofs.ModelLemmas.{tests_of}
use Rattle.commands.proofs.model.finished.Goals as goal

pub returns-in-Ok-clause-tests : goal.returns-in-Ok-clause-tests
returns-in-Ok-clause-tests c = λ F bytes h.
    tests_of F c.args.check.formula bytes c.in-Ok.found (record { stdout = c.in-Ok.found.text; status = c.in-Ok.found.status; proof = None })
    h.formula (c.in-Ok.ensures bytes h.read) refl refl refl

use Rattle.commands.proofs.ElaborateLemmas.{tells_of}
use Rattle.commands.proofs.elaborate.elaborated.Goals as goal

pub returns-clause-tells : goal.returns-clause-tells
returns-clause-tells g c =
    let told = c.told.ensures in
    tells_of c.args.formula c.in_ok-found.found c.told.result c.in_ok-found.ensures.accepted told.text told.status told.proof

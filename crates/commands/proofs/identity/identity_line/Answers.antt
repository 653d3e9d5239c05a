use Rattle.std.proofs.lemmas.Result.{IfOk-weaker}
use Rattle.commands.specs.Identity.{TellsIdentity}
use Rattle.commands.proofs.IdentityLemmas.{if_ok_of_digest, of_unread}
use Rattle.commands.proofs.identity.identity_line.Goals as goal

pub returns-in-Ok-clause-tells : goal.returns-in-Ok-clause-tells
returns-in-Ok-clause-tells g c =
    let known = g.D.Disk.holds c.args.disk.now c.args.program.now in
    let note = g.D.Disk.holds c.args.disk.now c.args.note.now in
    if_ok_of_digest c.told_of.result (λ line. line.items) known note c.in-Ok.digest c.in-Ok.ensures.digest c.told_of.ensures.tells

pub returns-in-Err : goal.returns-in-Err
returns-in-Err g c =
    let known = g.D.Disk.holds c.args.disk.now c.args.program.now in
    let note = g.D.Disk.holds c.args.disk.now c.args.note.now in
    record {
      tells = IfOk-weaker c.unknown.result _ (λ line. TellsIdentity known note line.items) (λ line h. of_unread known note line.items h) c.unknown.ensures.text;
      refused = c.unknown.ensures.refused;
    }

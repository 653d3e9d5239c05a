use Rattle.std.proofs.Common.{Some, ◌∙◌, ap}
use Rattle.std.proofs.lemmas.Result.{IfOk-weaker}
use Rattle.commands.specs.Cover.{most_bytes}
use Rattle.commands.specs.Identity.{TellsIdentity, identity_text}
use Rattle.commands.proofs.IdentityLemmas.{of_note, of_unread, whole_is}
use Rattle.commands.proofs.identity.told_of.Goals as goal

pub returns-in-Whole-clause-tells : goal.returns-in-Whole-clause-tells
returns-in-Whole-clause-tells g c = λ program e.
    let note = g.D.Disk.holds c.args.disk.now c.args.note.now in
    let digest = c.args.digest.now in
    let text = whole_is note c.in_ok-text.field-0 c.in-Whole.is c.in_ok-text.ensures.reads in
    let same = ap (λ t. identity_text t digest) c.as_slice.ensures.value in
    IfOk-weaker c.told_by.result _ (λ line. TellsIdentity (Some program) note line.items)
    (λ line h. of_note note line.items c.in-Whole.text.items digest program most_bytes text e (h ∙ same)) c.told_by.ensures.text

pub returns-in_default : goal.returns-in_default
returns-in_default g c =
    let note = g.D.Disk.holds c.args.disk.now c.args.note.now in
    record {
      tells = λ program e. IfOk-weaker c.unknown.result _ (λ line. TellsIdentity (Some program) note line.items) (λ line h. of_unread (Some program) note line.items h) c.unknown.ensures.text;
      refused = c.unknown.ensures.refused;
    }

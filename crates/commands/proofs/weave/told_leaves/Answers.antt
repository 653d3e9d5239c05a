use Rattle.std.proofs.Common.{refl}
use Rattle.commands.proofs.WeaveLemmas.{told_as}
use Rattle.commands.proofs.weave.told_leaves.Goals as goal

pub returns : goal.returns
returns g c = λ F handed woven.
    told_as c.args.weaver.now c.args.tree.now c.args.notes.items c.put_leaves.new.out.items c.in_ok-status.status _ c.in_ok-status.ensures (record { status_is = refl; text_is = refl; no_proof = refl }) F handed woven

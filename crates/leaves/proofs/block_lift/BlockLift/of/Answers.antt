use Rattle.std.proofs.Common.{◌≡◌, List, [], ◌∙◌, ap, subst}
use Rattle.std.specs.Prelude.{IfOk}
use Rattle.icnf.specs.Leaves.{Cube}
use Rattle.leaves.specs.BlockLift.{HasTakenBlock, part_of}
use Rattle.leaves.proofs.BlockReportLemmas.{whole_part}
use Rattle.leaves.proofs.block_lift.BlockLift.of.Goals as goal

pub returns : goal.returns
returns c =
    let F = c.args.split.formula in
    let tree = c.args.split.tree in
    let whole : part_of tree 0 c.leaves-leaves.result ≡ tree = ap (part_of tree 0) c.leaves-leaves.ensures.value ∙ whole_part tree in
    subst (λ (qs : List Cube). IfOk c.begin.result (HasTakenBlock F 0 qs [] [])) whole c.begin.ensures

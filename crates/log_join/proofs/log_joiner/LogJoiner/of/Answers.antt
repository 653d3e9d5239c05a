use Rattle.std.proofs.Common.{◌≤◌, sym, arith}
use Rattle.log_join.proofs.TreeLemmas.{open_all, placed_low, placed_wider}
use Rattle.log_join.proofs.WrittenLemmas.{whole_part, nothing_written}
use Rattle.log_join.proofs.log_joiner.LogJoiner.of.Goals as goal

pub index_of-requires : goal.index_of-requires
index_of-requires c =
    let n = c.in_ok-node.ensures.next (whole_part c.args.tree.now c.leaves.ensures.valid.leaves) in
    let v = c.leaves.ensures.value in
    let l = c.leaves.ensures.limit in
    placed_low 0 c.grow.new.next c.in_ok-node.node c.in_ok-node.ensures.placed (omega arith)

pub returns : goal.returns
returns c = λ F vars count.
    let n = c.in_ok-node.ensures.next (whole_part c.args.tree.now c.leaves.ensures.valid.leaves) in
    let v = c.leaves.ensures.value in
    let l = c.leaves.ensures.limit in
    let low : c.grow.new.next ≤ 65536 = omega arith in
    nothing_written F c.args.tree.now _ vars (c.in_ok-node.ensures.made (whole_part c.args.tree.now c.leaves.ensures.valid.leaves))
    (record {
      placed = placed_wider 0 c.grow.new.next 65536 c.in_ok-node.node low c.in_ok-node.ensures.placed;
      covered = c.in_ok-index.ensures;
      left = open_all c.in_ok-unclosed.unclosed.items 0 c.grow.new.next c.in_ok-node.node c.in_ok-node.ensures.placed (λ p below. c.in_ok-unclosed.ensures.all p (omega arith));
    })
    (sym count) (sym count) c.new.ensures.items

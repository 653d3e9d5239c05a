use Rattle.std.proofs.Common.{◌≡◌, ◌⊎◌, ◌<◌, length, arith, inl, inr}
use Rattle.leaves.specs.Leaf.{no_leaf_text}
use Rattle.leaves.proofs.LineLemmas.{if_if}
use Rattle.leaves.proofs.LookaheadLemmas.{cut_at, no_cut}
use Rattle.leaves.proofs.SplitLemmas.{prints_of}
use Rattle.leaves.proofs.lookahead_split.run_split_by_look.Goals.{then-leaf-eq0-via-then-leaf-eq0, then-leaf-eq0-via-else-leaf-eq0+then-leaf-leaves}
use Rattle.leaves.proofs.lookahead_split.run_split_by_look.Goals as goal

pub returns : goal.returns
returns c = if_if c.halves.result _ _ (λ r printed.
    cut_at c.args.split.formula c.args.split.tree c.args.leaf r (omega (arith, c.if-leaf-eq0.false)) (omega (arith, c.leaves.ensures.value)) printed) c.halves.ensures

pub halves-requires : goal.halves-requires
halves-requires c = record {
  place = omega (arith, c.if-leaf-eq0.false, c.if-leaf-leaves.false, c.leaves.ensures.value);
  within = c.args.split.among;
}

pub returns-then-leaf-eq0 : goal.returns-then-leaf-eq0
returns-then-leaf-eq0 c =
    let never : (c.args.leaf ≡ 0) ⊎ (length c.args.split.tree < c.args.leaf) = elim c.then-leaf-eq0.branch [
      | then-leaf-eq0-via-then-leaf-eq0 w ↦ inl w.if-leaf-eq0.true
      | then-leaf-eq0-via-else-leaf-eq0+then-leaf-leaves w ↦ inr (omega (arith, w.if-leaf-leaves.true, w.leaves.ensures.value))
    ] in
    if_if c.of.result _ _ (λ r printed. no_cut c.args.split.formula c.args.split.tree c.args.leaf r never printed)
    (prints_of c.of.result 1 no_leaf_text c.of.ensures.text c.of.ensures.status c.of.ensures.proof)

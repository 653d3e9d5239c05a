use Rattle.std.proofs.Common.{◌≡◌, ◌<◌, ◌+◌, ◌-◌, ◌∙◌, sym, ap, false, drop, length, arith}
use Rattle.dimacs.specs.logic.Propagation.{Assumed}
use Rattle.proof_lift.specs.TrimmedLemma.{used}
use Rattle.proof_lift.specs.inner.Images.{images_of}
use Rattle.proof_lift.specs.inner.Walks.{passed_by}
use Rattle.proof_lift.proofs.ChainLemmas.{chain_at, unit_at, used_skip, kept_skip}
use Rattle.proof_lift.proofs.lemma_trim.trim.Goals as goal

pub is_marked-requires : goal.is_marked-requires
is_marked-requires c =
    let below : c.loop-i.i - 1 < length c.args.chain.now = omega (arith, c.loop-i.invariant.inside, c.loop-i-test.true) in
    unit_at (length c.loop-i.marks) (images_of c.args.images.now) c.index-chain-i.result
    (chain_at (length c.args.marks.now) (length c.loop-i.marks) (images_of c.args.images.now) c.args.chain.now (c.loop-i.i - 1) c.index-chain-i.result below c.index-chain-i.is c.requires.chain (c.loop-i.auto.marks ∙ c.mark_negations.ensures.places))

pub keep_hint-number-requires-clause-table : goal.keep_hint-number-requires-clause-table
keep_hint-number-requires-clause-table c =
    let below : c.loop-i.i - 1 < length c.args.chain.now = omega (arith, c.loop-i.invariant.inside, c.loop-i-test.true) in
    chain_at (length c.args.marks.now) (length c.loop-i.marks) (images_of c.args.images.now) c.args.chain.now (c.loop-i.i - 1) c.index-chain-i.result below c.index-chain-i.is c.requires.chain (c.loop-i.auto.marks ∙ c.mark_negations.ensures.places)

pub loop-i-preserved : goal.loop-i-preserved
loop-i-preserved c =
    let T = images_of c.args.images.now in
    let chain = c.args.chain.now in
    let i = c.loop-i.i in
    let j = i - 1 in
    let link = c.index-chain-i.result in
    let conflict = c.args.conflict.clause.now in
    let below : j < length chain = omega (arith, c.loop-i.invariant.inside, c.loop-i-test.true) in
    let next : j + 1 ≡ i = omega (arith, c.loop-i-test.true) in
    let f : used (passed_by T (drop i chain)) conflict link.unit ≡ false = sym (ap (λ (α : Assumed). α link.unit) c.loop-i.invariant.used) ∙ sym c.is_marked.ensures ∙ c.if-is_marked.false in
    record {
      inside = omega (arith, c.loop-i.invariant.inside);
      numbers = c.loop-i.invariant.numbers ∙ kept_skip T chain i j link conflict c.args.conflict.number next below c.index-chain-i.is f;
      used = c.loop-i.invariant.used ∙ used_skip T chain i j link conflict next below c.index-chain-i.is f;
      below = c.loop-i.invariant.below;
    }

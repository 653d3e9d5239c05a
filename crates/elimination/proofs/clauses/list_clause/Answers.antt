use Rattle.std.proofs.Common.{◌<◌, length, ap, arith}
use Rattle.std.proofs.lemmas.List.{length-map}
use Rattle.dimacs.specs.logic.Literal.{index_of}
use Rattle.elimination.specs.inner.Indexed.{lists_in}
use Rattle.elimination.proofs.IndexLemmas.{lists_with_vector}
use Rattle.elimination.proofs.clauses.list_clause.Goals as goal

pub loop-l-preserved : goal.loop-l-preserved
loop-l-preserved c =
    let old = c.args.occurs.now.items in
    let vs = c.loop-l.occurs.items in
    let h : c.loop-l.l-index < length c.args.clause.now = c.loop-l-test.true in
    let b : c.index.result < length vs = omega (
      arith,
      c.requires c.loop-l.l-index c.l-item.result h,
      ap index_of c.l-item.is,
      c.index.ensures.value,
      c.loop-l.invariant.lists,
      length-map vs (λ v. v.items),
      length-map old (λ v. v.items),
    ) in
    lists_with_vector (lists_in old) vs c.index_mut.result.now c.push.new.self c.args.clause.now c.l-item.result c.loop-l.l-index c.index.result c.args.i h c.l-item.is
    c.index.ensures.value b c.index_mut.ensures.value c.in_ok-push.ensures.items c.loop-l.invariant

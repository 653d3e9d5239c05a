use Rattle.std.proofs.Common.{◌≡◌, ◌+◌, ◌-◌, ◌/◌, refl, ◌∙◌, subst, arith}
use Rattle.decide_heap.specs.inner.Heap.{tables_of, IsOrderedFrom}
use Rattle.decide_heap.proofs.MoveLemmas.{unmoved, moved_on, same_len}
use Rattle.decide_heap.proofs.OrderLemmas.{ordered_leaves}
use Rattle.decide_heap.proofs.rows.Rows.heapify.Goals as goal

pub loop-at-init : goal.loop-at-init
loop-at-init c =
    let t = tables_of c.args.self.now in
    record {
      within = omega arith;
      moved = unmoved t;
      rows = c.requires;
      ordered = ordered_leaves t.scores t.heap t.len (t.len / 2) refl;
      beyond = λ k lt. refl;
    }

pub sift_down-requires : goal.sift_down-requires
sift_down-requires c =
    let l = c.loop-at in
    let i = l.invariant in
    let same = same_len (tables_of c.args.self.now) (tables_of l.self) i.moved in
    let next : l.at ≡ l.at - 1 + 1 = omega (arith, c.loop-at-test.true) in
    record {
      within = omega (arith, i.rows.size, i.rows.count, i.within, same);
      rows = i.rows;
      ordered = subst (λ n. IsOrderedFrom (tables_of l.self) n) next i.ordered;
    }

pub loop-at-preserved : goal.loop-at-preserved
loop-at-preserved c =
    let l = c.loop-at in
    let i = l.invariant in
    let e = c.sift_down.ensures in
    let old = tables_of c.args.self.now in
    let t = tables_of l.self in
    record {
      within = omega (arith, i.within);
      moved = moved_on old t (tables_of c.sift_down.new.self) i.moved e.moved;
      rows = e.rows;
      ordered = e.ordered;
      beyond = λ k lt. e.beyond k (omega (arith, same_len old t i.moved)) ∙ i.beyond k lt;
    }

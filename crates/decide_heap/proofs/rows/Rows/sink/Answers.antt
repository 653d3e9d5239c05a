use Rattle.std.proofs.Common.{◌≡◌, ◌≢◌, ◌<◌, length, get_or, set, refl, sym, ◌∙◌, arith}
use Rattle.std.proofs.lemmas.Bool.Decides.{when_true, when_false}
use Rattle.std.proofs.lemmas.List.{get_or-set_same, get_or-set_other, get_or_read, length-set}
use Rattle.decide_heap.specs.inner.Heap.{tables_of}
use Rattle.decide_heap.proofs.MoveLemmas.{unmoved, moved_over, same_len, beside_hole, hole_rows}
use Rattle.decide_heap.proofs.OrderLemmas.{NoWorse, IsBetterChild, no_worse_at, sinking_starts, sinking_step, sinking_rests, sinking_bottom}
use Rattle.decide_heap.proofs.PairLemmas.{hole_moves}
use Rattle.decide_heap.proofs.rows.Rows.sink.Goals as goal

pub loop-at-init : goal.loop-at-init
loop-at-init c =
    let t = tables_of c.args.self.now in
    record {
      start = omega arith;
      within = c.requires.within;
      moved = unmoved t;
      rows = c.requires.rows;
      sinking = sinking_starts t.scores (set t.heap c.args.start c.args.var) t.len c.args.start c.requires.ordered;
      beyond = λ k lt. refl;
    }

pub better_child-child-requires : goal.better_child-child-requires
better_child-child-requires c =
    let l = c.loop-at in
    let r = l.invariant.rows in
    let t = tables_of l.self in
    let size = length-set t.heap l.at c.args.var in
    record {
      within = omega arith;
      size = omega (arith, size, r.size, r.count);
      limit = omega (arith, r.limit, r.count);
      variables = λ k low lt.
          let n : k ≢ l.at = omega arith in
          let lk : k < length (set t.heap l.at c.args.var) = omega (arith, r.size, r.count) in
          let small = r.paired.variable k lk in
          let same = get_or-set_other t.heap l.at k c.args.var 0 n in
          omega (arith, small, same, r.size);
    }

pub index-other-requires : goal.index-other-requires
index-other-requires c =
    let l = c.loop-at in
    let r = l.invariant.rows in
    omega (arith, c.better_child-child.ensures.within, r.size, r.count, length-set l.self.heap.items l.at c.args.var, l.self.heap.ok.0)

pub is_better-requires : goal.is_better-requires
is_better-requires c =
    let l = c.loop-at in
    let i = l.invariant in
    let r = i.rows in
    let t = tables_of l.self in
    let child = c.better_child-child.result in
    let size = length-set t.heap l.at c.args.var in
    let n : child ≢ l.at = omega (arith, c.better_child-child.ensures.low) in
    record {
      left = omega (arith, c.requires.variable, i.moved.long, r.size, size);
      right = (beside_hole t l.at child c.args.var c.index-other.result.now r (omega (arith, c.better_child-child.ensures.within, r.size, r.count, size)) n c.index-other.ensures).0;
    }

pub index_mut-requires : goal.index_mut-requires
index_mut-requires c = omega (arith, c.loop-at.invariant.within, c.loop-at.self.heap.ok.0)

pub index_mut-requires-in-loop-at : goal.index_mut-requires-in-loop-at
index_mut-requires-in-loop-at c =
    let l = c.loop-at in
    let r = l.invariant.rows in
    let t = tables_of l.self in
    let child = c.better_child-child.result in
    let size = length-set t.heap l.at c.args.var in
    let n : child ≢ l.at = omega (arith, c.better_child-child.ensures.low) in
    let low = (beside_hole t l.at child c.args.var c.index-other.result.now r (omega (arith, c.better_child-child.ensures.within, r.size, r.count, size)) n c.index-other.ensures).1 in
    omega (arith, low, l.self.places.ok.0)

pub loop-at-preserved : goal.loop-at-preserved
loop-at-preserved c =
    let l = c.loop-at in
    let i = l.invariant in
    let r = i.rows in
    let t = tables_of l.self in
    let var = c.args.var in
    let child = c.better_child-child.result in
    let other = c.index-other.result.now in
    let low = c.better_child-child.ensures.low in
    let high = c.better_child-child.ensures.high in
    let lc = c.better_child-child.ensures.within in
    let la = i.within in
    let lb : child < length t.heap = omega (arith, lc, r.size, r.count, length-set t.heap l.at var) in
    let n : l.at ≢ child = omega arith in
    let n' : child ≢ l.at = omega arith in
    let is : other ≡ get_or t.heap child 0 = get_or_read t.heap child other lb c.index-other.ensures 0 in
    let m = hole_moves t.heap t.places l.at child var other r.paired la lb n is in
    let here = get_or-set_same t.heap l.at var 0 la in
    let there = get_or-set_other t.heap l.at child var 0 n' in
    let better = no_worse_at t.scores _ _ _ _ (there ∙ sym is) here (when_false (NoWorse t.scores var other) (NoWorse t.scores other var) c.if-is_better.false c.is_better.ensures) in
    let best : IsBetterChild t.scores (set t.heap l.at var) t.len l.at child = λ k lk hk lt.
    let nk : k ≢ l.at = omega arith in
    no_worse_at t.scores _ _ _ _ there (get_or-set_other t.heap l.at k var 0 nk) (c.better_child-child.ensures.best k lk hk lt) in
    record {
      start = omega arith;
      within = omega (arith, lb, length-set t.heap l.at other);
      moved = moved_over (tables_of c.args.self.now) t (set t.heap l.at other) (set t.places other l.at) i.moved (length-set t.heap l.at other);
      rows = hole_rows t l.at child var other r la lb n is;
      sinking = sinking_step t.scores _ _ t.len c.args.start l.at child i.start low high lc m.1 best better i.sinking;
      beyond = λ k lt.
          let same = same_len (tables_of c.args.self.now) t i.moved in
          let na : k ≢ l.at = omega arith in
          let nb : k ≢ child = omega arith in
          m.1.others k na nb ∙ i.beyond k lt;
    }

pub returns-then-is_better-clause-ordered : goal.returns-then-is_better-clause-ordered
returns-then-is_better-clause-ordered c =
    let l = c.loop-at in
    let i = l.invariant in
    let r = i.rows in
    let t = tables_of l.self in
    let var = c.args.var in
    let child = c.better_child-child.result in
    let other = c.index-other.result.now in
    let low = c.better_child-child.ensures.low in
    let lc = c.better_child-child.ensures.within in
    let lb : child < length t.heap = omega (arith, lc, r.size, r.count, length-set t.heap l.at var) in
    let n' : child ≢ l.at = omega arith in
    let is : other ≡ get_or t.heap child 0 = get_or_read t.heap child other lb c.index-other.ensures 0 in
    let here = get_or-set_same t.heap l.at var 0 i.within in
    let there = get_or-set_other t.heap l.at child var 0 n' in
    let worse = no_worse_at t.scores _ _ _ _ here (there ∙ sym is) (when_true (NoWorse t.scores var other) (NoWorse t.scores other var) c.if-is_better.true c.is_better.ensures) in
    let best : IsBetterChild t.scores (set t.heap l.at var) t.len l.at child = λ k lk hk lt.
    let nk : k ≢ l.at = omega arith in
    no_worse_at t.scores _ _ _ _ there (get_or-set_other t.heap l.at k var 0 nk) (c.better_child-child.ensures.best k lk hk lt) in
    sinking_rests t.scores _ t.len c.args.start l.at child best worse i.sinking

pub returns-clause-ordered : goal.returns-clause-ordered
returns-clause-ordered c = sinking_bottom c.loop-at.self.scores.items _ c.loop-at.self.len c.args.start c.loop-at.at c.loop-at-test.false c.loop-at.invariant.sinking

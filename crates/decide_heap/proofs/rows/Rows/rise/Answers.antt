use Rattle.std.proofs.Common.{◌≡◌, ◌≢◌, ◌-◌, ◌/◌, ◌<◌, length, get_or, set, refl, sym, ◌∙◌, arith}
use Rattle.std.proofs.lemmas.Bool.Decides.{when_true, when_false}
use Rattle.std.proofs.lemmas.List.{get_or-set_same, get_or-set_other, get_or_read, length-set}
use Rattle.decide_heap.specs.inner.Heap.{tables_of}
use Rattle.decide_heap.proofs.MoveLemmas.{unmoved, moved_over, same_len, hole_in, beside_hole, hole_rows}
use Rattle.decide_heap.proofs.OrderLemmas.{NoWorse, no_worse_at, rising_step, rising_rests, rising_top}
use Rattle.decide_heap.proofs.PairLemmas.{hole_moves}
use Rattle.decide_heap.proofs.rows.Rows.rise.Goals as goal

pub loop-at-init : goal.loop-at-init
loop-at-init c = record {
  within = omega arith;
  moved = unmoved (tables_of c.args.self.now);
  rows = c.requires.rows;
  rising = λ h. h;
  beyond = λ k lt. refl;
}

pub index-other-requires : goal.index-other-requires
index-other-requires c =
    let l = c.loop-at in
    let i = l.invariant in
    let here = hole_in (tables_of c.args.self.now) (tables_of l.self) l.at c.args.var c.args.start i.moved i.rows i.within c.requires.within in
    omega (arith, here, l.self.heap.ok.0)

pub is_better-requires : goal.is_better-requires
is_better-requires c =
    let l = c.loop-at in
    let i = l.invariant in
    let t = tables_of l.self in
    let above = (l.at - 1) / 2 in
    let here = hole_in (tables_of c.args.self.now) t l.at c.args.var c.args.start i.moved i.rows i.within c.requires.within in
    let n : above ≢ l.at = omega arith in
    record {
      left = (beside_hole t l.at above c.args.var c.index-other.result.now i.rows (omega arith) n c.index-other.ensures).0;
      right = omega (arith, c.requires.variable, i.moved.long, i.rows.size, length-set t.heap l.at c.args.var);
    }

pub index_mut-requires : goal.index_mut-requires
index_mut-requires c =
    let l = c.loop-at in
    let i = l.invariant in
    let here = hole_in (tables_of c.args.self.now) (tables_of l.self) l.at c.args.var c.args.start i.moved i.rows i.within c.requires.within in
    omega (arith, here, l.self.heap.ok.0)

pub index_mut-requires-in-loop-at : goal.index_mut-requires-in-loop-at
index_mut-requires-in-loop-at c =
    let l = c.loop-at in
    let i = l.invariant in
    let t = tables_of l.self in
    let above = (l.at - 1) / 2 in
    let here = hole_in (tables_of c.args.self.now) t l.at c.args.var c.args.start i.moved i.rows i.within c.requires.within in
    let n : above ≢ l.at = omega arith in
    let low = (beside_hole t l.at above c.args.var c.index-other.result.now i.rows (omega arith) n c.index-other.ensures).1 in
    omega (arith, low, l.self.places.ok.0)

pub loop-at-preserved : goal.loop-at-preserved
loop-at-preserved c =
    let l = c.loop-at in
    let i = l.invariant in
    let old = tables_of c.args.self.now in
    let t = tables_of l.self in
    let var = c.args.var in
    let above = (l.at - 1) / 2 in
    let other = c.index-other.result.now in
    let la = hole_in old t l.at var c.args.start i.moved i.rows i.within c.requires.within in
    let lb : above < length t.heap = omega arith in
    let n : l.at ≢ above = omega arith in
    let n' : above ≢ l.at = omega arith in
    let is : other ≡ get_or t.heap above 0 = get_or_read t.heap above other lb c.index-other.ensures 0 in
    let m = hole_moves t.heap t.places l.at above var other i.rows.paired la lb n is in
    let here = get_or-set_same t.heap l.at var 0 la in
    let there = get_or-set_other t.heap l.at above var 0 n' ∙ sym is in
    let better = no_worse_at t.scores _ _ _ _ here there (when_false (NoWorse t.scores other var) (NoWorse t.scores var other) c.if-is_better.false c.is_better.ensures) in
    record {
      within = omega arith;
      moved = moved_over old t (set t.heap l.at other) (set t.places other l.at) i.moved (length-set t.heap l.at other);
      rows = hole_rows t l.at above var other i.rows la lb n is;
      rising = λ h. rising_step t.scores _ _ t.len l.at above refl (omega arith) (omega (arith, same_len old t i.moved, c.requires.within, i.within)) m.1 better (i.rising h);
      beyond = λ k lt.
          let na : k ≢ l.at = omega arith in
          let nb : k ≢ above = omega arith in
          m.1.others k na nb ∙ i.beyond k lt;
    }

pub returns-then-is_better-clause-ordered : goal.returns-then-is_better-clause-ordered
returns-then-is_better-clause-ordered c =
    let l = c.loop-at in
    let i = l.invariant in
    let t = tables_of l.self in
    let var = c.args.var in
    let above = (l.at - 1) / 2 in
    let other = c.index-other.result.now in
    let la = hole_in (tables_of c.args.self.now) t l.at var c.args.start i.moved i.rows i.within c.requires.within in
    let n' : above ≢ l.at = omega arith in
    let is : other ≡ get_or t.heap above 0 = get_or_read t.heap above other (omega arith) c.index-other.ensures 0 in
    let here = get_or-set_same t.heap l.at var 0 la in
    let there = get_or-set_other t.heap l.at above var 0 n' ∙ sym is in
    let worse = no_worse_at t.scores _ _ _ _ there here (when_true (NoWorse t.scores other var) (NoWorse t.scores var other) c.if-is_better.true c.is_better.ensures) in
    λ h. rising_rests t.scores _ t.len l.at above refl worse (i.rising h)

pub returns-clause-ordered : goal.returns-clause-ordered
returns-clause-ordered c = λ h. rising_top c.loop-at.self.scores.items _ c.loop-at.self.len c.loop-at.at c.loop-at-test.false (c.loop-at.invariant.rising h)

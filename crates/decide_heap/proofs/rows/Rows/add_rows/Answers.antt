use Rattle.std.proofs.Common.{◌≡◌, ◌∙◌, ◌-◌, ◌≤◌, ◌++◌, max, false, length, replicate, ap, arith}
use Rattle.decide_heap.specs.Decisions.{with_room}
use Rattle.decide_heap.specs.Heap.{members_of}
use Rattle.decide_heap.specs.inner.Heap.{tables_of, decisions_of}
use Rattle.decide_heap.proofs.DecisionLemmas.{same_decisions}
use Rattle.decide_heap.proofs.RowLemmas.{heap_push, members_push, one_more_copy}
use Rattle.decide_heap.proofs.rows.Rows.add_rows.Goals as goal

pub loop-row-preserved : goal.loop-row-preserved
loop-row-preserved c =
    let l = c.loop-row in
    let i = l.invariant in
    let r = i.room in
    let old = c.args.self.now in
    let heap = c.push_reserved.ensures.items in
    let places = c.push_reserved-in-loop-row.ensures.items in
    let scores = c.push_reserved-in-loop-row-2.ensures.items in
    let from : length old.scores.items ≤ l.row = omega arith in
    record {
      heap = rw (heap, places, scores) (heap_push (tables_of l.self) l.row i.heap i.row (omega arith));
      row = omega arith;
      top = omega arith;
      len = i.len;
      members = rw places (members_push l.self.places.items l.self.len l.row (omega (arith, i.heap.rows.count)) ∙ one_more_copy false (members_of old.places.items old.len) (members_of l.self.places.items l.self.len) l.row (length old.scores.items) from i.members);
      scores = rw scores (one_more_copy 0 old.scores.items l.self.scores.items l.row (length old.scores.items) from i.scores);
      room = record { heap = omega (arith, r.heap); places = omega (arith, r.places); scores = omega (arith, r.scores) };
    }

pub returns-clause-added : goal.returns-clause-added
returns-clause-added c =
    let l = c.loop-row in
    let i = l.invariant in
    let old = c.args.self.now in
    let e : l.row - length old.scores.items ≡ c.args.vars - length old.scores.items = omega arith in
    let count : length l.self.scores.items ≡ max (length old.scores.items) c.args.vars = omega (arith, i.row, i.top) in
    same_decisions (decisions_of (tables_of l.self)) (with_room (decisions_of (tables_of old)) c.args.vars) count
    (i.scores ∙ ap (λ n. old.scores.items ++ replicate n 0) e)
    (i.members ∙ ap (λ n. members_of old.places.items old.len ++ replicate n false) e)

use Rattle.std.proofs.Common.{◌≡◌, ◌∙◌, ◌+◌, ◌-◌, get_or, ap, arith}
use Rattle.decide_heap.specs.inner.Heap.{tables_of}
use Rattle.decide_heap.proofs.DecisionLemmas.{none_in, first_of_heap}
use Rattle.decide_heap.proofs.heap.DecideHeap.pop_best.Goals as goal

pub returns-then-self-eq0-clause-empty : goal.returns-then-self-eq0-clause-empty
returns-then-self-eq0-clause-empty c = rw (← c.self.view_is) (λ v above. none_in c.self.inside.rows.places.items c.self.inside.rows.len (v - 1) c.if-self-eq0.true)

pub returns-clause-best : goal.returns-clause-best
returns-clause-best c =
    let t = tables_of c.self.inside.rows in
    let is : c.new.result ≡ get_or t.heap 0 0 + 1 = c.new.ensures ∙ ap (λ n. n + 1) c.pop_first-best.ensures.first in
    rw (← c.self.view_is) (first_of_heap t c.new.result c.self.invariant (omega (arith, c.if-self-eq0.false)) is)

use Rattle.std.proofs.Common.{◌≡◌, ◌/◌, ◌∙◌, length, map, sym, ap, arith}
use Rattle.std.specs.Vec.{with_items}
use Rattle.std.proofs.lemmas.List.{with_items_is, length-map}
use Rattle.decide_heap.specs.Heap.{members_of}
use Rattle.decide_heap.specs.inner.Heap.{tables_of}
use Rattle.decide_heap.proofs.DecisionLemmas.{scores_alone}
use Rattle.decide_heap.proofs.MemberLemmas.{members_same}
use Rattle.decide_heap.proofs.MoveLemmas.{same_scores, same_len}
use Rattle.decide_heap.proofs.rows.Rows.divide_all.Goals as goal
use Rattle.decide_heap.proofs.rows.Rows.divide_all.Goals.{After-divide_each}

-- the scores as they are then
halved : (c : After-divide_each) → (with_items c.args.self.now.scores c.divide_each.new.scores).items ≡ map (λ n. n / c.args.by) c.args.self.now.scores.items
halved c =
    with_items_is c.args.self.now.scores c.divide_each.new.scores (omega (arith, c.divide_each.auto.scores, c.deref_mut.ensures.len))
    ∙ c.divide_each.ensures ∙ ap (map (λ n. n / c.args.by)) c.deref_mut.ensures.value

pub heapify-requires : goal.heapify-requires
heapify-requires c =
    let k = (goal.at.heapify-requires c).After-divide_each in
    let r = c.requires.heap.rows in
    let same : length (with_items c.args.self.now.scores c.divide_each.new.scores).items ≡ length c.args.self.now.scores.items = ap length (halved k) ∙ length-map c.args.self.now.scores.items (λ n. n / c.args.by) in
    record { limit = omega (arith, r.limit, same); size = r.size ∙ sym same; count = omega (arith, r.count, same); paired = r.paired }

pub returns-clause-heap : goal.returns-clause-heap
returns-clause-heap c = record { rows = c.heapify.ensures.rows; ordered = c.heapify.ensures.ordered }

pub returns-clause-scores : goal.returns-clause-scores
returns-clause-scores c =
    let k = (goal.at.returns-clause-scores c).After-divide_each in
    let t = tables_of c.args.self.now in
    let u = record t { scores = (with_items c.args.self.now.scores c.divide_each.new.scores).items } in
    let v = tables_of c.heapify.new.self in
    let h = c.heapify.ensures in
    scores_alone t v (map (λ n. n / c.args.by) t.scores) (length-map t.scores (λ n. n / c.args.by)) (same_scores u v h.moved ∙ halved k)
    (ap (λ n. members_of v.places n) (same_len u v h.moved) ∙ members_same t.heap t.places v.heap v.places t.len c.requires.heap.rows.paired h.rows.paired h.moved.long h.beyond)

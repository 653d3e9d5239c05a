use Rattle.std.proofs.Common.{◌≡◌, get_or, set, ◌∙◌, arith}
use Rattle.std.proofs.lemmas.List.{get_or_read, length-set}
use Rattle.decide_heap.specs.inner.Heap.{tables_of}
use Rattle.decide_heap.proofs.MoveLemmas.{unmoved, moved_over, rows_exchanged}
use Rattle.decide_heap.proofs.PairLemmas.{swapped_writes}
use Rattle.decide_heap.proofs.rows.Rows.exchange.Goals as goal

pub index_mut-requires-3 : goal.index_mut-requires-3
index_mut-requires-3 c =
    let t = tables_of c.args.self.now in
    let r = c.requires.rows in
    let b = c.index-b.result.now in
    let eb : b ≡ get_or t.heap c.args.j 0 = get_or_read t.heap c.args.j b c.requires.second c.index-b.ensures 0 in
    omega (arith, eb, r.paired.variable c.args.j c.requires.second, r.paired.long, c.args.self.now.places.ok.0)

pub index_mut-requires-4 : goal.index_mut-requires-4
index_mut-requires-4 c =
    let t = tables_of c.args.self.now in
    let r = c.requires.rows in
    let a = c.index-a.result.now in
    let ea : a ≡ get_or t.heap c.args.i 0 = get_or_read t.heap c.args.i a c.requires.first c.index-a.ensures 0 in
    omega (arith, ea, r.paired.variable c.args.i c.requires.first, r.paired.long, c.args.self.now.places.ok.0)

pub returns-clause-moved : goal.returns-clause-moved
returns-clause-moved c =
    let t = tables_of c.args.self.now in
    let a = c.index-a.result.now in
    let b = c.index-b.result.now in
    moved_over t t (set (set t.heap c.args.i b) c.args.j a) (set (set t.places b c.args.i) a c.args.j) (unmoved t)
    (length-set (set t.heap c.args.i b) c.args.j a ∙ length-set t.heap c.args.i b)

pub returns-clause-rows : goal.returns-clause-rows
returns-clause-rows c =
    let t = tables_of c.args.self.now in
    let a = c.index-a.result.now in
    let b = c.index-b.result.now in
    rows_exchanged t c.args.i c.args.j a b c.requires.rows c.requires.first c.requires.second
    (get_or_read t.heap c.args.i a c.requires.first c.index-a.ensures 0)
    (get_or_read t.heap c.args.j b c.requires.second c.index-b.ensures 0)

pub returns-clause-swapped : goal.returns-clause-swapped
returns-clause-swapped c =
    let t = tables_of c.args.self.now in
    let a = c.index-a.result.now in
    let b = c.index-b.result.now in
    swapped_writes t.heap c.args.i c.args.j a b c.requires.first c.requires.second
    (get_or_read t.heap c.args.i a c.requires.first c.index-a.ensures 0)
    (get_or_read t.heap c.args.j b c.requires.second c.index-b.ensures 0)

use Rattle.std.proofs.Common.{◌+◌, get_or, set, sym, ap, subst, ◌∙◌, arith}
use Rattle.std.proofs.lemmas.List.{get_or_read, length-set}
use Rattle.decide_heap.specs.inner.Heap.{Tables, tables_of, AreRows, IsOrderedFrom}
use Rattle.decide_heap.proofs.MoveLemmas.{filled_same, moved_over}
use Rattle.decide_heap.proofs.rows.Rows.sift_down.Goals as goal

pub sink-at-requires-clause-variable : goal.sink-at-requires-clause-variable
sink-at-requires-clause-variable c =
    let t = tables_of c.args.self.now in
    let is = get_or_read t.heap c.args.start c.index-var.result.now c.requires.within c.index-var.ensures 0 in
    omega (arith, is, c.requires.rows.paired.variable c.args.start c.requires.within)

pub sink-at-requires-clause-rows : goal.sink-at-requires-clause-rows
sink-at-requires-clause-rows c =
    let t = tables_of c.args.self.now in
    let r = c.requires.rows in
    subst AreRows (sym (filled_same t c.args.start c.index-var.result.now r c.requires.within c.index-var.ensures)) r

pub sink-at-requires-clause-ordered : goal.sink-at-requires-clause-ordered
sink-at-requires-clause-ordered c =
    let t = tables_of c.args.self.now in
    subst (λ (x : Tables). IsOrderedFrom x (c.args.start + 1)) (sym (filled_same t c.args.start c.index-var.result.now c.requires.rows c.requires.within c.index-var.ensures)) c.requires.ordered

pub index_mut-requires : goal.index_mut-requires
index_mut-requires c = omega (arith, c.sink-at.ensures.within, c.sink-at.new.self.heap.ok.0)

pub index_mut-requires-2 : goal.index_mut-requires-2
index_mut-requires-2 c =
    let t = tables_of c.args.self.now in
    let r = c.requires.rows in
    let u = tables_of c.sink-at.new.self in
    let s = c.sink-at.ensures.rows in
    let is = get_or_read t.heap c.args.start c.index-var.result.now c.requires.within c.index-var.ensures 0 in
    let var = c.index-var.result.now in
    omega (arith, is, r.paired.variable c.args.start c.requires.within, c.sink-at.ensures.moved.long, s.paired.long, length-set u.heap c.sink-at.result var, length-set u.places var c.sink-at.result, c.sink-at.new.self.places.ok.0)

pub returns-clause-moved : goal.returns-clause-moved
returns-clause-moved c =
    let u = tables_of c.sink-at.new.self in
    let var = c.index-var.result.now in
    let at = c.sink-at.result in
    moved_over (tables_of c.args.self.now) u (set u.heap at var) (set u.places var at) c.sink-at.ensures.moved (length-set u.heap at var)

pub returns-clause-rows : goal.returns-clause-rows
returns-clause-rows c = c.sink-at.ensures.rows

pub returns-clause-ordered : goal.returns-clause-ordered
returns-clause-ordered c = c.sink-at.ensures.ordered

pub returns-clause-beyond : goal.returns-clause-beyond
returns-clause-beyond c = λ k lk.
    let t = tables_of c.args.self.now in
    c.sink-at.ensures.beyond k lk ∙ ap (λ (x : Tables). get_or x.heap k 0) (filled_same t c.args.start c.index-var.result.now c.requires.rows c.requires.within c.index-var.ensures)

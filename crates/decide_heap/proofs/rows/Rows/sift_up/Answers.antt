use Rattle.std.proofs.Common.{◌<◌, length, get_or, set, sym, ap, subst, ◌∙◌, arith}
use Rattle.std.proofs.lemmas.List.{get_or_read, length-set}
use Rattle.decide_heap.specs.inner.Heap.{Tables, tables_of, AreRows, IsRisingAt}
use Rattle.decide_heap.proofs.MoveLemmas.{filled_same, moved_over}
use Rattle.decide_heap.proofs.rows.Rows.sift_up.Goals as goal

pub index-var-requires : goal.index-var-requires
index-var-requires c = omega (arith, c.requires.within, c.requires.rows.size, c.requires.rows.count, c.args.self.now.heap.ok.0)

pub rise-at-requires-clause-variable : goal.rise-at-requires-clause-variable
rise-at-requires-clause-variable c =
    let t = tables_of c.args.self.now in
    let r = c.requires.rows in
    let lt : c.args.start < length t.heap = omega (arith, c.requires.within, r.size, r.count) in
    let is = get_or_read t.heap c.args.start c.index-var.result.now lt c.index-var.ensures 0 in
    omega (arith, is, r.paired.variable c.args.start lt)

pub rise-at-requires-clause-rows : goal.rise-at-requires-clause-rows
rise-at-requires-clause-rows c =
    let t = tables_of c.args.self.now in
    let r = c.requires.rows in
    let lt : c.args.start < length t.heap = omega (arith, c.requires.within, r.size, r.count) in
    subst AreRows (sym (filled_same t c.args.start c.index-var.result.now r lt c.index-var.ensures)) r

pub index_mut-requires : goal.index_mut-requires
index_mut-requires c =
    let r = c.requires.rows in
    omega (arith, c.rise-at.ensures.within, c.requires.within, r.size, r.count, c.rise-at.ensures.moved.long, c.rise-at.new.self.heap.ok.0)

pub index_mut-requires-2 : goal.index_mut-requires-2
index_mut-requires-2 c =
    let t = tables_of c.args.self.now in
    let r = c.requires.rows in
    let u = tables_of c.rise-at.new.self in
    let s = c.rise-at.ensures.rows in
    let lt : c.args.start < length t.heap = omega (arith, c.requires.within, r.size, r.count) in
    let is = get_or_read t.heap c.args.start c.index-var.result.now lt c.index-var.ensures 0 in
    let var = c.index-var.result.now in
    omega (arith, is, r.paired.variable c.args.start lt, c.rise-at.ensures.moved.long, s.paired.long, length-set u.heap c.rise-at.result var, length-set u.places var c.rise-at.result, c.rise-at.new.self.places.ok.0)

pub returns-clause-moved : goal.returns-clause-moved
returns-clause-moved c =
    let u = tables_of c.rise-at.new.self in
    let var = c.index-var.result.now in
    let at = c.rise-at.result in
    moved_over (tables_of c.args.self.now) u (set u.heap at var) (set u.places var at) c.rise-at.ensures.moved (length-set u.heap at var)

pub returns-clause-rows : goal.returns-clause-rows
returns-clause-rows c = c.rise-at.ensures.rows

pub returns-clause-ordered : goal.returns-clause-ordered
returns-clause-ordered c =
    let t = tables_of c.args.self.now in
    let r = c.requires.rows in
    let lt : c.args.start < length t.heap = omega (arith, c.requires.within, r.size, r.count) in
    λ h. c.rise-at.ensures.ordered (subst (λ (x : Tables). IsRisingAt x c.args.start) (sym (filled_same t c.args.start c.index-var.result.now r lt c.index-var.ensures)) h)

pub returns-clause-beyond : goal.returns-clause-beyond
returns-clause-beyond c = λ k lk.
    let t = tables_of c.args.self.now in
    let r = c.requires.rows in
    let lt : c.args.start < length t.heap = omega (arith, c.requires.within, r.size, r.count) in
    c.rise-at.ensures.beyond k lk ∙ ap (λ (x : Tables). get_or x.heap k 0) (filled_same t c.args.start c.index-var.result.now r lt c.index-var.ensures)

use Rattle.std.proofs.Common.{arith, ◌≡◌, ◌<◌, refl, length}
use Rattle.std.proofs.lemmas.List.{with_items_is}
use Rattle.dimacs.specs.logic.Literal.{index_of}
use Rattle.cube_split.proofs.WalkLemmas.{entered_by, walk_counted, index_fits}
use Rattle.cube_split.proofs.walk.Walk.enter.Goals as goal

pub close-requires-clause-counted : goal.close-requires-clause-counted
close-requires-clause-counted c =
    rw (c.deref_mut-2.ensures.value, c.deref_mut.ensures.value) (walk_counted c.requires.0 c.requires.1 c.requires.2 c.args.self.now c.requires.3)

pub returns : goal.returns
returns c = λ f units trail h.
    let inside : index_of c.args.literal < length c.args.self.now.marks.items = index_fits c.args.literal c.requires.0.vars (length c.args.self.now.counts.items) (length c.args.self.now.marks.items) c.requires.4 c.requires.3.rows c.requires.3.marks in
    let index : c.index.result ≡ index_of c.args.literal = c.index.ensures.value in
    let closed = with_items_is c.args.self.now.closed c.close.new.closed (omega (arith, c.close.auto.closed, c.deref_mut.ensures.len)) in
    let counts = with_items_is c.args.self.now.counts c.close.new.counts (omega (arith, c.close.auto.counts, c.deref_mut-2.ensures.len)) in
    entered_by f units trail c.args.literal c.args.self.now _ c.deref_mut.result.now c.deref_mut-2.result.now c.close.new.closed c.close.new.counts h inside refl refl refl (rw index refl) c.deref_mut.ensures.value c.deref_mut-2.ensures.value closed counts c.close.ensures.turned c.close.auto.counts c.close.ensures.counted

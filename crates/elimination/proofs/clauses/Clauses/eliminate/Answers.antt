use Rattle.std.proofs.Common.{◌<◌, ◌∙◌, true, set, sym, ap, subst, arith}
use Rattle.dimacs.specs.logic.Literal.{Pos, Neg, IsWithin, index_of}
use Rattle.elimination.specs.inner.Indexed.{lists_in, AreIndexed, AreRetired}
use Rattle.elimination.proofs.IndexLemmas.{held_below, read_within, eliminated, eliminated_active}
use Rattle.elimination.proofs.clauses.Clauses.eliminate.Goals as goal

pub retire-requires : goal.retire-requires
retire-requires c =
    let s = c.args.self.now in
    let v = c.args.var in
    let h = c.requires.indexed.stored in
    let w : IsWithin s.all.vars (Pos v) = (omega (arith, c.number.ensures.value, c.number.ensures.above), c.requires.within) in
    let first = read_within s.all.vars s.occurs.items (Pos v) c.index.result c.index-2.result.now c.deref.result.now h.lists w (c.index.ensures.value ∙ ap index_of c.positive.ensures)
    c.index-2.ensures c.deref.ensures.value in
    rw first (held_below s.all.clauses s.active.items (lists_in s.occurs.items) (Pos v) h.truths h.are_listed)

pub retire-requires-2 : goal.retire-requires-2
retire-requires-2 c =
    let s = c.args.self.now in
    let v = c.args.var in
    let h = c.requires.indexed.stored in
    let w : IsWithin s.all.vars (Neg v) = (omega (arith, c.number.ensures.value, c.number.ensures.above), c.requires.within) in
    let second = read_within s.all.vars s.occurs.items (Neg v) c.index-3.result c.index-4.result.now c.deref-2.result.now h.lists w (c.index-3.ensures.value ∙ ap index_of c.negative.ensures)
    c.index-4.ensures c.deref-2.ensures.value in
    rw (second, c.retire.ensures.truths) (held_below s.all.clauses s.active.items (lists_in s.occurs.items) (Neg v) h.truths h.are_listed)

pub returns-clause-indexed : goal.returns-clause-indexed
returns-clause-indexed c =
    let s = c.args.self.now in
    let v = c.args.var in
    let h = c.requires.indexed.stored in
    let above : 0 < v = omega (arith, c.number.ensures.value, c.number.ensures.above) in
    let lists = lists_in s.occurs.items in
    let mid = c.retire.new.active.items in
    let new = c.retire-2.new.active.items in
    let first = read_within s.all.vars s.occurs.items (Pos v) c.index.result c.index-2.result.now c.deref.result.now h.lists (above, c.requires.within)
    (c.index.ensures.value ∙ ap index_of c.positive.ensures) c.index-2.ensures c.deref.ensures.value in
    let second = read_within s.all.vars s.occurs.items (Neg v) c.index-3.result c.index-4.result.now c.deref-2.result.now h.lists (above, c.requires.within)
    (c.index-3.ensures.value ∙ ap index_of c.negative.ensures) c.index-4.ensures c.deref-2.ensures.value in
    subst (λ n. AreIndexed s.all s.literals new lists (set s.gone.items n true)) (sym c.number.ensures.value)
    (eliminated s.all s.literals s.active.items mid new lists s.gone.items v c.requires.indexed c.requires.within
    (subst (AreRetired s.active.items mid) first c.retire.ensures) (subst (AreRetired mid new) second c.retire-2.ensures))

pub returns-clause-active : goal.returns-clause-active
returns-clause-active c =
    let s = c.args.self.now in
    let v = c.args.var in
    let h = c.requires.indexed.stored in
    let above : 0 < v = omega (arith, c.number.ensures.value, c.number.ensures.above) in
    let lists = lists_in s.occurs.items in
    let mid = c.retire.new.active.items in
    let new = c.retire-2.new.active.items in
    let first = read_within s.all.vars s.occurs.items (Pos v) c.index.result c.index-2.result.now c.deref.result.now h.lists (above, c.requires.within)
    (c.index.ensures.value ∙ ap index_of c.positive.ensures) c.index-2.ensures c.deref.ensures.value in
    let second = read_within s.all.vars s.occurs.items (Neg v) c.index-3.result c.index-4.result.now c.deref-2.result.now h.lists (above, c.requires.within)
    (c.index-3.ensures.value ∙ ap index_of c.negative.ensures) c.index-4.ensures c.deref-2.ensures.value in
    eliminated_active s.all s.literals s.active.items mid new lists s.gone.items v c.requires.indexed c.requires.within
    (subst (AreRetired s.active.items mid) first c.retire.ensures) (subst (AreRetired mid new) second c.retire-2.ensures)

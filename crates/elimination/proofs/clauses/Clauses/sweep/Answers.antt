use Rattle.std.proofs.Common.{◌≡◌, ◌<◌, ◌∙◌, ℕ, Bool, false, List, length, get_or, refl, sym, ap, subst, arith}
use Rattle.std.specs.List.{filter}
use Rattle.dimacs.specs.logic.Literal.{index_of}
use Rattle.dimacs.proofs.LiteralLemmas.{index_below}
use Rattle.elimination.specs.inner.Indexed.{lists_in, list_at, AreIndexed}
use Rattle.elimination.proofs.IndexLemmas.{held_below, read_within, written_list, swept, list_here, list_other}
use Rattle.elimination.proofs.clauses.Clauses.sweep.Goals as goal

pub sweep_list-requires : goal.sweep_list-requires
sweep_list-requires c =
    let s = c.args.self.now in
    let h = c.requires.indexed.stored in
    let e = read_within s.all.vars s.occurs.items c.args.literal c.index.result c.index_mut.result.now c.index_mut.result.now.items h.lists c.requires.within c.index.ensures.value
    c.index_mut.ensures.value refl in
    rw (e, c.deref.ensures.value) (held_below s.all.clauses s.active.items (lists_in s.occurs.items) c.args.literal h.truths h.are_listed)

pub returns-clause-indexed : goal.returns-clause-indexed
returns-clause-indexed c =
    let s = c.args.self.now in
    let h = c.requires.indexed.stored in
    let new = c.sweep_list.new.list in
    let e = read_within s.all.vars s.occurs.items c.args.literal c.index.result c.index_mut.result.now c.index_mut.result.now.items h.lists c.requires.within c.index.ensures.value
    c.index_mut.ensures.value refl in
    let passes : List Bool → ℕ → Bool = λ bs i. get_or bs i false in
    let is : new.items ≡ filter (passes s.active.items) (list_at (lists_in s.occurs.items) c.args.literal) =
    subst (λ bs. new.items ≡ filter (passes bs) c.index_mut.result.now.items) c.deref.ensures.value c.sweep_list.ensures ∙ ap (filter (passes s.active.items)) e in
    let b : index_of c.args.literal < length (lists_in s.occurs.items) = omega (arith, h.lists, index_below s.all.vars c.args.literal c.requires.within) in
    subst (λ lists. AreIndexed s.all s.literals s.active.items lists s.gone.items) (sym (written_list s.occurs.items c.args.literal c.index.result new c.index.ensures.value))
    (swept s.all s.literals s.active.items (lists_in s.occurs.items) s.gone.items c.args.literal new.items c.requires.indexed b is)

pub returns-clause-swept : goal.returns-clause-swept
returns-clause-swept c =
    let s = c.args.self.now in
    let h = c.requires.indexed.stored in
    let new = c.sweep_list.new.list in
    let e = read_within s.all.vars s.occurs.items c.args.literal c.index.result c.index_mut.result.now c.index_mut.result.now.items h.lists c.requires.within c.index.ensures.value
    c.index_mut.ensures.value refl in
    let passes : List Bool → ℕ → Bool = λ bs i. get_or bs i false in
    let b : index_of c.args.literal < length (lists_in s.occurs.items) = omega (arith, h.lists, index_below s.all.vars c.args.literal c.requires.within) in
    ap (λ lists. list_at lists c.args.literal) (written_list s.occurs.items c.args.literal c.index.result new c.index.ensures.value)
    ∙ list_here (lists_in s.occurs.items) c.args.literal c.args.literal new.items b refl
    ∙ subst (λ bs. new.items ≡ filter (passes bs) c.index_mut.result.now.items) c.deref.ensures.value c.sweep_list.ensures ∙ ap (filter (passes s.active.items)) e

pub returns-clause-others : goal.returns-clause-others
returns-clause-others c l apart =
    let s = c.args.self.now in
    let new = c.sweep_list.new.list in
    ap (λ lists. list_at lists l) (written_list s.occurs.items c.args.literal c.index.result new c.index.ensures.value)
    ∙ list_other (lists_in s.occurs.items) c.args.literal l new.items apart

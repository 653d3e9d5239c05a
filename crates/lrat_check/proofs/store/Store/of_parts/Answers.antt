use Rattle.std.proofs.Common.{◌∙◌, List, subst}
use Rattle.dimacs.specs.logic.Literal.{Literal}
use Rattle.dimacs.specs.layout.Flat.{parts}
use Rattle.lrat_check.specs.inner.Store.{Tables, tables, IsFilled, IsStore}
use Rattle.lrat_check.proofs.Slots.{with_near}
use Rattle.lrat_check.proofs.Parts.{store_near, near_fits, live_near}
use Rattle.lrat_check.proofs.BlocksLemmas.{same_placed, same_live}
use Rattle.lrat_check.proofs.store.Store.of_parts.Goals as goal
use Rattle.lrat_check.proofs.store.Store.of_parts.Goals.{After-new-far}

filled : (c : After-new-far) → IsFilled c.args.literals.items c.args.places.now c.in_ok-near.near
filled c = subst (λ (ls : List Literal). IsFilled ls c.args.places.now c.in_ok-near.near) c.deref.ensures.value c.in_ok-near.ensures

abbrev made : After-new-far → Tables
made c = tables c.args.literals.items c.in_ok-near.near c.new-far.result

store : (c : After-new-far) → IsStore (made c)
store c =
    let all = filled c in
    store_near (made c) (same_placed (made c) all.slots all.same all.placed) c.new-far.ensures.places c.new-far.ensures.numbers c.new-far.ensures.slots

pub invariant_of-result : goal.invariant_of-result
invariant_of-result c = store ((goal.at.invariant_of-result c).After-new-far)

pub returns-clause-live : goal.returns-clause-live
returns-clause-live c =
    let k = (goal.at.returns-clause-live c).After-new-far in
    let all = filled k in
    let flat = with_near (made k) all.slots in
    same_live (made k) all.slots all.same (store k) (store_near flat all.placed c.new-far.ensures.places c.new-far.ensures.numbers c.new-far.ensures.slots)
    ∙ live_near flat (parts c.args.literals.items c.args.places.now) c.new-far.ensures.slots all.entries

pub returns-clause-fits : goal.returns-clause-fits
returns-clause-fits c n fits =
    let k = (goal.at.returns-clause-fits c).After-new-far in
    near_fits (made k) n (store k) c.new-far.ensures.slots fits

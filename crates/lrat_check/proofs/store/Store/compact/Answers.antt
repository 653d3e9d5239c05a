use Rattle.std.proofs.Common.{◌∙◌, List, None, ap, refl, subst, arith, option_map, slice_index_or}
use Rattle.dimacs.specs.logic.Literal.{Literal}
use Rattle.lrat_check.specs.inner.Store.{tables, tables_of, clause_at, SameClauses, AreCopied}
use Rattle.lrat_check.proofs.Slots.{live-moved}
use Rattle.lrat_check.proofs.BlocksLemmas.{copied-kept}
use Rattle.lrat_check.proofs.store.Store.compact.Goals as goal
use Rattle.lrat_check.proofs.store.Store.compact.Goals.{In_ok-copy_slots}

nears : (c : In_ok-copy_slots) → AreCopied c.self.inside.tables.literals.items c.self.inside.tables.near c.copy_slots.new.out.items c.in_ok-near.near
nears c =
    copied-kept c.self.inside.tables.literals.items c.copied.new.out.items c.copy_slots.new.out.items c.self.inside.tables.near c.in_ok-near.near c.copy_slots.ensures.kept
    (subst (λ (ls : List Literal). AreCopied ls c.self.inside.tables.near c.copied.new.out.items c.in_ok-near.near) c.deref.ensures.value c.in_ok-near.ensures.copied)

fars : (c : In_ok-copy_slots) → SameClauses c.self.inside.tables.literals.items c.self.inside.tables.far.slots.items c.copy_slots.new.out.items c.copy_slots.new.copies.items
fars c p =
    c.in_ok-copy_slots.ensures.clauses p
    ∙ ap (λ ls. option_map (clause_at ls) (slice_index_or c.deref-3.result.now p None)) c.deref-2.ensures.value
    ∙ ap (λ xs. option_map (clause_at c.self.inside.tables.literals.items) (slice_index_or xs p None)) c.deref-3.ensures.value

pub returns : goal.returns
returns c =
    let k = (goal.at.returns c).In_ok-copy_slots in
    let copied = nears k in
    let far = record c.self.inside.tables.far { slots = c.copy_slots.new.copies } in
    live-moved (tables_of c.self.inside.tables) (tables c.copy_slots.new.out.items c.in_ok-near.near far) c.self.invariant
    copied.clauses (fars k) copied.len (omega (arith, c.in_ok-copy_slots.ensures.length, c.deref-3.ensures.len)) refl (λ q. refl) copied.placed c.in_ok-copy_slots.ensures.placed
    ∙ ap (λ v. v.live) c.self.view_is

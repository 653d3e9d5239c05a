use Rattle.std.proofs.Common.{◌≡◌, ◌<◌, ◌-◌, ◌∙◌, ap, sym, subst, arith, None, get_or, set, length}
use Rattle.std.proofs.lemmas.List.{get_or_default}
use Rattle.lrat_check.specs.inner.Blocks.{places_of, IsBlock, one_slot}
use Rattle.lrat_check.proofs.BlocksLemmas.{one_some, not_some, counted_cell, set_cells, free_past}
use Rattle.lrat_check.proofs.block.Block.free.Goals as goal
use Rattle.lrat_check.proofs.block.Block.free.Goals.{then-is_some, else-is_some, After-is_some}

cell : (c : After-is_some) → c.slot.result ≡ get_or c.self.inside.cells.items c.args.place None
cell c =
    c.slot.ensures ∙ c.index.ensures
    ∙ get_or_default c.self.inside.cells.items c.args.place c.index.result.now None (omega (arith, c.if-place-len.true, c.len.ensures, c.self.inside.cells.ok))

pub overflow_sub-self : goal.overflow_sub-self
overflow_sub-self c =
    let cells = c.self.inside.cells.items in
    let is = cell ((goal.at.overflow_sub-self c).After-is_some) in
    omega (
      arith,
      counted_cell c.self.inside.live cells c.args.place c.self.invariant (omega (arith, c.if-place-len.true, c.len.ensures, c.self.inside.cells.ok)),
      ap one_slot is,
      one_some c.slot.result (sym c.is_some.ensures ∙ c.if-is_some.true),
    )

pub invariant_of-self : goal.invariant_of-self
invariant_of-self c =
    let r = c.self.inside in
    let lt : c.args.place < length r.cells.items = omega (arith, c.if-place-len.true, c.len.ensures, r.cells.ok) in
    let is = cell ((goal.at.invariant_of-self c).After-is_some) in
    let most = counted_cell r.live r.cells.items c.args.place c.self.invariant lt in
    elim c.if-is_some.branch [
      | then-is_some w ↦
          subst (λ t. IsBlock t.live (places_of (set t.cells.items c.args.place c.free.result))) (sym w.self-inside-is)
          (set_cells r.live r.cells.items c.args.place c.self.invariant lt (r.live - 1) c.free.result None c.free.ensures
          (omega (arith, most, ap one_slot is, one_some c.slot.result (sym c.is_some.ensures ∙ w.if-is_some.true))))
      | else-is_some w ↦
          subst (λ t. IsBlock t.live (places_of (set t.cells.items c.args.place c.free.result))) (sym w.self-inside-is)
          (set_cells r.live r.cells.items c.args.place c.self.invariant lt r.live c.free.result None c.free.ensures
          (omega (arith, ap one_slot is, not_some c.slot.result (sym c.is_some.ensures ∙ w.if-is_some.false))))
    ]

pub returns-else-place-len : goal.returns-else-place-len
returns-else-place-len c =
    sym c.self.view_is ∙ free_past c.self.inside.cells.items c.args.place (omega (arith, c.if-place-len.false, c.len.ensures, c.self.inside.cells.ok)) ∙ ap (λ xs. set xs c.args.place None) c.self.view_is

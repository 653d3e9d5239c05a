use Rattle.std.proofs.Common.{◌≡◌, ◌<◌, ◌+◌, ◌∙◌, ap, sym, subst, arith, None, Some, get_or, set, length, not}
use Rattle.std.proofs.lemmas.List.{get_or_default}
use Rattle.lrat_check.specs.inner.Blocks.{places_of, IsBlock, one_slot}
use Rattle.lrat_check.proofs.BlocksLemmas.{one_some, not_some, few_live, made_places, set_cells}
use Rattle.lrat_check.proofs.block.Block.put.Goals as goal
use Rattle.lrat_check.proofs.block.Block.put.Goals.{then-is_none, else-is_none, After-is_none}

cell : (c : After-is_none) → c.slot.result ≡ get_or c.make_cells.new.cells.items c.args.place None
cell c =
    let made = made_places c.self.inside.cells.items c.make_cells.new.cells.items c.self.inside.live c.self.invariant c.in_ok-make_cells.ensures.ok in
    c.slot.ensures ∙ c.index.ensures
    ∙ get_or_default c.make_cells.new.cells.items c.args.place c.index.result.now None (omega (arith, made.1, c.requires.within))

pub overflow_add-self : goal.overflow_add-self
overflow_add-self c = omega (arith, few_live c.self.inside.live _ c.self.invariant)

pub invariant_of-self-2 : goal.invariant_of-self-2
invariant_of-self-2 c =
    let r = c.self.inside in
    let cells = c.make_cells.new.cells.items in
    let made = made_places r.cells.items cells r.live c.self.invariant c.in_ok-make_cells.ensures.ok in
    let lt : c.args.place < length cells = omega (arith, made.1, c.requires.within) in
    let is = cell ((goal.at.invariant_of-self-2 c).After-is_none) in
    elim c.if-is_none.branch [
      | then-is_none w ↦
          subst (λ t. IsBlock t.live (places_of (set t.cells.items c.args.place c.of.result))) (sym w.self-inside-is)
          (set_cells r.live cells c.args.place made.0 lt (r.live + 1) c.of.result (Some c.args.slot) c.of.ensures
          (omega (arith, ap one_slot is, not_some c.slot.result (c.is_none.ensures ∙ ap not w.if-is_none.true))))
      | else-is_none w ↦
          subst (λ t. IsBlock t.live (places_of (set t.cells.items c.args.place c.of.result))) (sym w.self-inside-is)
          (set_cells r.live cells c.args.place made.0 lt r.live c.of.result (Some c.args.slot) c.of.ensures
          (omega (arith, ap one_slot is, one_some c.slot.result (c.is_none.ensures ∙ ap not w.if-is_none.false))))
    ]

use Rattle.std.proofs.Common.{◌≡◌, ◌∙◌, sym, arith}
use Rattle.std.proofs.lemmas.Bool.{eqb-true}
use Rattle.lrat_check.proofs.BlocksLemmas.{made_cells}
use Rattle.lrat_check.proofs.block.make_cells.Goals as goal

pub returns-in_ok-resize-clause-ok : goal.returns-in_ok-resize-clause-ok
returns-in_ok-resize-clause-ok c =
    let cells = c.args.cells.now in
    let none : cells.len ≡ 0 = eqb-true cells.len 0 (sym c.if-is_empty.ensures) in
    c.in_ok-resize.ensures.items
    ∙ made_cells cells.items cells.len c.free.result (omega (arith, none, cells.ok)) none c.free.ensures

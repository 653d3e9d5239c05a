use Rattle.std.proofs.Common.{◌∙◌, ◌≡◌, ◌++◌, ap, sym, arith, None, get_or, length, map, []}
use Rattle.std.proofs.lemmas.List.{get_or_past}
use Rattle.clause_arena.specs.inner.Relocation.{ref_of}
use Rattle.clause_arena.specs.inner.Slots.{near_entries}
use Rattle.clause_arena.proofs.BlocksLemmas.{none_stands, none_listed}
use Rattle.clause_arena.proofs.blocks.list_block.Goals as goal

pub returns-then-len-before-clause-same : goal.returns-then-len-before-clause-same
returns-then-len-before-clause-same c k =
    let cells = c.args.block.now.items in
    let old = c.args.refs.now in
    let new = c.list_cells.new.refs in
    let many : length new.items ≡ length old.items = omega (arith, new.ok, old.ok, c.if-len-before.true, c.len.ensures, c.len-before.ensures) in
    let listed : new.items ≡ old.items ++ map ref_of (near_entries c.args.first cells) =
    c.in_ok-list_cells.ensures ∙ ap (λ xs. old.items ++ map ref_of (near_entries c.args.first xs)) c.deref.ensures.value in
    ap (λ xs. get_or xs k None) c.new.ensures.items ∙ get_or_past [] k None (omega arith)
    ∙ sym (none_stands c.args.first cells (none_listed old.items new.items (near_entries c.args.first cells) listed many) k)

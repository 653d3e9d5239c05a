use Rattle.std.proofs.Common.{◌≡◌, ◌≤◌, ◌*◌, ◌+◌, ℕ, List, length, get_or, sym, subst, arith}
use Rattle.log_join.proofs.IndexLemmas.{append_keeps, rows_within, set_keeps, stands_still, zero_read, zeros_within}
use Rattle.log_join.proofs.index_builder.row_for.Goals as goal

pub invariant_of-index-2-clause-rows : goal.invariant_of-index-2-clause-rows
invariant_of-index-2-clause-rows c =
    let l = c.in_ok-extend_from_slice.ensures.len in
    let n = c.in_ok-slot.ensures in
    let m = c.len-fresh.ensures in
    rows_within c.args.index.now.slots.items c.args.index.now.blocks.items c.extend_from_slice.new.self.items c.args.code c.in_ok-slot.slot c.args.index.now.rows (omega arith) (omega arith)

pub invariant_of-index-2-clause-parts : goal.invariant_of-index-2-clause-parts
invariant_of-index-2-clause-parts c = λ i.
    subst (λ (xs : List ℕ). get_or xs i 0 * 16 + 16 ≤ length c.args.index.now.words.items) (sym c.in_ok-extend_from_slice.ensures.items)
    (zeros_within c.args.index.now.blocks.items 64 (length c.args.index.now.words.items) c.args.index.now.parts i)

pub returns-clause-kept : goal.returns-clause-kept
returns-clause-kept c =
    let codes = c.args.index.now.codes in
    let r = c.requires in
    let none : get_or c.args.index.now.slots.items c.args.code 0 ≡ 0 = zero_read c.args.index.now.slots.items c.args.code c.index.result.now (omega arith) c.index.ensures c.if-row-gt0.false in
    stands_still c.args.index.now _ (λ i some. set_keeps c.args.index.now.slots.items c.args.code c.in_ok-slot.slot i none some)
    (λ i some. subst (λ (xs : List ℕ). get_or xs i 0 ≡ get_or c.args.index.now.blocks.items i 0) (sym c.in_ok-extend_from_slice.ensures.items) (append_keeps c.args.index.now.blocks.items _ i some)) (λ p h. h)

use Rattle.std.proofs.Common.{◌≡◌, ℕ, List, get_or, refl, sym, subst}
use Rattle.log_join.specs.Bits.{Has}
use Rattle.log_join.proofs.IndexLemmas.{has_appended, set_keeps, stands_still, zero_read}
use Rattle.log_join.proofs.index_builder.block_for.Goals as goal

pub returns-clause-kept : goal.returns-clause-kept
returns-clause-kept c =
    let none : get_or c.args.index.now.blocks.items c.args.at 0 ≡ 0 = zero_read c.args.index.now.blocks.items c.args.at c.index.result.now c.requires c.index.ensures c.if-block-gt0.false in
    stands_still c.args.index.now _ (λ i some. refl) (λ i some. set_keeps c.args.index.now.blocks.items c.args.at c.in_ok-slot.slot i none some)
    (λ p h. subst (λ (ws : List ℕ). Has ws p) (sym c.in_ok-extend_from_slice.ensures.items) (has_appended c.args.index.now.words.items _ p h))

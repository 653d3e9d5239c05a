use Rattle.std.proofs.Common.{◌∙◌, ◌<◌, ◌%◌, ap, arith, None, Some, length, get_or, get_or-set_same, get_or-set_other, length-set}
use Rattle.clause_arena.proofs.BlocksLemmas.{somewhere, has_block, has_cell, has_short, changed_blocks, changed}
use Rattle.clause_arena.proofs.blocks.Blocks.replace.Goals as goal

pub index_mut-requires : goal.index_mut-requires
index_mut-requires c = omega (arith, has_block (λ b. b.items) _ _ c.args.place _ c.self.invariant c.self.view_is (somewhere _ c.args.place c.requires.here))

pub index_mut-requires-2 : goal.index_mut-requires-2
index_mut-requires-2 c =
    let d = c.index_mut.result.now in
    let cell = has_cell (λ b. b.items) _ _ c.args.place _ c.self.invariant c.self.view_is (somewhere _ c.args.place c.requires.here) d c.requires.here in
    omega (arith, ap (λ b. length b.items) c.index_mut.ensures.value, cell, d.ok)

pub invariant_of-self : goal.invariant_of-self
invariant_of-self c =
    let d = c.index_mut.result.now in
    let within = somewhere _ c.args.place c.requires.here in
    let short = has_short (λ b. b.items) _ _ c.args.place _ c.self.invariant c.self.view_is within d in
    changed_blocks (λ b. b.items) _ _ c.args.place _ c.self.invariant c.self.view_is within _ d
    (λ k ne. get_or-set_other d.items (c.args.place % 64) k c.of.result None ne ∙ ap (λ b. get_or b.items k None) c.index_mut.ensures.value)
    (omega (arith, length-set d.items (c.args.place % 64) c.of.result, ap (λ b. length b.items) c.index_mut.ensures.value, short))

pub returns : goal.returns
returns c =
    let d = c.index_mut.result.now in
    let within = somewhere _ c.args.place c.requires.here in
    let cell : c.args.place % 64 < length d.items =
    omega (arith, ap (λ b. length b.items) c.index_mut.ensures.value, has_cell (λ b. b.items) _ _ c.args.place _ c.self.invariant c.self.view_is within d c.requires.here) in
    changed (λ b. b.items) _ _ c.args.place _ c.self.invariant c.self.view_is within _ d
    (λ k ne. get_or-set_other d.items (c.args.place % 64) k c.of.result None ne ∙ ap (λ b. get_or b.items k None) c.index_mut.ensures.value)
    (Some c.args.slot) (get_or-set_same d.items (c.args.place % 64) c.of.result None cell ∙ c.of.ensures)

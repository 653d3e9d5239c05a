use Rattle.std.proofs.Common.{◌-◌, ◌*◌, ◌<◌, ◌≤◌, ◌^◌, ◌%◌, ◌++◌, ◌∙◌, ℕ, refl, ap, sym, subst, arith, None, map, length, get_or, set, length-set}
use Rattle.std.proofs.lemmas.List.{length-map}
use Rattle.clause_arena.specs.inner.Relocation.{ref_of}
use Rattle.clause_arena.specs.inner.Slots.{near_entries}
use Rattle.clause_arena.specs.inner.Blocks.{slots_from, IsBlocks}
use Rattle.clause_arena.proofs.BlocksLemmas.{cell_at, block_short, held_kept, held_blocks, same_slots_from, next_listed, all_listed}
use Rattle.clause_arena.proofs.blocks.Blocks.list.Goals as goal

pub loop-block-init : goal.loop-block-init
loop-block-init c =
    let old = map (λ b. b.items) c.self.inside.blocks.items in
    record {
      listed =
          ap (λ n. c.args.refs.now.items ++ map ref_of (near_entries n (slots_from old 0 (64 * (length old - 0))))) {y = c.args.first} (omega arith)
          ∙ ap (λ n. c.args.refs.now.items ++ map ref_of (near_entries c.args.first (slots_from old 0 n))) {y = 64 * length old} (omega arith);
      same = λ q. refl;
      len = refl;
      blocks = refl;
      is = c.self.invariant;
    }

pub index_mut-requires : goal.index_mut-requires
index_mut-requires c = omega (arith, c.loop-block.invariant.blocks)

pub overflow_mul-block : goal.overflow_mul-block
overflow_mul-block c =
    let vs = c.loop-block.self-inside.blocks.items in
    omega (arith, c.loop-block.invariant.is.few, length-map vs (λ b. b.items))

pub overflow_add-first : goal.overflow_add-first
overflow_add-first c =
    let vs = c.loop-block.self-inside.blocks.items in
    omega (arith, c.requires, c.loop-block.invariant.is.few, length-map vs (λ b. b.items))

pub list_block-requires : goal.list_block-requires
list_block-requires c =
    let was = c.loop-block in
    let vs = was.self-inside.blocks.items in
    let d = c.index_mut.result.now in
    let short = block_short (λ b. b.items) vs was.block (omega arith) d _ was.invariant.is in
    let within : was.block < length vs = omega arith in
    let few : length vs ≤ 2 ^ 48 = omega (arith, was.invariant.is.few, length-map vs (λ b. b.items)) in
    omega (arith, c.requires, within, few, short, ap (λ b. length b.items) c.index_mut.ensures.value)

pub invariant_of-self-in_err-list_block : goal.invariant_of-self-in_err-list_block
invariant_of-self-in_err-list_block c =
    let was = c.loop-block in
    let vs = was.self-inside.blocks.items in
    let d = c.index_mut.result.now in
    let is = c.index_mut.ensures.value in
    let short = block_short (λ b. b.items) vs was.block (omega arith) d _ was.invariant.is in
    subst (λ n. IsBlocks n (map (λ b. b.items) (set vs was.block c.list_block.new.block))) (sym was.invariant.len)
    (held_blocks (λ b. b.items) vs was.block (omega arith) d c.list_block.new.block c.self.inside.len
    (omega (arith, c.list_block.ensures.short, ap (λ b. length b.items) is, short))
    (λ q _ _. c.list_block.ensures.same (q % 64) ∙ ap (λ b. get_or b.items (q % 64) None) is)
    was.invariant.is)

pub returns-in_err-list_block-clause-same : goal.returns-in_err-list_block-clause-same
returns-in_err-list_block-clause-same c =
    let was = c.loop-block in
    let vs = was.self-inside.blocks.items in
    let new = map (λ b. b.items) (set vs was.block c.list_block.new.block) in
    let same = λ (q : ℕ). c.list_block.ensures.same (q % 64) ∙ ap (λ b. get_or b.items (q % 64) None) c.index_mut.ensures.value in
    ap (λ n. slots_from new 0 n) was.invariant.len
    ∙ same_slots_from (map (λ b. b.items) c.self.inside.blocks.items) new c.self.inside.len
    (λ q. held_kept (λ b. b.items) vs was.block (omega arith) c.index_mut.result.now c.list_block.new.block q (λ _. same q) ∙ was.invariant.same q)
    ∙ c.self.view_is

pub loop-block-preserved : goal.loop-block-preserved
loop-block-preserved c =
    let was = c.loop-block in
    let vs = was.self-inside.blocks.items in
    let d = c.index_mut.result.now in
    let is = c.index_mut.ensures.value in
    let same = λ (q : ℕ). c.list_block.ensures.same (q % 64) ∙ ap (λ b. get_or b.items (q % 64) None) is in
    let short : length d.items ≤ 64 = omega (arith, block_short (λ b. b.items) vs was.block (omega arith) d _ was.invariant.is, ap (λ b. length b.items) is) in
    record {
      listed = next_listed c.args.first (map (λ b. b.items) c.self.inside.blocks.items) was.block d.items was.refs.items c.list_block.new.refs.items _
          (omega (arith, length-map c.self.inside.blocks.items (λ b. b.items))) short
          (λ q at. sym (was.invariant.same q) ∙ cell_at (λ b. b.items) vs was.block (omega arith) d q at ∙ ap (λ b. get_or b.items (q % 64) None) (sym is))
          c.in_ok-list_block.ensures.listed was.invariant.listed;
      same = λ q. held_kept (λ b. b.items) vs was.block (omega arith) d c.list_block.new.block q (λ _. same q) ∙ was.invariant.same q;
      len = was.invariant.len;
      blocks = length-set vs was.block c.list_block.new.block ∙ was.invariant.blocks;
      is = held_blocks (λ b. b.items) vs was.block (omega arith) d c.list_block.new.block c.self.inside.len
          (omega (arith, c.list_block.ensures.short, ap (λ b. length b.items) is, short)) (λ q _ _. same q) was.invariant.is;
    }

pub invariant_of-self : goal.invariant_of-self
invariant_of-self c = subst (λ n. IsBlocks n (map (λ b. b.items) c.loop-block.self-inside.blocks.items)) (sym c.loop-block.invariant.len) c.loop-block.invariant.is

pub returns-clause-same : goal.returns-clause-same
returns-clause-same c =
    let new = map (λ b. b.items) c.loop-block.self-inside.blocks.items in
    ap (λ n. slots_from new 0 n) c.loop-block.invariant.len
    ∙ same_slots_from (map (λ b. b.items) c.self.inside.blocks.items) new c.self.inside.len c.loop-block.invariant.same
    ∙ c.self.view_is

pub returns-clause-listed : goal.returns-clause-listed
returns-clause-listed c =
    all_listed c.args.first (map (λ b. b.items) c.self.inside.blocks.items) c.self.inside.len c.loop-block.block c.args.self.now c.loop-block.refs.items c.args.refs.now.items
    c.self.invariant c.self.view_is (omega (arith, length-map c.self.inside.blocks.items (λ b. b.items))) c.loop-block.invariant.listed

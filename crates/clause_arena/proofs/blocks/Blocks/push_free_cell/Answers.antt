use Rattle.std.proofs.Common.{◌<◌, ◌∙◌, ◌+◌, ◌*◌, ◌^◌, ◌++◌, ◌∷◌, [], ap, sym, subst, arith, None, map, length, length-append}
use Rattle.std.proofs.lemmas.List.{length-map}
use Rattle.clause_arena.specs.inner.Blocks.{slots_from, IsBlocks}
use Rattle.clause_arena.proofs.BlocksLemmas.{grown, same_more, same_slots_from, blocks_more, blocks_longer}
use Rattle.clause_arena.proofs.blocks.Blocks.push_free_cell.Goals as goal
use Rattle.clause_arena.proofs.blocks.Blocks.push_free_cell.Goals.{then-self-len+else-len-ge-MOST+in_ok-push, else-self-len}

pub invariant_of-self-2 : goal.invariant_of-self-2
invariant_of-self-2 c = elim c.if-self-len.branch [
  | then-self-len+else-len-ge-MOST+in_ok-push w ↦
      let r = c.self.inside in
      let vs = r.blocks.items in
      let v = w.new-block.result in
      let few : length vs < 2 ^ 48 = omega (arith, r.blocks.ok, w.if-len-ge-MOST.false, w.len-then-self-len.ensures) in
      let room : r.len < 64 * length (vs ++ v ∷ []) = omega (arith, c.self.invariant.covers, length-map vs (λ b. b.items), length-append vs (v ∷ [])) in
      subst (λ t. IsBlocks (t.len + 1) (map (λ b. b.items) t.blocks.items)) (sym w.self-inside-is)
      (subst (λ bs. IsBlocks (r.len + 1) (map (λ b. b.items) bs)) (sym w.in_ok-push.ensures.items)
      (blocks_longer (λ b. b.items) (vs ++ v ∷ []) r.len room (blocks_more (λ b. b.items) vs r.len v w.new-block.ensures.items few c.self.invariant)))
  | else-self-len w ↦
      let r = c.self.inside in
      let room : r.len < 64 * length r.blocks.items = omega (arith, w.if-self-len.false, c.len.ensures, r.blocks.ok) in
      subst (λ t. IsBlocks (t.len + 1) (map (λ b. b.items) t.blocks.items)) (sym w.self-inside-is)
      (blocks_longer (λ b. b.items) r.blocks.items r.len room c.self.invariant)
]

pub returns-clause-ok : goal.returns-clause-ok
returns-clause-ok c = elim c.if-self-len.branch [
  | then-self-len+else-len-ge-MOST+in_ok-push w ↦
      let r = c.self.inside in
      let vs = r.blocks.items in
      let v = w.new-block.result in
      ap (λ t. slots_from (map (λ b. b.items) t.blocks.items) 0 (t.len + 1)) w.self-inside-is
      ∙ ap (λ bs. slots_from (map (λ b. b.items) bs) 0 (r.len + 1)) w.in_ok-push.ensures.items
      ∙ same_slots_from (map (λ b. b.items) vs) (map (λ b. b.items) (vs ++ v ∷ [])) (r.len + 1) (same_more (λ b. b.items) vs r.len v w.new-block.ensures.items)
      ∙ grown (map (λ b. b.items) vs) r.len c.self.invariant ∙ ap (λ slots. slots ++ None ∷ []) c.self.view_is
  | else-self-len w ↦
      let r = c.self.inside in
      ap (λ t. slots_from (map (λ b. b.items) t.blocks.items) 0 (t.len + 1)) w.self-inside-is
      ∙ grown (map (λ b. b.items) r.blocks.items) r.len c.self.invariant ∙ ap (λ slots. slots ++ None ∷ []) c.self.view_is
]

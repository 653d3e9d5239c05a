use Rattle.std.proofs.Common.{◌∙◌, sym, ap, arith, length, map}
use Rattle.std.proofs.lemmas.List.FromFn.{length-map-range_with_len}
use Rattle.clause_arena.specs.inner.Blocks.{slot_at}
use Rattle.clause_arena.proofs.blocks.Blocks.len.Goals as goal

pub returns-clause-len : goal.returns-clause-len
returns-clause-len c = sym (length-map-range_with_len (slot_at (map (λ b. b.items) c.self.inside.blocks.items)) 0 c.self.inside.len) ∙ ap length c.self.view_is

pub returns-clause-few : goal.returns-clause-few
returns-clause-few c = omega (arith, c.self.invariant.covers, c.self.invariant.few)

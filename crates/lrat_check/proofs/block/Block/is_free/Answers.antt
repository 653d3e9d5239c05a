use Rattle.lrat_check.specs.inner.Blocks.{places_of}
use Rattle.lrat_check.proofs.BlocksLemmas.{free_if}
use Rattle.lrat_check.proofs.block.Block.is_free.Goals as goal

pub returns : goal.returns
returns c = free_if c.self.inside.live (places_of c.self.inside.cells.items) _ c.self.invariant c.self.view_is

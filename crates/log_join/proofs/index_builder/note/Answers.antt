use Rattle.std.proofs.Common.{arith}
use Rattle.log_join.proofs.index_builder.note.Goals as goal

pub overflow_mul-block : goal.overflow_mul-block
overflow_mul-block c = let n = c.in_ok-block.ensures.narrow in omega arith

pub overflow_add-block : goal.overflow_add-block
overflow_add-block c = let n = c.in_ok-block.ensures.narrow in omega arith

use Rattle.std.proofs.Common.{arith}
use Rattle.lrat_text.proofs.canonical.canonical_id.Goals as goal

pub canonical_id_within-requires : goal.canonical_id_within-requires
canonical_id_within-requires c = let (step, s) = c.requires.spelled in record { spelled = (2000000, omega arith, step, s) }

pub returns : goal.returns
returns c = λ step s. c.canonical_id_within.ensures 2000000 step (omega arith) s

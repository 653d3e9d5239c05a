use Rattle.std.proofs.Common.{refl}
use Rattle.std.specs.Int.{w32, to_be_bytes}
use Rattle.frames.proofs.NumberLemmas.{written_at}
use Rattle.frames.proofs.big_endian.put_u32.Goals as goal

pub returns : goal.returns
returns c = written_at c.args.out.now c.args.at 4 (to_be_bytes w32 c.args.number) c.write_u32.new.buf refl c.requires c.write_u32.ensures

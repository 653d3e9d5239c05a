use Rattle.std.proofs.Common.{refl}
use Rattle.std.specs.Int.{w16, to_be_bytes}
use Rattle.frames.proofs.NumberLemmas.{written_at}
use Rattle.frames.proofs.big_endian.put_u16.Goals as goal

pub returns : goal.returns
returns c = written_at c.args.out.now c.args.at 2 (to_be_bytes w16 c.args.number) c.write_u16.new.buf refl c.requires c.write_u16.ensures

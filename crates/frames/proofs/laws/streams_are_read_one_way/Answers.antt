use Rattle.frames.proofs.Streams.{one_stream}
use Rattle.frames.proofs.laws.streams_are_read_one_way.Goals as goal

pub returns : goal.returns
returns c = record { same = one_stream }

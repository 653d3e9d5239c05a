use Rattle.std.proofs.Common.{take}
use Rattle.std.specs.List.{flat_map}
use Rattle.frames.specs.WireFormat.{literal_bytes}
use Rattle.frames.specs.inner.Puts.{Puts}
use Rattle.frames.proofs.encoder.put_literals.Given as goal

abbrev pub invariant-loop-literal : goal.invariant-loop-literal
invariant-loop-literal l = Puts l.initial.out l.initial.at (flat_map literal_bytes (take l.literal-index l.literals)) l.out l.at

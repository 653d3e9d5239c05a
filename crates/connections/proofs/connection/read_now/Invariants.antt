use Rattle.std.specs.Io.KnownBytes.{Keeps}
use Rattle.connections.proofs.connection.read_now.Given as goal

-- nothing was read so far
abbrev pub invariant-loop : goal.invariant-loop
invariant-loop g l = Keeps (g.S.Read.remaining l.fn.stream) (g.S.Read.remaining l.stream)

use Rattle.std.proofs.Common.{◌≡◌}
use Rattle.std.specs.Io.KnownBytes.{Keeps}
use Rattle.commands.proofs.piece_reader.Pieces.read.Given as goal

abbrev pub invariant-loop : goal.invariant-loop
invariant-loop g l =
    Keeps (g.S.Read.remaining l.initial.self.source) (g.S.Read.remaining l.self.source) × (l.self.refusal ≡ l.initial.self.refusal)

use Rattle.std.proofs.Common.{◌≡◌, ◌++◌, drop}
use Rattle.commands.specs.inner.Solver.{joined}
use Rattle.commands.proofs.minisat.joined.Given as goal

-- what is left of the text is still to be joined
abbrev pub invariant-loop-byte : goal.invariant-loop-byte
invariant-loop-byte l = l.bytes.items ++ joined (drop l.byte-index l.text) ≡ joined l.text

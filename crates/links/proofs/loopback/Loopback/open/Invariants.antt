use Rattle.std.proofs.Common.{◌≡◌, length}
use Rattle.links.proofs.loopback.Loopback.open.Given as goal

-- a pair for each worker so far
abbrev pub invariant-loop : goal.invariant-loop
invariant-loop g l = length l.pairs.items ≡ l.counter

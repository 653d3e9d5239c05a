use Rattle.std.proofs.Common.{◌≡◌, replicate, []}
use Rattle.links.proofs.memory.Memory.new.Given as goal
use Rattle.links.specs.Linked.{bytes_of}
use Rattle.std.proofs.Common.{map}

-- over none of the links so far anything is on its way
abbrev pub invariant-loop : goal.invariant-loop
invariant-loop l = map bytes_of l.wires.items ≡ replicate l.counter ([], [])

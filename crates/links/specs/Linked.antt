-- The links of each carrier, and the workers that are linked.
use Rattle.std.specs.Prelude.{ℕ, zero, suc, ◌≤◌, Bool, true, false, not, List, length, map, get_or, is_some}
use Rattle.links.specs.declared.worker_end.WorkerEnd.{WorkerEnd}
use Rattle.links.specs.declared.loopback.Loopback.{Loopback}
use Rattle.links.specs.declared.memory.Memory.{Memory}
use Rattle.links.specs.declared.memory.Wire.{Wire}
use Rattle.links.specs.declared.coordinator_ends.CoordinatorEnds.{CoordinatorEnds}

-- for each worker, from number 1 on, whether it is linked at the coordinator's ends
abbrev pub linked_of : {S : Type 0} → CoordinatorEnds S → List Bool
linked_of served = map (λ e. is_some e) served.ends.items

-- a number's property: it is that of one of `count` workers, 1 to `count`
abbrev pub IsOneOf : ℕ → ℕ → Type 0
IsOneOf count worker = (1 ≤ worker) × (worker ≤ count)

-- whether there is a worker of this number, and it is not linked
abbrev pub is_missing : List Bool → ℕ → Bool
is_missing linked zero = false
is_missing linked (suc place) = not (get_or linked place true)

-- the stream of a worker's end
abbrev pub stream_of : {S : Type 0} → WorkerEnd S → S
stream_of joined = joined.stream

-- the number of links over sockets of this process
abbrev pub pair_count : {S : Type 0} → Loopback S → ℕ
pair_count loopback = length loopback.pairs.items

-- the bytes that are under way to the worker, and those to the coordinator
abbrev pub bytes_of : Wire → List ℕ × List ℕ
bytes_of wire = (wire.down.items, wire.up.items)

-- the bytes that are under way over each worker's link, from number 1 on
abbrev pub under_way : Memory → List (List ℕ × List ℕ)
under_way memory = map bytes_of memory.wires.items

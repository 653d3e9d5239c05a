-- The counts of `Counted`.
use Rattle.std.specs.Prelude.{ℕ, slice_index}
use Rattle.links.specs.declared.counted.Counted.{Counted}

-- the carrier of the links
abbrev pub carrier_of : {C : Type 0} → Counted C → C
carrier_of links = links.carrier

-- the number of sends and receives
abbrev pub calls_of : {C : Type 0} → Counted C → ℕ
calls_of links = links.tally.calls

-- the number of sends and receives that were refused
abbrev pub refusals_of : {C : Type 0} → Counted C → ℕ
refusals_of links = links.tally.refusals

-- the number of sends and receives that were refused at the link of this worker
abbrev pub refused_of : {C : Type 0} → Counted C → ℕ → ℕ
refused_of links worker = slice_index links.tally.refused worker

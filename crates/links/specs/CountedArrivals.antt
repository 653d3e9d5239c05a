-- The counts of `CountedArrivals`.
use Rattle.std.specs.Prelude.{ℕ, Bool, slice_index}
use Rattle.links.specs.declared.counted_arrivals.CountedArrivals.{CountedArrivals}

-- the event carrier of the links
abbrev pub event_carrier_of : {S : Type 0} → CountedArrivals S → S
event_carrier_of links = links.carrier

-- the number of receives and sends
abbrev pub arrival_calls_of : {S : Type 0} → CountedArrivals S → ℕ
arrival_calls_of links = links.calls

-- the number of events that came, except `Over`
abbrev pub arrivals_of : {S : Type 0} → CountedArrivals S → ℕ
arrivals_of links = links.arrivals

-- the number of links that began at a place
abbrev pub links_at : {S : Type 0} → CountedArrivals S → ℕ → ℕ
links_at links place = slice_index links.links place

-- the number of sends to a place that were refused
abbrev pub refusals_at : {S : Type 0} → CountedArrivals S → ℕ → ℕ
refusals_at links place = slice_index links.refusals place

-- whether the last event was `Over`
abbrev pub is_at_end : {S : Type 0} → CountedArrivals S → Bool
is_at_end links = links.is_over

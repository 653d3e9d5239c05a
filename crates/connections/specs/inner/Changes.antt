-- How an event changes the places that have a connection.
use Rattle.std.specs.Prelude.{◌≡◌, Bool, true, false, List, set, get_or}
use Rattle.links.specs.declared.arrivals.Event.{Event}
use Rattle.links.specs.declared.arrivals.Event.TheVariants.{Linked, Bytes, Quiet, Over}

-- the places with a connection, before and after an event: at `Linked` the place had none and has one now; any other event changes none
abbrev pub Changes : Event → List Bool → List Bool → Type 0
Changes (Linked place) old new = (get_or old place true ≡ false) × (new ≡ set old place true)
Changes (Bytes place count) old new = new ≡ old
Changes Quiet old new = new ≡ old
Changes Over old new = new ≡ old

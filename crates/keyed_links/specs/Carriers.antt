-- The carrier beneath.
use Rattle.keyed_links.specs.declared.keyed_events.KeyedEvents.{KeyedEvents}

abbrev pub carrier_of : {C R : Type 0} → KeyedEvents C R → C
carrier_of ends = ends.carrier

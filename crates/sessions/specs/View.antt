-- The state of a session in memory, as the definitions see it.
use Rattle.std.specs.Prelude.{◌∷◌, ◌++◌, []}
use Rattle.sessions.specs.Texts.{State, with_clause}
use Rattle.sessions.specs.declared.known.Known.{Known}
use Rattle.sessions.specs.declared.stage.Stage.TheVariants as stage

-- the state of a session in memory
abbrev pub state_of : Known → State
state_of x = record { limits = x.limits; given = x.numbers.given; live = x.rup; last = x.numbers.last; stage = x.stage; query = x.query.items }

-- the state after the clause that is awaited has come
abbrev pub reached_clause : Known → State
reached_clause x = record (with_clause (state_of x) x.id x.awaited.items) { given = x.numbers.given ++ x.id ∷ [] }

-- the state after the query that is awaited has come
abbrev pub reached_query : Known → State
reached_query x = record (state_of x) { stage = stage.Open; query = x.awaited.items }

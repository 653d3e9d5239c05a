-- The result of a call that reads tokens into a state.
use Rattle.std.specs.Prelude.{◌≡◌, Result, Ok, Err}
use Rattle.dimacs.specs.text.Rows.{Fails}

-- a call that leads to the state new has the expected result, or answers that memory was refused
abbrev pub Gives : {State Fault : Type 0} → Fault → State → Result (Unit {0}) Fault → Result State Fault → Type 0
Gives no_memory new (Ok _) expected = expected ≡ Ok new
Gives no_memory new (Err fault) expected = Fails no_memory fault expected

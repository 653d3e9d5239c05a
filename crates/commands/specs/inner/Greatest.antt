-- The greatest variable of events.
use Rattle.std.specs.Prelude.{ℕ, max, List}
use Rattle.dimacs.specs.logic.Cnf.{greatest_of}
use Rattle.dimacs.specs.logic.Literal.{Literal}
use Rattle.sessions.specs.declared.event_lines.Sent.{Sent}
use Rattle.sessions.specs.declared.event_lines.Sent.TheVariants as sent

-- the greatest variable of the events so far, after a line of this kind with these literals; `number` is the greatest one before
abbrev pub counted : Sent → List Literal → ℕ → ℕ
counted sent.Nothing ls number = number
counted sent.Clause ls number = max (greatest_of ls) number
counted sent.Query ls number = max (greatest_of ls) number

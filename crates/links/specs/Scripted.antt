-- The bytes that a `Script` hands in, and those that were sent to it.
use Rattle.std.specs.Prelude.{ℕ, List, drop}
use Rattle.links.specs.declared.script.Script.{Script}

-- the bytes that a script has not handed in yet
abbrev pub left_of : Script → List ℕ
left_of script = drop script.at script.hands.items

-- all bytes that were sent to a script, in order
abbrev pub sent_of : Script → List ℕ
sent_of script = script.sent.items

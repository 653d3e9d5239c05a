use Rattle.std.specs.Global.{Vec}
use Rattle.std.proofs.Common.{◌≡◌, ◌++◌, ℕ, drop, map}
use Rattle.commands.specs.Names.{names_behind, names_of}
use Rattle.commands.proofs.receipt_names.names_in.Given as goal

abbrev pub invariant-loop-byte : goal.invariant-loop-byte
invariant-loop-byte l = map (λ (n : Vec ℕ). n.items) l.names.items ++ names_behind l.begun.items (drop l.byte-index l.list) ≡ names_of l.list

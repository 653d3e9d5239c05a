use Rattle.std.specs.Borrow.{Bor}
use Rattle.std.specs.Global.{Vec}
use Rattle.std.proofs.Common.{◌≡◌, ℕ, List, map, take}
use Rattle.commands.proofs.receipt_names.names_given.Given as goal

abbrev pub invariant-loop-name : goal.invariant-loop-name
invariant-loop-name l = map (λ (n : Vec ℕ). n.items) l.names.items ≡ map (λ (n : Bor (List ℕ)). n.now) (take l.name-index l.given)

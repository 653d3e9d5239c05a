use Rattle.std.proofs.Common.{◌≡◌, true, take}
use Rattle.std.specs.FinMap.{get}
use Rattle.std.specs.List.{list_all}
use Rattle.sessions.specs.Texts.{is_met}
use Rattle.sessions.specs.inner.Sets.{set_in}
use Rattle.sessions.proofs.known.are_met.Given as goal

abbrev pub invariant-loop-id : goal.invariant-loop-id
invariant-loop-id l = list_all (λ id. is_met (set_in l.set.stamps.items l.set.stamp) (get l.rup id)) (take l.id-index l.given) ≡ true

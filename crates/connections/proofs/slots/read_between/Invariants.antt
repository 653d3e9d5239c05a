use Rattle.std.proofs.Common.{◌≡◌, ℕ, map, is_some}
use Rattle.std.specs.Io.KnownBytes.{Keeps}
use Rattle.connections.specs.inner.Known.{known_at}
use Rattle.connections.proofs.slots.read_between.Given as goal

-- nothing was read so far
abbrev pub invariant-loop-place : goal.invariant-loop-place
invariant-loop-place g l =
    (map (λ e. is_some e) l.slots ≡ map (λ e. is_some e) l.fn.slots)
    × ((p : ℕ) → Keeps (known_at g.S.Read.remaining l.fn.slots p) (known_at g.S.Read.remaining l.slots p))

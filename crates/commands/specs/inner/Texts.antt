-- Buffered texts, of which a check takes as many bytes as it wants.
use Rattle.std.specs.Prelude.{◌≡◌, ◌-◌, ℕ, Bool, List, ◌++◌, take, drop, Option, Some, None}
use Rattle.std.specs.Io.KnownBytes.{prepend_known}
use Rattle.commands.specs.declared.pending_text.Text.{Text}
use Rattle.dimacs.specs.logic.Limits.{Limits}
use Rattle.sessions.specs.Check.{HasTaken, events_ended, proof_ended}
use Rattle.sessions.specs.Sides.{Ends}
use Rattle.sessions.specs.declared.check.SessionCheck.{SessionCheck}

-- the bytes of a text that are buffered: read, and not consumed
abbrev pub held : {S : Type 0} → Text S → List ℕ
held t = take (t.end - t.at) (drop t.at t.pieces.room.items)

-- the bytes of a text that were not consumed, those that are not read among them, if those of the source are known
abbrev pub left : {S : Type 0} → (S → Option (List ℕ)) → Text S → Option (List ℕ)
left remaining t = prepend_known (held t) (remaining t.pieces.source)

-- of all bytes of a source, if they are known, these were taken and those are left; none are left if it has ended
abbrev pub IsTaken : Option (List ℕ) → List ℕ → Option (List ℕ) → Bool → Type 0
IsTaken None taken left ended = Unit {0}
IsTaken (Some all) taken None ended = ⊥
IsTaken (Some all) taken (Some left) ended = (all ≡ taken ++ left) × Ends ended left

-- The check has taken the bytes of both texts, except those that are left. The positions are: the limits, all events, the whole proof, the
-- events that are left, the bytes of the proof that are left, the check.
pub record IsRead (L : Limits) (events proof events_left proof_left : Option (List ℕ)) (x : SessionCheck) : Type 0 where
  pub e : List ℕ
  pub p : List ℕ
  pub taken : HasTaken L e p x
  pub of_events : IsTaken events e events_left (events_ended x)
  pub of_proof : IsTaken proof p proof_left (proof_ended x)

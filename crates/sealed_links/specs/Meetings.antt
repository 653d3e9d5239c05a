-- One end of a link, from the handshake on.
use Rattle.std.specs.Prelude.{◌≡◌, ℕ, ◌+◌, ◌-◌, ◌<◌, ◌≤◌, ◌⊎◌, ◌↔◌, List, ◌++◌, Option, None, Result, IfErr, IfOk, IfSome, IsSome, false, length, take}
use Rattle.hmac.specs.Hmac.{hmac_of}
use Rattle.sealed_links.specs.Handshakes.{HasShown, IsSameHandshake, digest_heard, heard_of, nonces_of, said, shows}
use Rattle.sealed_links.specs.Links.{IsTheReading, StopsWithin, TakesAll}
use Rattle.sealed_links.specs.declared.handshake.Handshake.{Handshake}
use Rattle.sealed_links.specs.declared.handshake.Session.{Session}
use Rattle.sealed_links.specs.declared.incoming.OpenFault.{OpenFault}
use Rattle.sealed_links.specs.declared.incoming.OpenFault.TheVariants as faults
use Rattle.sealed_links.specs.declared.link.Link.{Link}
use Rattle.sealed_links.specs.declared.link.Link.TheVariants.{Meeting, Open}
use Rattle.sealed_links.specs.declared.link.LinkEnd.{LinkEnd}
use Rattle.sealed_links.specs.declared.link.LinkEnd.TheVariants.{NoMemory, WrongRecord}

-- records go both ways
abbrev pub IsOpen : Link → Type 0
IsOpen (Meeting h) = ⊥
IsOpen (Open session) = Unit {0}

-- with the first of these bytes the peer's handshake was whole, and it has shown that it has the key and the formula
pub record HasMet (key : List ℕ) (before : Handshake) (bytes : List ℕ) (after : Handshake) : Type 0 where
  pub same : IsSameHandshake before after
  pub heard : heard_of after ≡ heard_of before ++ take (96 - length (heard_of before)) bytes
  pub whole : length (heard_of after) ≡ 96
  pub shown : HasShown key after
  pub formula : digest_heard after ≡ after.digest

-- the payloads of all records that came are handed on
abbrev pub OpensAll : Session → Link → List ℕ → List ℕ → List ℕ → Type 0
OpensAll session (Meeting h) bytes before after = ⊥
OpensAll session (Open new) bytes before after =
    TakesAll session.opener.incoming new.opener.incoming bytes before after × IsTheReading session.opener.incoming bytes before after × (new.sealer ≡ session.sealer)

-- why a link ends at a fault of its records
abbrev pub end_of : OpenFault → LinkEnd
end_of faults.Wrong = WrongRecord
end_of faults.Ended = WrongRecord
end_of faults.NoMemory = NoMemory

-- what was handed on, if a link ends at a fault of its records
pub record EndsAt (session : Session) (bytes before after : List ℕ) (end : LinkEnd) : Type 0 where
  pub fault : OpenFault
  pub end_is : end ≡ end_of fault
  pub stops : session.opener.has_ended ≡ false → StopsWithin fault session.opener.incoming bytes before after

-- bytes came while the peer had not shown the key: nothing was handed on, unless it has shown it now
pub record TakesMeeting (key : List ℕ) (h : Handshake) (bytes before after : List ℕ) (result : Result Link LinkEnd) : Type 0 where
  pub nothing : ((met : Handshake) × HasMet key h bytes met) ⊎ (after ≡ before)
  pub opened : IfOk result (λ link. IsOpen link → (met : Handshake) × HasMet key h bytes met)
  pub unfinished : IfOk result (λ link. (IsOpen link → ⊥) → length (heard_of h) + length bytes < 96)

-- bytes came to an open link
pub record TakesOpen (session : Session) (bytes before after : List ℕ) (result : Result Link LinkEnd) : Type 0 where
  pub all : IfOk result (λ link. OpensAll session link bytes before after)
  pub ended : IfErr result (EndsAt session bytes before after)

abbrev pub Takes : List ℕ → Link → List ℕ → List ℕ → List ℕ → Result Link LinkEnd → Type 0
Takes key (Meeting h) bytes before after result = TakesMeeting key h bytes before after result
Takes key (Open session) bytes before after result = TakesOpen session bytes before after result

-- the number of bytes that are wanting to the peer's first message
abbrev pub lack_of : Link → ℕ
lack_of (Meeting h) = 64 - length (heard_of h)
lack_of (Open session) = 0

-- the answer to the peer's first message: this side's MAC
abbrev pub Replies : List ℕ → Link → Option (List ℕ) → Type 0
Replies key (Meeting h) mac = (IsSome mac ↔ (64 ≤ length (heard_of h))) × IfSome mac (λ m. m ≡ hmac_of key (said (shows h.side) (nonces_of h) h.digest))
Replies key (Open session) mac = mac ≡ None

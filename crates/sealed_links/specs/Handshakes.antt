-- The handshake: what a side has heard of its peer, and what that says of the peer.
use Rattle.std.specs.Prelude.{◌≡◌, ◌≢◌, ℕ, ◌<◌, List, [], ◌∷◌, ◌++◌, false, codes, drop, length, take}
use Rattle.hmac.specs.Hmac.{hmac_of}
use Rattle.sealed_links.specs.SipHash.{word}
use Rattle.sealed_links.specs.declared.handshake.Handshake.{Handshake}
use Rattle.sealed_links.specs.declared.handshake.Session.{Session}
use Rattle.sealed_links.specs.declared.handshake.Side.{Side}
use Rattle.sealed_links.specs.declared.handshake.Side.TheVariants.{Coordinator, Worker}
use Rattle.sealed_links.specs.declared.handshake.Verdict.{Verdict}
use Rattle.sealed_links.specs.declared.handshake.Verdict.TheVariants.{Accepted, OtherFormula, OtherKey, Unfinished}
use Rattle.sealed_links.specs.declared.key.Nonces.{Nonces}
use Rattle.sealed_links.specs.declared.key.Purpose.{Purpose}
use Rattle.sealed_links.specs.declared.key.Purpose.TheVariants.{CoordinatorShows, ToCoordinator, ToWorker, WorkerShows}
use Rattle.sealed_links.specs.declared.siphash.TagKey.{TagKey}

-- the byte by which the MACs of one purpose differ from those of another
abbrev pub code_of : Purpose → ℕ
code_of CoordinatorShows = 0
code_of WorkerShows = 1
code_of ToWorker = 2
code_of ToCoordinator = 3

-- the text of a MAC: the protocol's name, the purpose, the fresh values of both sides, and the digest of a formula
unfoldable pub said : Purpose → Nonces → List ℕ → List ℕ
said purpose nonces digest = codes "satcluster link 1" ++ code_of purpose ∷ [] ++ nonces.coordinator ++ nonces.worker ++ digest

-- what the MAC of a side is for
abbrev pub shows : Side → Purpose
shows Coordinator = CoordinatorShows
shows Worker = WorkerShows

-- what the key of the records to a side is for
abbrev pub towards : Side → Purpose
towards Coordinator = ToCoordinator
towards Worker = ToWorker

abbrev pub other : Side → Side
other Coordinator = Worker
other Worker = Coordinator

-- what has come of the peer: its fresh value, its formula's digest, and its MAC, 32 bytes each
unfoldable pub heard_of : Handshake → List ℕ
heard_of h = take h.count h.heard

abbrev pub nonces_by : Side → List ℕ → List ℕ → Nonces
nonces_by Coordinator own peers = record { coordinator = own; worker = peers }
nonces_by Worker own peers = record { coordinator = peers; worker = own }

-- the fresh values of both sides, as this side knows them
unfoldable pub nonces_of : Handshake → Nonces
nonces_of h = nonces_by h.side h.nonce (take 32 (drop 0 h.heard))

-- the digest that the peer told
unfoldable pub digest_heard : Handshake → List ℕ
digest_heard h = take 32 (drop 32 h.heard)

-- the peer's MAC is that of one with the key, for its side and the formula of which it told the digest
unfoldable pub HasShown : List ℕ → Handshake → Type 0
HasShown key h = take 32 (drop 64 h.heard) ≡ hmac_of key (said (shows (other h.side)) (nonces_of h) (digest_heard h))

-- side, fresh value and digest are the same
pub record IsSameHandshake (old new : Handshake) : Type 0 where
  pub side : new.side ≡ old.side
  pub nonce : new.nonce ≡ old.nonce
  pub digest : new.digest ≡ old.digest

-- the key of the records to a side: sixteen bytes of a MAC
pub record IsKeyOf (key : List ℕ) (side : Side) (h : Handshake) (tags : TagKey) : Type 0 where
  pub first : tags.k0 ≡ word (hmac_of key (said (towards side) (nonces_of h) h.digest)) 0
  pub second : tags.k1 ≡ word (hmac_of key (said (towards side) (nonces_of h) h.digest)) 1

-- both directions, each under the key of its own, before the first record
pub record IsSession (key : List ℕ) (h : Handshake) (session : Session) : Type 0 where
  pub out_key : IsKeyOf key (other h.side) h session.sealer.key
  pub out_number : session.sealer.number ≡ 0
  pub in_key : IsKeyOf key h.side h session.opener.incoming.key
  pub in_number : session.opener.incoming.number ≡ 0
  pub in_held : session.opener.incoming.held.items ≡ []
  pub in_open : session.opener.has_ended ≡ false

abbrev pub IsJudged : List ℕ → Handshake → Verdict → Type 0
IsJudged key h Unfinished = length (heard_of h) < 96
IsJudged key h OtherKey = (length (heard_of h) ≡ 96) × (HasShown key h → ⊥)
IsJudged key h OtherFormula = (length (heard_of h) ≡ 96) × HasShown key h × (digest_heard h ≢ h.digest)
IsJudged key h (Accepted session) = (length (heard_of h) ≡ 96) × HasShown key h × (digest_heard h ≡ h.digest) × IsSession key h session

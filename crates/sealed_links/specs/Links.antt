-- What a contract says of the end of a direction at which records come in.
use Rattle.std.specs.Prelude.{◌≡◌, ℕ, List, ◌++◌}
use Rattle.sealed_links.specs.Records.{AreOpened, BeginsWithRecord, IsUnfinished, IsWrong}
use Rattle.sealed_links.specs.declared.siphash.TagKey.{TagKey}
use Rattle.sealed_links.specs.declared.incoming.Incoming.{Incoming}
use Rattle.sealed_links.specs.declared.incoming.OpenFault.{OpenFault}
use Rattle.sealed_links.specs.declared.incoming.OpenFault.TheVariants.{Ended, NoMemory, Wrong}

-- bytes came: with those that were held they are records, of which this was handed on, and the beginning of one, which is held
pub record TakesAll (old new : Incoming) (bytes before after : List ℕ) : Type 0 where
  pub handed : List ℕ
  pub after_is : after ≡ before ++ handed
  pub opened : AreOpened old.key old.number (old.held.items ++ bytes) handed new.number new.held.items
  pub unfinished : IsUnfinished new.number new.held.items
  pub same_key : new.key ≡ old.key

-- what is known of the rest at a fault: at Wrong it begins with no record of the number whose turn it is, whatever follows
abbrev pub StopsAt : OpenFault → TagKey → ℕ → List ℕ → Type 0
StopsAt Wrong key m rest = IsWrong key m rest
StopsAt NoMemory key m rest = Unit {0}
StopsAt Ended key m rest = Unit {0}

-- bytes came, and a fault: what was handed on are the payloads of records that they begin with
pub record StopsWithin (fault : OpenFault) (old : Incoming) (bytes before after : List ℕ) : Type 0 where
  pub handed : List ℕ
  pub number : ℕ
  pub rest : List ℕ
  pub after_is : after ≡ before ++ handed
  pub opened : AreOpened old.key old.number (old.held.items ++ bytes) handed number rest
  pub stops : StopsAt fault old.key number rest

-- what was handed on are the payloads of all records with which the bytes that were held and those that came begin: those of any reading as
-- records that ends where no record begins. So it does not matter into which pieces the bytes are cut
abbrev pub IsTheReading : Incoming → List ℕ → List ℕ → List ℕ → Type 0
IsTheReading old bytes before after =
    (handed : List ℕ) (m : ℕ) (rest : List ℕ) → AreOpened old.key old.number (old.held.items ++ bytes) handed m rest → (BeginsWithRecord old.key m rest → ⊥) → after ≡ before ++ handed

-- What a loop over the records that have come whole leaves.
use Rattle.std.specs.Prelude.{◌≡◌, ℕ, ◌≤◌, List, ◌++◌, length, drop}
use Rattle.sealed_links.specs.Records.{AreOpened, IsUnfinished}
use Rattle.sealed_links.specs.declared.incoming.Incoming.{Incoming}

-- payloads were handed on of records up to this place
pub record HandsOnTo (old new : Incoming) (before after : List ℕ) (at : ℕ) : Type 0 where
  pub handed : List ℕ
  pub after_is : after ≡ before ++ handed
  pub within : at ≤ length old.held.items
  pub opened : AreOpened old.key old.number old.held.items handed new.number (drop at old.held.items)
  pub same_key : new.key ≡ old.key
  pub same_held : new.held.items ≡ old.held.items

-- and no whole record follows
pub record HandsOn (old new : Incoming) (before after : List ℕ) (at : ℕ) : Type 0 where
  pub so_far : HandsOnTo old new before after at
  pub unfinished : IsUnfinished new.number (drop at old.held.items)

-- key and number are the same
pub record IsSame (old new : Incoming) : Type 0 where
  pub key : new.key ≡ old.key
  pub number : new.number ≡ old.number

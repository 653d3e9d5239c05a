-- Bytes that are sent as records.
use Rattle.std.specs.Prelude.{◌≡◌, ℕ, ◌+◌, List, ◌++◌, length}
use Rattle.std.specs.List.{concat}
use Rattle.sealed_links.specs.Records.{AreShort, sealed_all}
use Rattle.sealed_links.specs.declared.sealer.Sealer.{Sealer}

-- the records of payloads that come to these bytes, with the next numbers of the direction
pub record SealsAll (old new : Sealer) (bytes before after : List ℕ) : Type 0 where
  pub payloads : List (List ℕ)
  pub are_short : AreShort old.number payloads
  pub bytes_are : bytes ≡ concat payloads
  pub after_is : after ≡ before ++ sealed_all old.key old.number payloads
  pub number_is : new.number ≡ old.number + length payloads
  pub key_is : new.key ≡ old.key

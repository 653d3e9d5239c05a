-- What a look at bytes says of the record that they begin with.
use Rattle.std.specs.Prelude.{◌≡◌, ℕ, ◌+◌, ◌<◌, ◌≤◌, ◌^◌, List, length, take, drop}
use Rattle.sealed_links.specs.Records.{IsUnfinished, IsWrong, sealed}
use Rattle.sealed_links.specs.declared.siphash.TagKey.{TagKey}
use Rattle.sealed_links.specs.declared.incoming.Look.{Look}
use Rattle.sealed_links.specs.declared.incoming.Look.TheVariants.{Record, Unfinished, Wrong}

-- record number n, with a payload of so many bytes, is there whole
pub record HasRecord (key : TagKey) (n : ℕ) (bytes : List ℕ) (long : ℕ) : Type 0 where
  pub short : long ≤ 4096
  pub few : n + 1 < 2 ^ 64
  pub whole : 12 + long + 16 ≤ length bytes
  pub bytes_are : take (12 + long + 16) bytes ≡ sealed key n (take long (drop 12 bytes))

abbrev pub Looks : TagKey → ℕ → List ℕ → Look → Type 0
Looks key n bytes Unfinished = IsUnfinished n bytes
Looks key n bytes (Record long) = HasRecord key n bytes long
Looks key n bytes Wrong = IsWrong key n bytes

-- A whole proof, from its first byte to its end, as a reader takes it.
use Rattle.std.specs.Prelude.{◌≡◌, ℕ, List, Ok}
use Rattle.drat_forms.specs.Reading.{Reading, start, takes, ends}

-- all bytes of the proof are taken without a fault, it ends there, and the reader gave these words
pub record GivesWords (most : ℕ) (bytes words : List ℕ) : Type 0 where
  pub taken : Reading
  pub ended : Reading
  pub takes_all : takes (start most) bytes ≡ Ok taken
  pub ends_there : ends taken.form taken ≡ Ok ended
  pub gives : ended.words ≡ words

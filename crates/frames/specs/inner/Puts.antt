-- Bytes that are written into a slice.
use Rattle.std.specs.Prelude.{◌≡◌, ℕ, ◌+◌, ◌≤◌, List, ◌++◌, length, take, drop}

-- `new` is `old` with the bytes written at the index `at`; `end` is the index after them
pub record Puts (old : List ℕ) (at : ℕ) (bytes new : List ℕ) (end : ℕ) : Type 0 where
  pub fits : at + length bytes ≤ length old
  pub now : new ≡ take at old ++ (bytes ++ drop (at + length bytes) old)
  pub ends : end ≡ at + length bytes

-- The read buffer: bytes that were read from one connection and not handed out yet.
use Rattle.std.specs.Prelude.{ℕ, List}

-- the value of a read buffer: the place of the connection from which the bytes were read, and these bytes in order
pub record Unread : Type 0 where
  pub place : ℕ
  pub bytes : List ℕ

-- The buffer of a reader, filled up to the end of its frame.
use Rattle.std.specs.Prelude.{◌≡◌, ℕ, ◌+◌, ◌-◌, ◌<◌, ◌≤◌, List, ◌++◌, length, take}
use Rattle.frames.specs.declared.header.Header.{Header}
use Rattle.frames.specs.declared.header.Header.TheVariants.{Short, Wrong, Whole}
use Rattle.frames.specs.Stream.{header_of, Ends, Open}

-- the number of bytes by which the header is incomplete, of `len` bytes; if it is complete, the number by which the payload is
abbrev pub missing_by : Header → ℕ → ℕ
missing_by Short len = 5 - len
missing_by (Wrong fault) len = 0
missing_by (Whole kind n) len = (5 + n) - len

-- the number of bytes by which the header, or else the payload, of these bytes is incomplete
abbrev pub missing : List ℕ → ℕ
missing bytes = missing_by (header_of bytes) (length bytes)

-- `len` bytes with this header do not go beyond the end of the frame that they begin
abbrev pub LengthWithin : Header → ℕ → Type 0
LengthWithin Short len = len < 5
LengthWithin (Wrong fault) len = len ≤ 5
LengthWithin (Whole kind n) len = (len ≤ 5 + n) × (n ≤ 4032)

-- the bytes do not go beyond the end of the frame that they begin
abbrev pub WithinFrame : List ℕ → Type 0
WithinFrame bytes = LengthWithin (header_of bytes) (length bytes)

-- `taken` bytes of the piece were appended to `old`, at most up to the end of the frame, and all of them if the frame is incomplete
pub record Fills (old piece new : List ℕ) (taken : ℕ) : Type 0 where
  pub within_piece : taken ≤ length piece
  pub now : new ≡ old ++ take taken piece
  pub within_frame : WithinFrame new
  pub all : Ends new Open → taken ≡ length piece

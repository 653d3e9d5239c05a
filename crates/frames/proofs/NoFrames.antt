-- If no right attempt is a prefix of a payload, no frame whose first field is an attempt has that payload.
use Rattle.std.proofs.Common.{ℕ, List, ◌++◌, sym}
use Rattle.std.specs.Int.{w32, to_be_bytes}
use Rattle.frames.specs.declared.frame.Frame.{Frame}
use Rattle.frames.specs.declared.frame.Frame.TheVariants.{Done, Fetch, Piece}
use Rattle.frames.specs.declared.frame.Kind.TheVariants as kinds
use Rattle.frames.specs.WireFormat.{attempt_bytes, ending_bytes, IsAttempt}
use Rattle.frames.specs.inner.Decoder.{BeginsWithNoField, IsPayloadOf}

pub no_done : (p : List ℕ) → BeginsWithNoField attempt_bytes IsAttempt p → (f : Frame) → IsPayloadOf kinds.Done p f → ⊥
no_done p none (Done a o) c = none a (ending_bytes o) c.right.0 (sym c.payload_is)
no_done p none f c = let k = c.kind_is in cc

pub no_fetch : (p : List ℕ) → BeginsWithNoField attempt_bytes IsAttempt p → (f : Frame) → IsPayloadOf kinds.Fetch p f → ⊥
no_fetch p none (Fetch a n) c = none a (to_be_bytes w32 n) c.right.0 (sym c.payload_is)
no_fetch p none f c = let k = c.kind_is in cc

pub no_piece : (p : List ℕ) → BeginsWithNoField attempt_bytes IsAttempt p → (f : Frame) → IsPayloadOf kinds.Piece p f → ⊥
no_piece p none (Piece a n b) c = none a (to_be_bytes w32 n ++ b) c.right.0 (sym c.payload_is)
no_piece p none f c = let k = c.kind_is in cc

-- A stream of bytes: frames, and then a rest, which is open (an incomplete frame) or has a fault.
use Rattle.std.specs.Prelude.{◌≡◌, ◌≢◌, ℕ, ◌+◌, ◌<◌, ◌≤◌, List, [], ◌∷◌, ◌++◌, length, take, All, Option, Some, None, Result, Ok, Err, ◌==◌, if◌then◌else◌}
use Rattle.std.specs.Global.{Vec}
use Rattle.std.specs.List.{flat_map}
use Rattle.std.specs.Int.{w16, from_be_bytes}
use Rattle.frames.specs.declared.fault.FrameFault.{FrameFault}
use Rattle.frames.specs.declared.fault.FrameFault.TheVariants.{BadMark, BadKind, BadLength, BadField}
use Rattle.frames.specs.declared.frame.Frame.{Frame}
use Rattle.frames.specs.declared.frame.Kind.{Kind}
use Rattle.frames.specs.declared.header.Header.{Header}
use Rattle.frames.specs.declared.header.Header.TheVariants.{Short, Wrong, Whole}
use Rattle.frames.specs.WireFormat.{mark, kind_from_number, allows_length, FrameBytes, IsRight}

-- the header of a frame of this kind whose payload has n bytes
abbrev pub length_from : Kind → ℕ → Header
length_from kind n = if allows_length kind n then Whole kind n else Wrong BadLength

-- the header, read from the payload's length on; the kind is known
abbrev pub from_length : Kind → List ℕ → Header
from_length kind [] = Short
from_length kind (high ∷ []) = Short
from_length kind (high ∷ low ∷ bytes) = length_from kind (from_be_bytes w16 (high ∷ low ∷ []))

-- the header, read from the payload's length on, if there is a kind of the number that was read
abbrev pub length_of_kind : Option Kind → List ℕ → Header
length_of_kind None bytes = Wrong BadKind
length_of_kind (Some kind) bytes = from_length kind bytes

-- the header, read from the kind on
abbrev pub from_kind : List ℕ → Header
from_kind [] = Short
from_kind (kind ∷ bytes) = length_of_kind (kind_from_number kind) bytes

-- the header, read from the second mark on
abbrev pub from_second_mark : List ℕ → Header
from_second_mark [] = Short
from_second_mark (second ∷ bytes) = if second == mark then from_kind bytes else Wrong BadMark

-- the header of bytes, read from the left: a fault is settled by its byte, whatever follows
abbrev pub header_of : List ℕ → Header
header_of [] = Short
header_of (first ∷ bytes) = if first == mark then from_second_mark bytes else Wrong BadMark

-- no right frame is a prefix of the bytes
abbrev pub BeginsNoFrame : List ℕ → Type 0
BeginsNoFrame bytes = (frame : Frame) (rest : List ℕ) → IsRight frame → bytes ≢ FrameBytes frame ++ rest

-- the end of a stream: within an incomplete frame (or between two frames), or with a fault
pub data End : Type 0 where
  Open : End
  Fault : FrameFault → End

-- the end of a stream whose rest begins with no complete frame, by the header of the rest: open if the header or the payload is incomplete;
-- with the header's fault; or with `BadField` if the payload is complete and no right frame is a prefix of the bytes
abbrev pub EndsAfter : Header → List ℕ → End → Type 0
EndsAfter Short bytes end = end ≡ Open
EndsAfter (Wrong fault) bytes end = end ≡ Fault fault
EndsAfter (Whole kind n) bytes Open = length bytes < 5 + n
EndsAfter (Whole kind n) bytes (Fault fault) = (fault ≡ BadField) × (5 + n ≤ length bytes) × BeginsNoFrame bytes

-- the end of a stream whose rest are these bytes
abbrev pub Ends : List ℕ → End → Type 0
Ends bytes end = EndsAfter (header_of bytes) bytes end

-- the bytes are those of right frames, and then a rest
pub record Splits (bytes : List ℕ) (frames : List Frame) (rest : List ℕ) : Type 0 where
  pub whole : bytes ≡ flat_map FrameBytes frames ++ rest
  pub right : All IsRight frames

-- the bytes are those of right frames, and then a rest with which the stream ends like this
abbrev pub Stream : List ℕ → List Frame → End → Type 0
Stream bytes frames end = (rest : List ℕ) × Splits bytes frames rest × Ends rest end

-- the bytes are those of a right frame, and then a rest
pub record Begins (bytes : List ℕ) (frame : Frame) (rest : List ℕ) : Type 0 where
  pub whole : bytes ≡ FrameBytes frame ++ rest
  pub right : IsRight frame

-- the bytes begin with this right frame, whatever follows it
abbrev pub BeginsWith : List ℕ → Frame → Type 0
BeginsWith bytes frame = (rest : List ℕ) × Begins bytes frame rest

-- the state of a reader: the rest after the last complete frame, or the fault that it has found
pub data Progress : Type 0 where
  Within : List ℕ → Progress
  Failed : FrameFault → Progress

-- a reader in this state has read these bytes, and has given these frames
abbrev pub HasTaken : Progress → List ℕ → List Frame → Type 0
HasTaken (Within rest) bytes frames = Splits bytes frames rest × Ends rest Open
HasTaken (Failed fault) bytes frames = Stream bytes frames (Fault fault)

-- what a reader returns in this state
abbrev pub answer_in : Progress → Result (Unit {0}) FrameFault
answer_in (Within rest) = Ok tt
answer_in (Failed fault) = Err fault

-- a reader read a piece: it appended frames to those before, and returned what the new state says. For all bytes and frames such that the
-- old state has read these bytes and given these frames, the new state has read the bytes and the piece, and has given the frames and the
-- appended ones
pub record TakesPiece (old : Progress) (piece : List ℕ) (before after : List Frame) (answer : Result (Unit {0}) FrameFault) (new : Progress) : Type 0 where
  pub appended : List Frame
  pub frames : after ≡ before ++ appended
  pub answers : answer ≡ answer_in new
  pub history : (bytes : List ℕ) (given : List Frame) → HasTaken old bytes given → HasTaken new (bytes ++ piece) (given ++ appended)

-- the bytes of the pieces, one after the other
abbrev pub joined : List (Vec ℕ) → List ℕ
joined pieces = flat_map (λ piece. piece.items) pieces

-- the frames of the first pieces, some or all, were appended, and these pieces have no fault
pub record StopsBefore (pieces : List (Vec ℕ)) (before after : List Frame) : Type 0 where
  pub count : ℕ
  pub few : count ≤ length pieces
  pub appended : List Frame
  pub frames : after ≡ before ++ appended
  pub stream : Stream (joined (take count pieces)) appended Open

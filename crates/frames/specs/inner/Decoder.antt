-- The promises of the parsers of one field and of one payload.
use Rattle.std.specs.Prelude.{◌≡◌, ◌≢◌, ℕ, List, ◌++◌, Result, Ok, Err}
use Rattle.std.specs.Int.{w32, cast_unsigned}
use Rattle.dimacs.specs.logic.Literal.{Literal, number_of, IsWithin}
use Rattle.frames.specs.declared.fault.FrameFault.{FrameFault}
use Rattle.frames.specs.declared.fault.FrameFault.TheVariants.{BadField, NoMemory}
use Rattle.frames.specs.declared.frame.Frame.{Frame}
use Rattle.frames.specs.declared.frame.Kind.{Kind}
use Rattle.frames.specs.WireFormat.{kind_of, payload, IsRight}

-- the bytes are the encoding of a right value, and then a rest
pub record BeginsWithField {X : Type 0} (spell : X → List ℕ) (right : X → Type 0) (bytes : List ℕ) (value : X) (rest : List ℕ) : Type 0 where
  pub parts : bytes ≡ spell value ++ rest
  pub fits : right value

-- no right value's encoding is a prefix of the bytes
abbrev pub BeginsWithNoField : {X : Type 0} → (X → List ℕ) → (X → Type 0) → List ℕ → Type 0
BeginsWithNoField {X} spell right bytes = (x : X) (rest : List ℕ) → right x → bytes ≢ spell x ++ rest

-- the bytes are the encoding of a right value
pub record IsSpelled {X : Type 0} (spell : X → List ℕ) (right : X → Type 0) (bytes : List ℕ) (value : X) : Type 0 where
  pub whole : bytes ≡ spell value
  pub fits : right value

-- the bytes are no right value's encoding
abbrev pub SpellsNone : {X : Type 0} → (X → List ℕ) → (X → Type 0) → List ℕ → Type 0
SpellsNone {X} spell right bytes = (x : X) → right x → bytes ≢ spell x

-- the fault is `NoMemory`, or it is `BadField` and P holds
abbrev pub FaultMeans : FrameFault → Type 0 → Type 0
FaultMeans fault P = fault ≢ NoMemory → (fault ≡ BadField) × P

-- the literal's variable is at most 2,000,000, and its number in two's complement is this word
abbrev pub IsTwosComplement : ℕ → Literal → Type 0
IsTwosComplement word l = IsWithin 2000000 l × (cast_unsigned w32 (number_of l) ≡ word)

-- the frame is right, of this kind, and its payload is these bytes
pub record IsPayloadOf (kind : Kind) (bytes : List ℕ) (frame : Frame) : Type 0 where
  pub kind_is : kind_of frame ≡ kind
  pub payload_is : payload frame ≡ bytes
  pub right : IsRight frame

-- the result of a decoder is right: the right frame of this kind with this payload; `BadField` if there is none, or `NoMemory`
abbrev pub Decodes : Kind → List ℕ → Result Frame FrameFault → Type 0
Decodes kind bytes (Ok frame) = IsPayloadOf kind bytes frame
Decodes kind bytes (Err fault) = FaultMeans fault ((frame : Frame) → IsPayloadOf kind bytes frame → ⊥)

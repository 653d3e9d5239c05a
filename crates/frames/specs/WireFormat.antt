-- The wire format: the bytes of each frame, and the frames with right fields.
use Rattle.std.specs.Prelude.{ℕ, ◌^◌, ◌<◌, ◌≤◌, ◌%◌, Bool, ◌&&◌, ◌==◌, nat_le, List, [], ◌∷◌, ◌++◌, length, Option, Some, None, if◌then◌else◌}
use Rattle.std.specs.List.{flat_map}
use Rattle.std.specs.Int.{w16, w32, w64, to_be_bytes, cast_unsigned}
use Rattle.dimacs.specs.logic.Literal.{Literal, number_of}
use Rattle.frames.specs.declared.answer.Finding.{Finding}
use Rattle.frames.specs.declared.answer.Finding.TheVariants.{Refuted, Assignment}
use Rattle.frames.specs.declared.answer.Ending.{Ending}
use Rattle.frames.specs.declared.answer.Ending.TheVariants.{Decided, Limit}
use Rattle.frames.specs.declared.frame.Attempt.{Attempt}
use Rattle.frames.specs.declared.frame.Frame.{Frame}
use Rattle.frames.specs.declared.frame.Frame.TheVariants.{Task, Done, Fetch, Piece, Verdict, Want, Part, Idle, Rest}
use Rattle.frames.specs.declared.frame.Kind.{Kind}
use Rattle.frames.specs.declared.frame.Kind.TheVariants as kinds
use Rattle.frames.specs.Answers.{answer_number, answer_of, length_of}
use Rattle.frames.specs.Cubes.{IsCube}

-- the mark, each of the first two bytes of a frame: 0x43
abbrev pub mark : ℕ
mark = 67

-- the number of a kind in a frame
abbrev pub kind_number : Kind → ℕ
kind_number kinds.Task = 1
kind_number kinds.Done = 2
kind_number kinds.Fetch = 3
kind_number kinds.Piece = 4
kind_number kinds.Verdict = 5
kind_number kinds.Want = 6
kind_number kinds.Part = 7
kind_number kinds.Idle = 8
kind_number kinds.Rest = 9

-- the kind of this number; none if it is not 1 to 9
abbrev pub kind_from_number : ℕ → Option Kind
kind_from_number n =
    if n == 1 then Some kinds.Task else
    if n == 2 then Some kinds.Done else
    if n == 3 then Some kinds.Fetch else
    if n == 4 then Some kinds.Piece else
    if n == 5 then Some kinds.Verdict else
    if n == 6 then Some kinds.Want else
    if n == 7 then Some kinds.Part else
    if n == 8 then Some kinds.Idle else
    if n == 9 then Some kinds.Rest else None

-- the kind of a frame
abbrev pub kind_of : Frame → Kind
kind_of (Task session job limit cube) = kinds.Task
kind_of (Done attempt ending) = kinds.Done
kind_of (Fetch attempt offset) = kinds.Fetch
kind_of (Piece attempt offset bytes) = kinds.Piece
kind_of (Verdict session finding) = kinds.Verdict
kind_of (Want session worker offset) = kinds.Want
kind_of (Part session answer offset bytes) = kinds.Part
kind_of (Idle worker incarnation) = kinds.Idle
kind_of Rest = kinds.Rest

-- whether a payload of this kind may have this length
abbrev pub allows_length : Kind → ℕ → Bool
allows_length kinds.Task n = nat_le 24 n && (nat_le n 280 && n % 4 == 0)
allows_length kinds.Done n = n == 33
allows_length kinds.Fetch n = n == 32
allows_length kinds.Piece n = nat_le 33 n && nat_le n 4032
allows_length kinds.Verdict n = n == 13
allows_length kinds.Want n = n == 16
allows_length kinds.Part n = nat_le 14 n && nat_le n 4013
allows_length kinds.Idle n = n == 12
allows_length kinds.Rest n = n == 0

-- a literal in a frame: its number as 32 bits in two's complement, big-endian
abbrev pub literal_bytes : Literal → List ℕ
literal_bytes l = to_be_bytes w32 (cast_unsigned w32 (number_of l))

-- an attempt in a frame, in 28 bytes
abbrev pub attempt_bytes : Attempt → List ℕ
attempt_bytes a = to_be_bytes w64 a.session ++ to_be_bytes w64 a.job ++ to_be_bytes w32 a.worker ++ to_be_bytes w64 a.incarnation

-- a finding in a frame: the answer's number in one byte, and the length in four
abbrev pub finding_bytes : Finding → List ℕ
finding_bytes f = answer_number (answer_of f) ∷ to_be_bytes w32 (length_of f)

-- an ending in a frame: a finding, or the number 3 in one byte and the length 0
abbrev pub ending_bytes : Ending → List ℕ
ending_bytes (Decided f) = finding_bytes f
ending_bytes Limit = 3 ∷ to_be_bytes w32 0

-- the payload of a frame: its fields, in order; numbers are big-endian
abbrev pub payload : Frame → List ℕ
payload (Task session job limit cube) = to_be_bytes w64 session ++ to_be_bytes w64 job ++ to_be_bytes w64 limit ++ flat_map literal_bytes cube
payload (Done attempt ending) = attempt_bytes attempt ++ ending_bytes ending
payload (Fetch attempt offset) = attempt_bytes attempt ++ to_be_bytes w32 offset
payload (Piece attempt offset bytes) = attempt_bytes attempt ++ to_be_bytes w32 offset ++ bytes
payload (Verdict session finding) = to_be_bytes w64 session ++ finding_bytes finding
payload (Want session worker offset) = to_be_bytes w64 session ++ to_be_bytes w32 worker ++ to_be_bytes w32 offset
payload (Part session answer offset bytes) = to_be_bytes w64 session ++ answer_number answer ∷ to_be_bytes w32 offset ++ bytes
payload (Idle worker incarnation) = to_be_bytes w32 worker ++ to_be_bytes w64 incarnation
payload Rest = []

-- the bytes of a frame: two marks, the kind, the payload's length in two bytes (big-endian), and the payload
abbrev pub FrameBytes : Frame → List ℕ
FrameBytes f = mark ∷ mark ∷ kind_number (kind_of f) ∷ to_be_bytes w16 (length (payload f)) ++ payload f

-- a worker's number is right: from 1 to 64
abbrev pub IsWorker : ℕ → Type 0
IsWorker n = (1 ≤ n) × (n ≤ 64)

-- an attempt is right: its worker's number is, and the others have 64 bits
pub record IsAttempt (a : Attempt) : Type 0 where
  pub session : a.session < 2 ^ 64
  pub job : a.job < 2 ^ 64
  pub worker : IsWorker a.worker
  pub incarnation : a.incarnation < 2 ^ 64

-- a finding is right: its length has 32 bits, and a proof has at least one byte
abbrev pub IsFinding : Finding → Type 0
IsFinding (Refuted length) = (1 ≤ length) × (length < 2 ^ 32)
IsFinding (Assignment length) = length < 2 ^ 32

-- an ending is right if its finding is
abbrev pub IsEnding : Ending → Type 0
IsEnding (Decided f) = IsFinding f
IsEnding Limit = Unit {0}

-- a chunk: 1 to 4,000 bytes
abbrev pub IsChunk : List ℕ → Type 0
IsChunk bytes = (1 ≤ length bytes) × (length bytes ≤ 4000)

-- the fields of the frame are right; each value of the code's type `Frame` is such a frame
abbrev pub IsRight : Frame → Type 0
IsRight (Task session job limit cube) = (session < 2 ^ 64) × (job < 2 ^ 64) × (limit < 2 ^ 64) × IsCube cube
IsRight (Done attempt ending) = IsAttempt attempt × IsEnding ending
IsRight (Fetch attempt offset) = IsAttempt attempt × (offset < 2 ^ 32)
IsRight (Piece attempt offset bytes) = IsAttempt attempt × (offset < 2 ^ 32) × IsChunk bytes
IsRight (Verdict session finding) = (session < 2 ^ 64) × IsFinding finding
IsRight (Want session worker offset) = (session < 2 ^ 64) × IsWorker worker × (offset < 2 ^ 32)
IsRight (Part session answer offset bytes) = (session < 2 ^ 64) × (offset < 2 ^ 32) × IsChunk bytes
IsRight (Idle worker incarnation) = IsWorker worker × (incarnation < 2 ^ 64)
IsRight Rest = Unit {0}

-- The bytes for which a reader may ask for memory.
use Rattle.std.specs.Prelude.{◌≡◌, ℕ, ◌+◌, ◌<◌, ◌≤◌, List, length}
use Rattle.frames.specs.declared.frame.Kind.{Kind}
use Rattle.frames.specs.declared.frame.Kind.TheVariants.{Task, Done, Fetch, Piece, Verdict, Want, Part, Idle, Rest}
use Rattle.frames.specs.declared.header.Header.TheVariants.{Whole}
use Rattle.frames.specs.Stream.{header_of}

-- a payload of this kind and this length has literals or a chunk, for which memory is allocated
abbrev pub NeedsMemory : Kind → ℕ → Type 0
NeedsMemory Task n = 24 < n
NeedsMemory Piece n = Unit {0}
NeedsMemory Part n = Unit {0}
NeedsMemory Done n = ⊥
NeedsMemory Fetch n = ⊥
NeedsMemory Verdict n = ⊥
NeedsMemory Want n = ⊥
NeedsMemory Idle n = ⊥
NeedsMemory Rest n = ⊥

-- the bytes begin with a header and its complete payload, which has literals or a chunk
pub record MayNeedMemory (bytes : List ℕ) : Type 0 where
  pub kind : Kind
  pub len : ℕ
  pub head : header_of bytes ≡ Whole kind len
  pub whole : 5 + len ≤ length bytes
  pub takes : NeedsMemory kind len

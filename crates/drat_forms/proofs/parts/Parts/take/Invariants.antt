use Rattle.std.proofs.Common.{◌≡◌, length}
use Rattle.drat_forms.specs.Parts.{reading_of}
use Rattle.drat_forms.specs.Reading.{takes}
use Rattle.drat_forms.proofs.parts.Parts.take.Given as goal

-- the bytes that are left lead to what all bytes lead to
abbrev pub invariant-loop-byte : goal.invariant-loop-byte
invariant-loop-byte l = takes (reading_of l.initial.self) l.bytes ≡ takes (reading_of l.self) l.rest

abbrev pub decreases-loop-byte : goal.decreases-loop-byte
decreases-loop-byte l = length l.rest

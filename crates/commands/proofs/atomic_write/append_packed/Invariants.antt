use Rattle.std.proofs.Common.{ℕ, Bool, List, ◌*◌, ◌++◌, take}
use Rattle.commands.specs.inner.Parts.{IsPart}
use Rattle.commands.proofs.atomic_write.append_packed.Given as goal

-- behind what the file had, a front of the text is written
abbrev pub invariant-loop-i : goal.invariant-loop-i
invariant-loop-i g l = (binary : Bool) (path before : List ℕ) → IsPart g.D.Drafts.made binary path before l.initial.part
    → IsPart g.D.Drafts.made binary path (before ++ take (65536 * l.i) l.text) l.part

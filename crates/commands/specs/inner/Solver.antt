-- The bytes of an answer's lines that MiniSat's result has, and what is told beside a result.
use Rattle.std.specs.Prelude.{◌==◌, ℕ, Bool, false, not, ◌&&◌, List, Option}
use Rattle.std.specs.List.{filter}
use Rattle.commands.specs.Solver.{HasResult, Solves, asking, nowhere}
use Rattle.commands.specs.declared.solver.Solved.{Solved}
use Rattle.dimacs.specs.logic.Limits.{Limits}

-- a byte is neither an LF nor the `v` that begins a line
abbrev pub is_of_item : ℕ → Bool
is_of_item byte = not (byte == 10) && not (byte == 118)

-- a text without its line ends, and without the `v` of each line
abbrev pub joined : List ℕ → List ℕ
joined text = filter is_of_item text

-- what is told beside MiniSat's result: the `s` line, and no assignment
pub record IsWritten (keeps : List ℕ → Type 0) (left : Type 0) (L : Limits) (limit : Option ℕ) (known : Option (List ℕ)) (s : Solved) : Type 0 where
  pub solves : Solves L (asking limit false) nowhere known s
  pub result : HasResult keeps left L known s.report

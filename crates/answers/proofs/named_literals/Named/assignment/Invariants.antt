use Rattle.std.proofs.Common.{◌≡◌, ℕ, ◌+◌, ◌<◌, Bool, vec_len}
use Rattle.std.specs.Prelude.{slice_index_or}
use Rattle.dimacs.specs.logic.Literal.{Pos}
use Rattle.answers.specs.Pieces.{named_by}
use Rattle.answers.proofs.named_literals.Named.assignment.Given as goal

abbrev pub invariant-loop-v : goal.invariant-loop-v
invariant-loop-v l = record { len : vec_len l.values ≡ l.v; values : (k : ℕ) (d : Bool) → k < l.v → slice_index_or l.values.items k d ≡ named_by l.self (Pos (k + 1)) }

use Rattle.std.proofs.Common.{◌≡◌, ◌+◌, ◌++◌, ◌≤◌, take, vec_capacity, vec_len}
use Rattle.icnf.specs.Walk.{literals_of}
use Rattle.icnf.proofs.span.append_literals.Given as goal

abbrev pub invariant-loop-place : goal.invariant-loop-place
invariant-loop-place l =
    (l.literals.items ≡ l.fn.literals.items ++ literals_of (take l.place-index l.path)) × (vec_capacity l.fn.literals ≤ vec_capacity l.literals) × (vec_len l.literals ≡ vec_len l.fn.literals + l.place-index)

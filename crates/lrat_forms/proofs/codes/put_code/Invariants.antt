use Rattle.std.proofs.Common.{ℕ, List}
use Rattle.lrat_forms.specs.inner.Codes.{AddsNumber}
use Rattle.lrat_forms.proofs.codes.put_code.Given as goal

-- what is appended after it for what is left makes the number
abbrev pub invariant-loop-rest : goal.invariant-loop-rest
invariant-loop-rest l = (new : List ℕ) → AddsNumber l.out.items new l.rest → AddsNumber l.fn.out.items new l.code

abbrev pub decreases-loop-rest : goal.decreases-loop-rest
decreases-loop-rest l = l.rest

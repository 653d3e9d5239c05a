use Rattle.std.proofs.Common.{arith, ◌≡◌, ◌+◌, ℕ, refl}
use Rattle.std.proofs.lemmas.Bool.{cases_lt}
use Rattle.std.proofs.Common.{below_more, inl, inr}
use Rattle.cube_split.specs.inner.Marks.{IsUndecidedBy}
use Rattle.cube_split.proofs.HeldLemmas.{not_open, not_past}
use Rattle.cube_split.proofs.definitions.first_undecided.Goals as goal

pub loop-i-preserved : goal.loop-i-preserved
loop-i-preserved c =
    let number : c.new-variable.result ≡ c.args.vars + 1 + c.loop-i.i = omega (arith, c.new-variable.ensures) in
    below_more (λ (j : ℕ). ¬ (IsUndecidedBy c.args.marks.now c.args.vars c.args.pairs.now j)) c.loop-i.i c.loop-i.invariant
    (not_open c.args.marks.now c.args.vars c.args.pairs.now c.loop-i.i c.new-variable.result c.index-pairs-i.result c.loop-i-test.true c.index-pairs-i.is number (c.if-is_undecided.ensures.no refl))

pub returns-clause-none : goal.returns-clause-none
returns-clause-none c = λ j h. elim (cases_lt j c.loop-i.i) [
  | inl below ↦ c.loop-i.invariant j below h
  | inr over ↦ not_past c.args.marks.now c.args.vars c.args.pairs.now j (omega (arith, c.loop-i-test.false)) h
]

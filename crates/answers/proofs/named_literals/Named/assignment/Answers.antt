use Rattle.std.proofs.Common.{◌≡◌, ◌+◌, ◌-◌, ◌<◌, ◌≤◌, List, ℕ, Bool, false, ap, subst, ◌∙◌, arith}
use Rattle.std.specs.Prelude.{slice_index_or}
use Rattle.dimacs.specs.logic.Cnf.{assignment_of}
use Rattle.dimacs.specs.logic.Literal.{Pos}
use Rattle.dimacs.specs.logic.Propagation.{Assumed}
use Rattle.answers.specs.Pieces.{named_by}
use Rattle.answers.specs.inner.Lines.{HasNoPair}
use Rattle.answers.proofs.ReportLemmas.{satisfied_by}
use Rattle.answers.proofs.named_literals.Named.assignment.Goals as goal

-- each variable has the value that was written at its place
value_is : (named : Assumed) (values written : List Bool) (vars count : ℕ) → values ≡ written → ((k : ℕ) (d : Bool) → k < count → slice_index_or written k d ≡ named (Pos (k + 1))) → vars ≤ count
    → (v : ℕ) → 1 ≤ v → v ≤ vars → assignment_of values v ≡ named (Pos v)
value_is named values written vars count same each all v low high =
    let e : v - 1 + 1 ≡ v = omega arith in
    ap (λ (x : List Bool). assignment_of x v) same ∙ each (v - 1) false (omega arith) ∙ ap (λ (n : ℕ). named (Pos n)) e

pub returns-clause-values : goal.returns-clause-values
returns-clause-values c =
    value_is (named_by c.args.self.now) c.new-2.result c.loop-v.values.items c.args.vars c.loop-v.v c.new-2.ensures c.loop-v.invariant.values c.loop-v-test.false

pub returns-clause-satisfies : goal.returns-clause-satisfies
returns-clause-satisfies c =
    satisfied_by (assignment_of c.new-2.result) (named_by c.args.self.now) c.args.vars (subst (λ (marks : List Bool). HasNoPair (named_by marks)) c.self.view_is c.self.invariant) (returns-clause-values c)

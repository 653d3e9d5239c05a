use Rattle.std.proofs.Common.{◌≡◌, false, sym, ◌∙◌, subst, true}
use Rattle.std.proofs.lemmas.Bool.{OnFalse_from, OnTrue_from}
use Rattle.dimacs.specs.logic.Literal.{Literal, Neg, negation, var_of}
use Rattle.decide_heap.specs.Decisions.{is_in}
use Rattle.watches.specs.Trails.{IsTruth, holds}
use Rattle.watches.specs.declared.truth.Truth.TheVariants.{Free}
use Rattle.cube_solve.specs.inner.Steps.{IsUnassigned}
use Rattle.cube_solve.proofs.DecisionOrderLemmas.{assigned_false, assigned_true}
use Rattle.cube_solve.proofs.decision_order.is_free_in.Goals as goal

pub returns-in-True-clause-no : goal.returns-in-True-clause-no
returns-in-True-clause-no c = λ l f e.
    let es = c.args.trail.now.entries in
    absurd (assigned_true c.args.trail.now l c.args.var e f (subst (λ (k : Literal). holds es k ≡ true) c.negative.ensures (subst (IsTruth es c.negative.result) c.in-True.is c.value.ensures).0))

pub returns-in-False-clause-no : goal.returns-in-False-clause-no
returns-in-False-clause-no c = λ l f e.
    let es = c.args.trail.now.entries in
    absurd (assigned_false c.args.trail.now l c.args.var e f (subst (λ (k : Literal). holds es (negation k) ≡ true) c.negative.ensures (subst (IsTruth es c.negative.result) c.in-False.is c.value.ensures).1))

pub returns-in-Free-clause-yes : goal.returns-in-Free-clause-yes
returns-in-Free-clause-yes c =
    let es = c.args.trail.now.entries in
    let free = subst (λ (k : Literal). IsTruth es k Free) c.negative.ensures (subst (IsTruth es c.negative.result) c.in-Free.is c.value.ensures) in
    let unassigned : IsUnassigned c.args.trail.now (Neg c.args.var) = record { within = c.requires.within; not_true = free.0; not_false = free.1 } in
    OnTrue_from c.is_in.result (IsUnassigned c.args.trail.now (Neg c.args.var)) (λ t. unassigned)

pub returns-in-Free-clause-no : goal.returns-in-Free-clause-no
returns-in-Free-clause-no c =
    OnFalse_from c.is_in.result ((l : Literal) → IsUnassigned c.args.trail.now l → var_of l ≡ c.args.var → is_in c.args.heap.now c.args.var ≡ false) (λ n l f e. sym c.is_in.ensures ∙ n)

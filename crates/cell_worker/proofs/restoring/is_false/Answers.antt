use Rattle.std.proofs.Common.{◌≡◌, ◌∙◌, false, All, sym, subst}
use Rattle.std.proofs.lemmas.List.{take_all}
use Rattle.std.proofs.lemmas.List.Elements.{All-contains, All-more}
use Rattle.dimacs.specs.logic.Cnf.{assignment_of}
use Rattle.dimacs.specs.logic.Literal.{Literal, literal_true}
use Rattle.cell_worker.proofs.RestoredLemmas.{no_pair_false}
use Rattle.cell_worker.proofs.restoring.is_false.Goals as goal

pub loop-literal-preserved : goal.loop-literal-preserved
loop-literal-preserved c =
    let P : Literal → Type 0 = λ k. literal_true (assignment_of c.args.values.now) k ≡ false in
    All-more P c.args.clause.now c.loop-literal.literal-index c.literal-item.result c.loop-literal-test.true c.loop-literal.invariant
    (subst P c.literal-item.is (sym c.holds.ensures ∙ c.if-holds.false))

pub returns : goal.returns
returns c =
    let a = assignment_of c.args.values.now in
    let P : Literal → Type 0 = λ k. literal_true a k ≡ false in
    no_pair_false a c.args.clause.now
    (λ l i. All-contains P c.args.clause.now l (subst (All P) (take_all c.loop-literal.literal-index c.args.clause.now c.loop-literal-test.false) c.loop-literal.invariant) i)

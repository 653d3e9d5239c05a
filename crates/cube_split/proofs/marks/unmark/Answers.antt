use Rattle.std.proofs.Common.{rules, ◌≡◌, ◌&&◌, not, subst, set, false, arith, List}
use Rattle.std.proofs.lemmas.List.{take_all}
use Rattle.dimacs.specs.logic.Literal.{Literal, has, index_of}
use Rattle.cube_split.specs.inner.Marks.{AreMarked}
use Rattle.cube_split.proofs.MarkLemmas.{unmark_none, unmark_one, unmark_past}
use Rattle.cube_split.proofs.marks.unmark.Goals as goal
use Rattle.cube_split.proofs.marks.unmark.Goals.{then-at-marks, else-at-marks}

pub loop-literal-init : goal.loop-literal-init
loop-literal-init c = λ test h. unmark_none c.args.marks.now test h

pub loop-literal-preserved : goal.loop-literal-preserved
loop-literal-preserved c = λ test h. elim c.if-at-marks.branch [
  | then-at-marks w ↦
      let written : c.if-at-marks.marks ≡ set c.loop-literal.marks (index_of c.literal-item.result) false = search rules in
      rw written (unmark_one c.loop-literal.marks test c.args.literals.now c.loop-literal.literal-index c.literal-item.result c.loop-literal-test.true c.literal-item.is (omega arith) (c.loop-literal.invariant test h))
  | else-at-marks w ↦
      let same : c.if-at-marks.marks ≡ c.loop-literal.marks = search rules in
      rw same (unmark_past c.loop-literal.marks test c.args.literals.now c.loop-literal.literal-index c.literal-item.result c.loop-literal-test.true c.literal-item.is (omega arith) (c.loop-literal.invariant test h))
]

pub returns : goal.returns
returns c = λ test h.
    let all = take_all c.loop-literal.literal-index c.args.literals.now c.loop-literal-test.false in
    subst (λ (xs : List Literal). AreMarked c.loop-literal.marks (λ x. test x && not (has xs x))) all (c.loop-literal.invariant test h)

use Rattle.std.proofs.Common.{arith, ◌≡◌, ◌+◌, ◌*◌, ◌<◌, ◌++◌, ◌∙◌, true, false, length, take, get_or, ap, sym}
use Rattle.dimacs.specs.logic.Literal.{Pos, has, index_of}
use Rattle.cube_split.specs.ChoiceWithDefinitions.{held_by}
use Rattle.cube_split.proofs.HeldLemmas.{held_marked, held_other}
use Rattle.cube_split.proofs.definitions.mark_held.Goals as goal
use Rattle.cube_split.proofs.definitions.mark_held.Goals.{then-marks-index, else-marks-index}

pub loop-pair-preserved : goal.loop-pair-preserved
loop-pair-preserved c =
    let pairs = c.args.pairs.now in
    let i = c.loop-pair.pair-index in
    let variable = c.loop-pair.invariant.variable in
    let number : c.new.result ≡ c.args.vars + 1 + i = omega (arith, c.new.ensures, variable) in
    let place : c.index.result ≡ index_of (Pos c.new.result) = c.index.ensures.value ∙ ap index_of c.positive.ensures in
    let size : length c.loop-pair.marks ≡ length c.args.marks.now = c.loop-pair.auto.marks in
    let inside : 2 * c.new.result < length c.loop-pair.marks = omega (arith, number, size, c.requires.room, c.loop-pair-test.true) in
    record {
      variable = omega (arith, variable);
      held = λ S h. elim c.if-marks-index.branch [
        | then-marks-index w ↦
            let found : get_or c.loop-pair.marks (index_of (Pos c.new.result)) false ≡ true = ap (λ (n : _). get_or c.loop-pair.marks n false) (sym place) ∙ w.if-marks-index.true in
            rw w.marks-is (held_marked c.args.vars S pairs i c.new.result c.pair-item.result c.loop-pair.marks w.mark.new.marks c.loop-pair-test.true c.pair-item.is c.requires.pairs number inside found
            (c.loop-pair.invariant.held S h) (w.mark.ensures (has (S ++ held_by S (c.args.vars + 1) (take i pairs))) (c.loop-pair.invariant.held S h)))
        | else-marks-index w ↦
            let missed : get_or c.loop-pair.marks (index_of (Pos c.new.result)) false ≡ false = ap (λ (n : _). get_or c.loop-pair.marks n false) (sym place) ∙ w.if-marks-index.false in
            rw w.marks-is (held_other c.args.vars S pairs i c.new.result c.pair-item.result c.loop-pair.marks c.loop-pair-test.true c.pair-item.is c.requires.pairs number inside missed
            (c.loop-pair.invariant.held S h))
      ];
    }

use Rattle.std.proofs.Common.{◌≡◌, ◌<◌, false, true, ap, subst, sym, not, length, get_or, List}
use Rattle.std.specs.List.{list_any}
use Rattle.std.proofs.lemmas.List.{take_all}
use Rattle.dimacs.specs.logic.Literal.{Literal, index_of}
use Rattle.cube_split.proofs.MarkLemmas.{apart_more, not_apart}
use Rattle.cube_split.proofs.marks.is_apart.Goals as goal

pub loop-literal-preserved : goal.loop-literal-preserved
loop-literal-preserved c = λ test h.
    let inside : index_of c.literal-item.result < length c.args.marks.now = subst (λ (x : Literal). index_of x < length c.args.marks.now) (sym c.literal-item.is) (c.requires c.loop-literal.literal-index c.literal-item.result c.loop-literal-test.true) in
    let free : get_or c.args.marks.now (index_of c.literal-item.result) false ≡ false = rw (← c.index.ensures.value) c.if-marks-index.false in
    apart_more c.args.marks.now test c.args.clause.now c.loop-literal.literal-index c.literal-item.result c.loop-literal-test.true c.literal-item.is h inside free (c.loop-literal.invariant test h)

pub returns-then-marks-index : goal.returns-then-marks-index
returns-then-marks-index c = λ test h.
    let inside : index_of c.literal-item.result < length c.args.marks.now = subst (λ (x : Literal). index_of x < length c.args.marks.now) (sym c.literal-item.is) (c.requires c.loop-literal.literal-index c.literal-item.result c.loop-literal-test.true) in
    let found : get_or c.args.marks.now (index_of c.literal-item.result) false ≡ true = rw (← c.index.ensures.value) c.if-marks-index.true in
    sym (ap not (not_apart c.args.marks.now test c.args.clause.now c.loop-literal.literal-index c.literal-item.result c.loop-literal-test.true c.literal-item.is h inside found))

pub returns : goal.returns
returns c = λ test h.
    let all = take_all c.loop-literal.literal-index c.args.clause.now c.loop-literal-test.false in
    sym (ap not (subst (λ (xs : List Literal). list_any test xs ≡ false) all (c.loop-literal.invariant test h)))

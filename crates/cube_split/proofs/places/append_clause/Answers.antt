use Rattle.std.proofs.Common.{rules, arith, ◌≡◌, ◌+◌, ◌<◌, sym, refl, subst, length, take}
use Rattle.dimacs.specs.logic.Literal.{Literal, var_of, index_of}
use Rattle.cube_split.specs.Choice.{has_variable}
use Rattle.cube_split.proofs.PlaceLemmas.{begun_more, first_of}
use Rattle.cube_split.proofs.places.append_clause.Goals as goal

pub loop-literal-preserved : goal.loop-literal-preserved
loop-literal-preserved c =
    let inside : var_of c.literal-item.result < length c.args.last.now = subst (λ (x : Literal). var_of x < length c.args.last.now) (sym c.literal-item.is) (c.requires.variables c.loop-literal.literal-index c.literal-item.result c.loop-literal-test.true) in
    let within : index_of c.literal-item.result < length c.args.latest.now = subst (λ (x : Literal). index_of x < length c.args.latest.now) (sym c.literal-item.is) (c.requires.within c.loop-literal.literal-index c.literal-item.result c.loop-literal-test.true) in
    let index : c.index-index.result ≡ index_of c.literal-item.result = c.index-index.ensures.value in
    let variable : c.number-variable.result ≡ var_of c.literal-item.result = omega arith in
    let below : c.number-variable.result < length c.args.last.now = omega arith in
    let table : index_of c.literal-item.result < length c.loop-literal.latest = omega arith in
    let count : c.len.result ≡ length c.loop-literal.places.items + 1 = search rules in
    rw (c.in_ok-push.ensures.items, index) (begun_more c.args.places.now.items c.loop-literal.places.items c.loop-literal.latest c.args.last.now c.loop-literal.last c.args.number c.args.clause.now c.loop-literal.literal-index c.number-variable.result c.len.result c.literal-item.result _
    c.loop-literal-test.true c.literal-item.is variable below table count refl refl refl
    (first_of c.args.last.now c.loop-literal.last c.args.number c.number-variable.result (has_variable (take c.loop-literal.literal-index c.args.clause.now) c.number-variable.result) _ (c.requires.earlier c.number-variable.result below) (c.loop-literal.invariant.met c.number-variable.result below) refl)
    c.loop-literal.invariant)

use Rattle.std.proofs.Common.{◌≡◌, ◌++◌, List, sym, ap, ◌∙◌, length, vec_len, arith}
use Rattle.std.proofs.lemmas.List.{take_all, drop_all, append-nil}
use Rattle.dimacs.specs.logic.Literal.{Literal}
use Rattle.clause_arena.specs.inner.Relocation.{relocated, moves_from}
use Rattle.clause_arena.proofs.RelocationLemmas.{literals_step, place_step, moves_step, front_step}
use Rattle.clause_arena.proofs.compaction.relocate_all.Goals as goal

-- after the last clause nothing is left
pub returns-clause-literals : goal.returns-clause-literals
returns-clause-literals c =
    let fresh = c.loop-at.fresh.items in
    sym (append-nil fresh) ∙ ap (λ refs. fresh ++ relocated c.args.literals.now refs) (sym (drop_all c.loop-at.at-index c.args.refs.now c.loop-at-test.false)) ∙ c.loop-at.invariant.0

pub returns-clause-moves : goal.returns-clause-moves
returns-clause-moves c =
    let moved = c.loop-at.moved.items in
    sym (append-nil moved) ∙ ap (λ refs. moved ++ moves_from (vec_len c.loop-at.fresh) refs) (sym (drop_all c.loop-at.at-index c.args.refs.now c.loop-at-test.false)) ∙ c.loop-at.invariant.1

pub returns-clause-few : goal.returns-clause-few
returns-clause-few c = omega (arith, c.len.ensures)

pub loop-at-preserved : goal.loop-at-preserved
loop-at-preserved c =
    let literals = c.args.literals.now in
    let refs = c.args.refs.now in
    let i = c.loop-at.at-index in
    let old = c.loop-at.fresh in
    let new = c.relocate.new.fresh in
    let carried = c.in_ok-relocate.ensures in
    let told = c.args.moved.now.items ++ moves_from 0 refs in
    let long : vec_len c.args.moved.now ≡ length c.args.moved.now.items = omega (arith, c.args.moved.now.ok) in (
      literals_step refs i _ c.loop-at-test.true literals old.items new.items (relocated literals refs) carried.literals c.loop-at.invariant.0,
      moves_step refs i _ c.loop-at-test.true c.loop-at.moved.items c.relocate.new.moved.items told (vec_len old) (vec_len new) carried.moves
          (place_step refs i _ c.loop-at-test.true literals old.items new.items (vec_len old) (vec_len new) (c.requires i _ c.loop-at-test.true) (omega (arith, old.ok)) (omega (arith, new.ok)) carried.literals) c.loop-at.invariant.1,
      front_step (vec_len c.args.moved.now) c.args.moved.now.items c.loop-at.moved.items c.relocate.new.moved.items _ long carried.moves c.loop-at.invariant.2,
    )

pub loop-at-init : goal.loop-at-init
loop-at-init c =
    let moved = c.args.moved.now in
    let refs = c.args.refs.now in (
      ap (λ (xs : List Literal). xs ++ relocated c.args.literals.now refs) c.in_ok-fresh.ensures.items,
      ap (λ n. moved.items ++ moves_from n refs) {y = 0} (omega (arith, c.in_ok-fresh.ensures.len)),
      take_all (vec_len moved) moved.items (omega (arith, moved.ok)),
    )

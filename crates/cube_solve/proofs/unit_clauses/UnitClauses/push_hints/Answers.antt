use Rattle.std.proofs.Common.{[], ◌∷◌, ◌++◌, take, sym, ◌∙◌, ap, subst}
use Rattle.std.proofs.lemmas.Bool.{OnTrue_at}
use Rattle.std.proofs.lemmas.List.{take_more}
use Rattle.clause_arena.specs.Clauses.{live_of}
use Rattle.dimacs.specs.logic.Literal.{Literal}
use Rattle.cube_solve.specs.inner.UnitClauses.{IsLed}
use Rattle.cube_solve.proofs.UnitClauseLemmas.{led_none, unseen_yet}
use Rattle.cube_solve.proofs.unit_clauses.UnitClauses.push_hints.Goals as goal

pub loop-other-init : goal.loop-other-init
loop-other-init c = subst (IsLed (live_of c.args.arena.now) c.args.trail.now.entries c.args.literal []) (sym c.requires.none) (led_none (live_of c.args.arena.now) c.args.trail.now.entries c.args.literal)

pub loop-other-preserved : goal.loop-other-preserved
loop-other-preserved c =
    let clause = c.args.clause.now in
    let i = c.loop-other.other-index in
    let x = c.other-item.result in
    subst (λ xs. IsLed (live_of c.args.arena.now) c.args.trail.now.entries c.args.literal xs c.push_hint_for.new.hints.items)
    (sym (take_more clause i x c.loop-other-test.true ∙ ap (λ (y : Literal). take i clause ++ y ∷ []) (sym c.other-item.is)))
    (OnTrue_at c.if-not-branch.false c.in_ok-push_hint_for.ensures (take i clause) (unseen_yet clause i x c.requires.distinct c.loop-other-test.true c.other-item.is) c.loop-other.invariant)

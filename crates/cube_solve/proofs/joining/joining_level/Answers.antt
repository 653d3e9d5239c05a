use Rattle.std.proofs.Common.{◌≡◌, ℕ, ◌<◌, false, inl, inr, ◌∷◌, ◌++◌, [], take, sym, ◌∙◌, ap, subst}
use Rattle.std.specs.Prelude.{max, min}
use Rattle.std.proofs.lemmas.List.{take_all, take_more}
use Rattle.dimacs.specs.logic.Literal.{Clause, Literal}
use Rattle.watches.specs.Trails.{present, up_to}
use Rattle.cube_solve.proofs.JoiningLemmas.{IsMet, met_calm, met_more, met_none}
use Rattle.cube_solve.proofs.UnitClauseLemmas.{unseen_yet}
use Rattle.cube_solve.proofs.joining.joining_level.Goals as goal

pub loop-literal-init : goal.loop-literal-init
loop-literal-init c = met_none c.args.trail.now.entries c.level-satisfied.result c.level-satisfied.ensures.present

pub loop-literal-preserved : goal.loop-literal-preserved
loop-literal-preserved c =
    let es = c.args.trail.now.entries in
    let C = c.args.clause.now in
    let i = c.loop-literal.literal-index in
    let x = c.literal-item.result in
    let next = sym (take_more C i x c.loop-literal-test.true ∙ ap (λ (y : Literal). take i C ++ y ∷ []) (sym c.literal-item.is)) in
    let f = c.true_from-falsified in
    let more = met_more es (take i C) c.loop-literal.first c.loop-literal.second c.loop-literal.satisfied f.result c.true_from.result x
    (unseen_yet C i x c.requires.distinct c.loop-literal-test.true c.literal-item.is)
    (subst (λ (l : Literal). (k : ℕ) → k < f.result → k < present es → up_to es k l ≡ false) c.negate.ensures f.ensures.before) c.true_from.ensures.from c.loop-literal.invariant in
    subst (λ (D : Clause). IsMet es D c.max-first.result c.max-second.result c.min-satisfied.result) next
    (subst (λ (n : ℕ). IsMet es (take i C ++ x ∷ []) c.max-first.result c.max-second.result n) (sym c.min-satisfied.ensures)
    (subst (λ (n : ℕ). IsMet es (take i C ++ x ∷ []) c.max-first.result n (min c.loop-literal.satisfied c.true_from.result)) (sym (c.max-second.ensures ∙ ap (max c.loop-literal.second) c.min.ensures))
    (subst (λ (n : ℕ). IsMet es (take i C ++ x ∷ []) n (max c.loop-literal.second (min c.loop-literal.first f.result)) (min c.loop-literal.satisfied c.true_from.result)) (sym c.max-first.ensures) more)))

pub returns-then-satisfied-second : goal.returns-then-satisfied-second
returns-then-satisfied-second c = λ k lt p.
    let C = c.args.clause.now in
    met_calm c.args.trail.now.entries C c.loop-literal.first c.loop-literal.second c.loop-literal.satisfied (c.entries.ensures.valid).apart
    (subst (λ (D : Clause). IsMet c.args.trail.now.entries D c.loop-literal.first c.loop-literal.second c.loop-literal.satisfied) (take_all c.loop-literal.literal-index C c.loop-literal-test.false) c.loop-literal.invariant)
    k p (inl c.if-satisfied-second.true)

pub returns-else-satisfied-second : goal.returns-else-satisfied-second
returns-else-satisfied-second c = λ k lt p.
    let C = c.args.clause.now in
    met_calm c.args.trail.now.entries C c.loop-literal.first c.loop-literal.second c.loop-literal.satisfied (c.entries.ensures.valid).apart
    (subst (λ (D : Clause). IsMet c.args.trail.now.entries D c.loop-literal.first c.loop-literal.second c.loop-literal.satisfied) (take_all c.loop-literal.literal-index C c.loop-literal-test.false) c.loop-literal.invariant)
    k p (inr lt)

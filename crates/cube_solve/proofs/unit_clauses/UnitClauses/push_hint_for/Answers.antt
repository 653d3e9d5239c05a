use Rattle.std.proofs.Common.{◌≡◌, ◌∷◌, ◌++◌, [], ap, sym, ◌∙◌, subst, inl, inr}
use Rattle.std.proofs.lemmas.Bool.{eqb-true, eqb-false}
use Rattle.clause_arena.specs.Clauses.{live_of}
use Rattle.dimacs.specs.logic.Literal.{Literal, index_of}
use Rattle.dimacs.proofs.LiteralLemmas.{same_or_not, index_apart}
use Rattle.cube_solve.specs.inner.UnitClauses.{IsLed}
use Rattle.cube_solve.proofs.UnitClauseLemmas.{led_same, led_on}
use Rattle.cube_solve.proofs.unit_clauses.UnitClauses.push_hint_for.Goals as goal

-- a literal is known by its index
by_index : (k l : Literal) → index_of k ≡ index_of l → k ≡ l
by_index k l e = elim (same_or_not k l) [ inl s ↦ s | inr n ↦ absurd (index_apart k l n e) ]

pub returns-then-eq : goal.returns-then-eq
returns-then-eq c = λ seen unseen w.
    led_same (live_of c.args.arena.now) c.args.trail.now.entries c.args.literal seen c.args.hints.now.items c.args.other
    (by_index c.args.other c.args.literal (eqb-true (index_of c.args.other) (index_of c.args.literal) (sym c.eq.ensures ∙ c.if-eq.true))) w

pub returns-in_ok-push-in-Some : goal.returns-in_ok-push-in-Some
returns-in_ok-push-in-Some c = λ seen unseen w.
    let live = live_of c.args.arena.now in
    let es = c.args.trail.now.entries in
    let q = c.negate-negated.ensures in
    let f = c.in-False.ensures in
    subst (IsLed live es c.args.literal (seen ++ c.args.other ∷ [])) (sym c.in_ok-push-in-Some.ensures.items)
    (led_on live es c.args.literal seen c.args.hints.now.items c.args.other c.in-Some.number
    (λ e. eqb-false (index_of c.args.other) (index_of c.args.literal) (sym c.eq.ensures ∙ c.if-eq.false) (ap index_of e))
    (λ e. eqb-false (index_of c.negate-negated.result) (index_of c.args.literal) (sym c.eq-2.ensures ∙ c.if-eq-2.false) (ap index_of (q ∙ e)))
    f.0 f.1 (subst (λ (k : Literal). live c.in-Some.number (k ∷ [])) q c.in-Some.ensures) unseen w)

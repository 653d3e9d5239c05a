use Rattle.std.proofs.Common.{rules, arith, sym, ap, ◌≡◌, ◌∙◌, suc, ◌+◌, ◌-◌, ◌&&◌, ◌∷◌, ◌++◌, [], Bool, not, List}
use Rattle.std.proofs.lemmas.List.{append-nil}
use Rattle.dimacs.specs.logic.Base.{occurs, pure_literals}
use Rattle.dimacs.specs.logic.Literal.{Literal, negation}
use Rattle.cube_split.proofs.PureLemmas.{pure_more, pure_within}
use Rattle.cube_split.proofs.pure.pure_units.Goals as goal
use Rattle.cube_split.proofs.pure.pure_units.Goals.{in-Some+in_ok-push, in_default}

pub loop-number-init : goal.loop-number-init
loop-number-init c = (omega arith, λ clauses m. search rules)

pub loop-number-preserved : goal.loop-number-preserved
loop-number-preserved c =
    let number : c.new.result ≡ 1 + (c.loop-number.number - 1) = omega arith in
    let next : suc (c.loop-number.number - 1) ≡ c.loop-number.number + 1 - 1 = omega arith in
    elim c.match-pure_literal.branch [
      | in-Some+in_ok-push w ↦ (
        rw w.units-is (omega (arith, w.in_ok-push.ensures.len, c.loop-number.invariant.0)),
        λ clauses m.
            let p : Literal → Bool = λ x. occurs clauses x && not (occurs clauses (negation x)) in
            rw (w.units-is, ← next) (w.in_ok-push.ensures.items ∙ ap (λ (xs : List Literal). xs ++ w.in-Some.literal ∷ []) (c.loop-number.invariant.1 clauses m)
            ∙ pure_more p (c.loop-number.number - 1) c.new.result (w.in-Some.literal ∷ []) number (w.in-Some.ensures (occurs clauses) m)),
      )
      | in_default w ↦ (
        rw w.units-is (omega (arith, c.loop-number.invariant.0)),
        λ clauses m.
            let p : Literal → Bool = λ x. occurs clauses x && not (occurs clauses (negation x)) in
            rw (w.units-is, ← next) (sym (append-nil c.loop-number.units.items) ∙ ap (λ (xs : List Literal). xs ++ []) (c.loop-number.invariant.1 clauses m)
            ∙ pure_more p (c.loop-number.number - 1) c.new.result [] number (w.in_default.ensures (occurs clauses) m)),
      )
    ]

pub returns-clause-units : goal.returns-clause-units
returns-clause-units c = λ clauses m.
    let last : c.loop-number.number - 1 ≡ c.args.vars = omega arith in
    rw (← last) (c.loop-number.invariant.1 clauses m)

pub returns-clause-within : goal.returns-clause-within
returns-clause-within c = λ clauses m.
    let last : c.loop-number.number - 1 ≡ c.args.vars = omega arith in
    let units : c.loop-number.units.items ≡ pure_literals (record { vars = c.args.vars; clauses = clauses }) = rw (← last) (c.loop-number.invariant.1 clauses m) in
    rw units (pure_within (record { vars = c.args.vars; clauses = clauses }))

pub returns-clause-count : goal.returns-clause-count
returns-clause-count c = omega (arith, c.loop-number.invariant.0)

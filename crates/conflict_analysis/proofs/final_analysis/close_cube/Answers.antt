use Rattle.std.proofs.Common.{◌≡◌, ◌⊎◌, [], inl, inr, length, arith, ap, sym, ◌∙◌, subst, true}
use Rattle.clause_arena.specs.Clauses.{live_of}
use Rattle.std.specs.List.{Contains}
use Rattle.dimacs.specs.logic.Literal.{Literal, negation}
use Rattle.dimacs.proofs.LiteralLemmas.{negation-negation}
use Rattle.watches.specs.Trails.{holds}
use Rattle.conflict_analysis.specs.Lemmas.{IsClosing, IsDecision, NegatesAssumptions}
use Rattle.conflict_analysis.specs.declared.final_analysis.Closing.TheVariants as closing
use Rattle.conflict_analysis.specs.inner.FinalAnalysis.{AreNegated}
use Rattle.conflict_analysis.proofs.AssumptionLemmas.{traceable, within_from, negates_decisions, decision_holds}
use Rattle.conflict_analysis.proofs.final_analysis.close_cube.Goals as goal
use Rattle.conflict_analysis.proofs.final_analysis.close_cube.Goals.{In_ok-close-in-Clause, In_ok-close_assumption-in-Assumption}

pub close-requires-clause-front : goal.close-requires-clause-front
close-requires-clause-front c =
    traceable (live_of c.args.arena.now) c.args.trail.now c.entries-entries.result.now (length c.in_ok-seen.seen) c.entries-entries.ensures.entries c.entries-entries.ensures.valid c.requires.built c.requires.inside
    (let a = c.in_ok-seen.ensures in let v = c.vars.ensures in omega (arith, a, v))

pub close_assumption-requires-clause-front : goal.close_assumption-requires-clause-front
close_assumption-requires-clause-front c =
    traceable (live_of c.args.arena.now) c.args.trail.now c.entries-entries.result.now (length c.in_ok-seen.seen) c.entries-entries.ensures.entries c.entries-entries.ensures.valid c.requires.built c.requires.inside
    (let a = c.in_ok-seen.ensures in let v = c.vars.ensures in omega (arith, a, v))

-- what closes from a clause is decided
decided : (c : In_ok-close-in-Clause) → (l : Literal) → Contains c.close.new.lemma.lits.items l → IsDecision c.args.trail.now.entries (negation l)
decided c =
    negates_decisions c.args.trail.now.entries c.close.new.lemma.lits.items
    (subst (λ es. AreNegated es [] c.close.new.lemma.lits.items) c.entries-entries.ensures.entries
    (subst (λ xs. AreNegated c.entries-entries.result.now xs c.close.new.lemma.lits.items) c.new-lemma.ensures.lits c.in_ok-close-in-Clause.ensures.negated))

pub returns-in-Clause-clause-negates : goal.returns-in-Clause-clause-negates
returns-in-Clause-clause-negates c = rw c.in-Clause.is (decided (goal.at.returns-in-Clause-clause-negates c).In_ok-close-in-Clause)

pub returns-in-Clause-clause-within : goal.returns-in-Clause-clause-within
returns-in-Clause-clause-within c =
    let b = (goal.at.returns-in-Clause-clause-within c).In_ok-close-in-Clause in
    within_from c.args.trail.now.vars c.args.trail.now.entries c.close.new.lemma.lits.items c.entries-entries.ensures.valid.within
    (λ l i. inl (decision_holds c.args.trail.now.entries (negation l) (decided b l i)))

-- what closes from an assumption is decided, or its negation
negates : (c : In_ok-close_assumption-in-Assumption) → (l : Literal) → Contains c.close_assumption.new.lemma.lits.items l → IsDecision c.args.trail.now.entries (negation l) ⊎ (negation l ≡ c.in-Assumption.literal)
negates c = subst (λ es. NegatesAssumptions es (closing.Assumption c.in-Assumption.literal) c.close_assumption.new.lemma.lits.items) c.entries-entries.ensures.entries c.in_ok-close_assumption-in-Assumption.ensures.negates

pub returns-clause-negates : goal.returns-clause-negates
returns-clause-negates c = rw c.in-Assumption.is (negates (goal.at.returns-clause-negates c).In_ok-close_assumption-in-Assumption)

pub returns-clause-within : goal.returns-clause-within
returns-clause-within c =
    let b = (goal.at.returns-clause-within c).In_ok-close_assumption-in-Assumption in
    within_from c.args.trail.now.vars c.args.trail.now.entries c.close_assumption.new.lemma.lits.items c.entries-entries.ensures.valid.within
    (λ l i. elim (negates b l i) [
      | inl d ↦ inl (decision_holds c.args.trail.now.entries (negation l) d)
      | inr q ↦ inr (subst (λ k. holds c.args.trail.now.entries k ≡ true) (ap negation (sym q) ∙ negation-negation l) (subst (IsClosing (live_of c.args.arena.now) c.args.trail.now.entries) c.in-Assumption.is c.requires.closing).0)
    ])

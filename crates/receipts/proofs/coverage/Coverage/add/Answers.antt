use Rattle.std.proofs.Common.{◌≡◌, ◌^◌, ◌+◌, ◌≤◌, ◌∙◌, List, length, sym, refl}
use Rattle.dimacs.specs.logic.Literal.{Clause}
use Rattle.icnf.specs.Leaves.{Cube}
use Rattle.receipts.specs.declared.fault.CoverFault.{CoverFault}
use Rattle.receipts.specs.declared.fault.CoverFault.TheVariants.{TooMany}
use Rattle.receipts.specs.Coverage.{HasTakenClauses}
use Rattle.receipts.proofs.CoverageLemmas.{none_told}
use Rattle.receipts.proofs.CoverageStepLemmas.{err_weaker, fault_pair, large_closes_none, pair_closes_none, same_covers, stays_more}
use Rattle.receipts.proofs.coverage.Coverage.add.Goals as goal

pub returns-then-not-is_small-clause-covers : goal.returns-then-not-is_small-clause-covers
returns-then-not-is_small-clause-covers c = λ cubes clauses h.
    let l = c.is_small.ensures.none c.if-not-is_small.true in
    stays_more cubes clauses c.args.clause.now c.args.self.now _ h refl (large_closes_none cubes clauses c.args.clause.now c.args.self.now h l.0 l.1 l.2)

pub returns-then-not-is_small-clause-told : goal.returns-then-not-is_small-clause-told
returns-then-not-is_small-clause-told c = λ cubes clauses h.
    let l = c.is_small.ensures.none c.if-not-is_small.true in
    sym (none_told cubes clauses c.args.clause.now (large_closes_none cubes clauses c.args.clause.now c.args.self.now h l.0 l.1 l.2))

pub returns-then-is_some-clause-covers : goal.returns-then-is_some-clause-covers
returns-then-is_some-clause-covers c = λ cubes clauses h.
    stays_more cubes clauses c.args.clause.now c.args.self.now _ h refl
    (pair_closes_none cubes clauses c.args.clause.now c.args.self.now h
    (fault_pair c.args.self.now.tautology_checker c.args.clause.now c.in_ok-fault.field-0 c.args.self.now.absurd c.in_ok-fault.ensures.fault (sym c.is_some.ensures ∙ c.if-is_some.true)))

pub returns-then-is_some-clause-told : goal.returns-then-is_some-clause-told
returns-then-is_some-clause-told c = λ cubes clauses h.
    sym (none_told cubes clauses c.args.clause.now
    (pair_closes_none cubes clauses c.args.clause.now c.args.self.now h
    (fault_pair c.args.self.now.tautology_checker c.args.clause.now c.in_ok-fault.field-0 c.args.self.now.absurd c.in_ok-fault.ensures.fault (sym c.is_some.ensures ∙ c.if-is_some.true))))

pub returns-clause-many : goal.returns-clause-many
returns-clause-many c = err_weaker c.put.result _
    (λ (f : CoverFault). f ≡ TooMany → (cubes : List Cube) (clauses : List Clause) → HasTakenClauses cubes clauses c.args.self.now → 2 ^ 48 ≤ length clauses + 2)
    (λ f many e cubes clauses h. many e cubes clauses (same_covers cubes clauses c.args.self.now _ refl h)) c.put.ensures.many

use Rattle.std.proofs.Common.{arith, ◌≡◌, ℕ, ◌+◌, ◌<◌, ◌≤◌, Bool, false, [], List, length, sym, subst, ◌∙◌, refl, ⊎_elim}
use Rattle.std.specs.Prelude.{slice_index_or}
use Rattle.std.proofs.lemmas.Bool.{cases_lt, both_ways}
use Rattle.std.proofs.lemmas.List.{get_or_default}
use Rattle.dimacs.specs.logic.Cnf.{assignment_of, Sat}
use Rattle.dimacs.specs.logic.Literal.{Clause, IsTrueIn}
use Rattle.dimacs.proofs.assignment.satisfies.Goals as goal

-- a fact of the clauses below i, and of the clause at i, whatever stands for a clause that is missing
one_more : (a : ℕ → Bool) (clauses : List Clause) (C : Clause) (i : ℕ) → i < length clauses → C ≡ slice_index_or clauses i []
    → ((k : ℕ) (d : Clause) → k < i → IsTrueIn a (slice_index_or clauses k d)) → IsTrueIn a C
    → (k : ℕ) (d : Clause) → k < i + 1 → IsTrueIn a (slice_index_or clauses k d)
one_more a clauses C i here is below holds k d h = ⊎_elim
    (λ (less : k < i). below k d less)
    (λ (last : i ≤ k).
    let at : k ≡ i = omega arith in
    rw at (subst (λ (x : Clause). IsTrueIn a x) (is ∙ get_or_default clauses i [] d here) holds))
    (cases_lt k i)

pub returns-then-not-clause_holds : goal.returns-then-not-clause_holds
returns-then-not-clause_holds c =
    let here : c.loop-i.i < length c.args.formula.now.clauses = omega arith in
    let fails : Sat (assignment_of c.args.assignment.now) c.args.formula.now → ⊥ = λ sat.
    both_ways c.clause_holds.result c.if-not-clause_holds.true (c.clause_holds.ensures.1
    (subst (λ (x : Clause). IsTrueIn (assignment_of c.args.assignment.now) x) (sym c.clause.ensures.clause) (sat c.loop-i.i [] here))) in
    (λ t. absurd (both_ways false refl t), λ sat. absurd (fails sat))

pub loop-i-preserved : goal.loop-i-preserved
loop-i-preserved c =
    one_more _ c.args.formula.now.clauses c.clause.result.now c.loop-i.i (omega arith) c.clause.ensures.clause c.loop-i.invariant
    (c.clause_holds.ensures.0 c.if-not-clause_holds.false)

pub returns : goal.returns
returns c = (λ t k d h. c.loop-i.invariant k d (omega arith), λ h. refl)

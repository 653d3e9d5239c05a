use Rattle.std.proofs.Common.{◌≡◌, ℕ, ◌+◌, ◌-◌, inl, inr, [], get_or, Some, sym, ◌∙◌, subst, arith}
use Rattle.std.proofs.lemmas.Bool.{cases_eq}
use Rattle.dimacs.specs.logic.Cnf.{Cnf}
use Rattle.dimacs.specs.logic.ClauseMap.{live_in, map_of}
use Rattle.dimacs.specs.logic.Literal.{Clause, var_of}
use Rattle.lrat_text.proofs.ClauseMapLemmas.{numbered_between, numbered_at}
use Rattle.cube_solve.specs.inner.UnitClauses.{IsUnitOf}
use Rattle.cube_solve.proofs.unit_clauses.UnitClauses.new.Goals as goal

pub loop-i-preserved : goal.loop-i-preserved
loop-i-preserved c = λ k x lt a. elim (cases_eq k c.loop-i.i) [
  | inl e ↦ c.note.ensures.noted x (subst (λ (C : Clause). IsUnitOf C x) (sym c.clause.ensures.clause) (subst (λ j. IsUnitOf (get_or c.args.base.now.clauses j []) x) e a))
  | inr n ↦ c.note.ensures.kept (var_of x) (c.loop-i.invariant k x (omega arith) a)
]

-- a clause of the base by its number
clause_at : (B : Cnf) (n : ℕ) (C : Clause) → live_in (map_of B) n C → C ≡ get_or B.clauses (n - 1) []
clause_at B n C h =
    let b = numbered_between B.clauses n C h in
    let e : n - 1 + 1 ≡ n = (let low = b.0 in omega arith) in
    let g = subst (λ k. live_in (map_of B) k (get_or B.clauses (n - 1) [])) e (numbered_at B.clauses (n - 1) [] (let low = b.0 in let high = b.1 in omega arith)) in
    let q : Some C ≡ Some (get_or B.clauses (n - 1) []) = sym h ∙ g in
    cc

pub returns : goal.returns
returns c = λ n C l h a.
    let B = c.args.base.now in
    let b = numbered_between B.clauses n C h in
    c.loop-i.invariant (n - 1) l (let low = b.0 in let high = b.1 in let e = c.len-i-end.ensures in let t = c.loop-i-test.false in omega arith)
    (subst (λ (D : Clause). IsUnitOf D l) (clause_at B n C h) a)

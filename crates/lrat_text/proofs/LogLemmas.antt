-- A log that closes the empty cube refutes the formula.
use Rattle.std.proofs.Common.{◌≡◌, ℕ, ◌*◌, ◌<◌, ◌≤◌, max, inl, inr, List, [], ◌∷◌, ◌++◌, length, refl, sym, subst, arith}
use Rattle.std.specs.Prelude.{Contains}
use Rattle.dimacs.specs.logic.Literal.{Literal, Clause, negation}
use Rattle.dimacs.specs.logic.Cnf.{Cnf}
use Rattle.dimacs.specs.logic.ClauseMap.{ClauseMap, map_of}
use Rattle.lrat_text.specs.Log.{after_step, top_after, IsLogStep, AreLogSteps, Negates, log_top, Closes}
use Rattle.lrat_text.specs.Proof.{TakesStep, AddsEmpty, Refutation, proof_top, Accepts}
use Rattle.lrat_text.specs.declared.step.Step.{Step}
use Rattle.lrat_text.specs.declared.step.Step.TheVariants.{Add, Delete}
use Rattle.lrat_text.proofs.LineLemmas.{spells_more}

-- a step of a log is taken
pub taken : (m : ℕ) (M : ClauseMap) (top : ℕ) (step : Step) → IsLogStep m M top step → TakesStep M top step (after_step M step) (top_after top step)
taken m M top (Add id lits hints groups) h = (let e = h.0 in omega (arith, e), inl (h.2, h.1), refl, refl)
taken m M top (Delete ids) h = (h.1, h.2, refl, refl)

-- a clause all of whose literals are negations of none is empty
empty : (lits : Clause) → ((l : Literal) → Contains lits l → Contains {X = Literal} [] (negation l)) → lits ≡ []
empty [] h = refl
empty (l ∷ lits) h = let i = h l (0, omega arith, refl) in absurd (none i.0 i.1)
  where
    none : (k : ℕ) → k < 0 → ⊥
    none k h = omega (arith, h)

adds_empty : (step : Step) → Negates [] step → AddsEmpty step
adds_empty (Add id lits hints groups) h = empty lits h
adds_empty (Delete ids) h = h

refuted : (m : ℕ) (M : ClauseMap) (top : ℕ) (front : List Step) (last : Step) → AreLogSteps m M top (front ++ last ∷ []) → Negates [] last → Refutation M top (front ++ last ∷ [])
refuted m M top [] last h n = (after_step M last, top_after top last, taken m M top last h.0, inl (adds_empty last n))
refuted m M top (step ∷ front) last h n = (after_step M step, top_after top step, taken m M top step h.0, inr (refuted m (after_step M step) (top_after top step) front last h.1 n))

pub closed_accepts : (F : Cnf) (text : List ℕ) → Closes F [] text → Accepts F text
closed_accepts F text c =
    let le : max 2000000 F.vars ≤ max 2000000 (2 * F.vars) = omega arith in
    let e = c.3 in (
      c.0,
      spells_more (log_top F) (proof_top F) le text c.0 c.1,
      subst (Refutation (map_of F) (length F.clauses)) (sym e.2)
          (refuted (length F.clauses) (map_of F) (length F.clauses) e.0 e.1 (subst (AreLogSteps (length F.clauses) (map_of F) (length F.clauses)) e.2 c.2) e.3),
    )

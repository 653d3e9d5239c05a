-- The three outcomes of a search; a base of few variables is decided.
use Rattle.std.proofs.Common.{ℕ, ◌+◌, ◌^◌, ◌<◌, ◌≤◌, Bool, List, arith}
use Rattle.std.proofs.Math.Nat.{pow-le-pow_right}
use Rattle.dimacs.specs.logic.Cnf.{Cnf}
use Rattle.lrat_text.specs.Log.{Cube, Closes, IsHonest, log_top}
use Rattle.lrat_text.proofs.CountingLemmas.{few_lemmas_within}
use Rattle.cube_solve.specs.Conflicts.{MeetsConflict}
use Rattle.cube_solve.specs.Outcome.{IsModel, IsBrief, IsFresh, IsRightOutcome, allowed}
use Rattle.cube_solve.specs.declared.outcome.Outcome.TheVariants as outcome

decides : (B : Cnf) (most : ℕ) (text : List ℕ) → IsHonest B (allowed most) text → IsFresh B text → B.vars ≤ 6 → 3 ^ B.vars < most → ⊥
decides B most text honest fresh six more =
    let few : log_top B < 2 ^ 48 = omega arith in
    let r = few_lemmas_within (log_top B) few B (allowed most) text fresh.steps six honest fresh.spells fresh.fresh in
    let low : 3 ^ B.vars ≤ 3 ^ 6 = pow-le-pow_right (omega arith) six in
    omega arith

pub ends_in_model : (B : Cnf) (q : Cube) (most : ℕ) (values : List Bool) → IsModel B q values → IsRightOutcome B q most (outcome.Model values)
ends_in_model B q most values h = record { model = h; refuted = tt; brief = tt; limit = tt; fresh = tt; conflict = tt; decides = λ six more. tt }

pub ends_refuted : (B : Cnf) (q : Cube) (most : ℕ) (text : List ℕ) → Closes B q text × IsBrief B (allowed most + 1) text → IsRightOutcome B q most (outcome.Refuted text)
ends_refuted B q most text h = record { model = tt; refuted = h.0; brief = h.1; limit = tt; fresh = tt; conflict = tt; decides = λ six more. tt }

pub ends_at_limit : (B : Cnf) (q : Cube) (most : ℕ) (text : List ℕ) → IsHonest B (allowed most) text × IsFresh B text × MeetsConflict B q text → IsRightOutcome B q most (outcome.Limit text)
ends_at_limit B q most text h =
    record { model = tt; refuted = tt; brief = tt; limit = h.0; fresh = h.1; conflict = h.2; decides = decides B most text h.0 h.1 }

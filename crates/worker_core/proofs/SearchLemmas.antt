-- The rules of a worker's search, over plain values.
use Rattle.std.proofs.Common.{◌≡◌, ℕ, ◌<◌, ◌≤◌, ◌^◌, nat_lt, Bool, true, false, List, [], ◌∷◌, ◌++◌, length, take, None, refl, ap, ◌∙◌, arith}
use Rattle.std.specs.Prelude.{if◌then◌else◌}
use Rattle.std.proofs.lemmas.Bool.{ltb-true}
use Rattle.std.proofs.lemmas.List.{length-append, length-take-le, length-map}
use Rattle.dimacs.specs.logic.Cnf.{Cnf}
use Rattle.cube_split.specs.Pairs.{IsBaseWith}
use Rattle.cube_solve.specs.declared.outcome.Outcome.{Outcome}
use Rattle.cube_solve.specs.declared.outcome.Outcome.TheVariants as outcome
use Rattle.icnf.specs.Leaves.{Cube}
use Rattle.lrat_text.specs.Grammar.{LineSpellsWithin}
use Rattle.lrat_text.specs.Log.{Closes, log_top}
use Rattle.lrat_text.specs.declared.step.Step.{Step}
use Rattle.lrat_check.specs.Judgement.{value_byte}
use Rattle.lrat_check.specs.declared.verdict.Reaction.TheVariants as reaction
use Rattle.frames.specs.declared.answer.Answer.TheVariants as answers
use Rattle.evidence.specs.declared.job.JobName.{JobName}
use Rattle.worker_core.specs.declared.work.Work.{Work}
use Rattle.worker_core.specs.declared.work.Work.TheVariants.{Pending, Limited, Found}
use Rattle.worker_core.specs.inner.Invariant.{IsWork}
use Rattle.worker_core.specs.Worker.{WorkerState, WorkerWorks, MayEnd, kept}

-- a text that spells a step has at least one byte
some_byte : (most : ℕ) (text : List ℕ) (step : Step) (steps : List Step) → LineSpellsWithin most text (step ∷ steps) → 0 < length text
some_byte most text step steps spells =
    let line : List ℕ = spells.0 in
    let rest : List ℕ = spells.1 in
    let is : length text ≡ length (line ++ 10 ∷ rest) = ap length spells.2 in
    omega (arith, is, length-append line (10 ∷ rest))

closes_some : (B : Cnf) (q : Cube) (text : List ℕ) → Closes B q text → 0 < length text
closes_some B q text closes = go closes.0 closes.1 closes.3.0 closes.3.1 closes.3.2
  where
    none : (front : List Step) (last : Step) → [] ≡ front ++ last ∷ [] → ⊥
    none [] last e = cc
    none (s ∷ front) last e = cc

    go : (steps : List Step) → LineSpellsWithin (log_top B) text steps → (front : List Step) (last : Step) → steps ≡ front ++ last ∷ [] → 0 < length text
    go [] spells front last e = absurd (none front last e)
    go (step ∷ steps) spells front last e = some_byte (log_top B) text step steps spells

-- the base has at least as many variables as the formula
pub as_many_vars : (F : Cnf) (wanted : ℕ) (B : Cnf) → IsBaseWith F wanted B → F.vars ≤ B.vars
as_many_vars F wanted B is = omega (arith, ap (λ (C : Cnf). C.vars) is.is)

-- what is kept of an outcome satisfies the invariant
pub kept_is_work : (F B : Cnf) (name : JobName) (cube : Cube) (limit : ℕ) (end : Outcome) → F.vars ≤ B.vars → MayEnd B cube limit end → IsWork F B (kept name F.vars end)
kept_is_work F B name cube limit (outcome.Model values) few ends =
    (length-map (take F.vars values) value_byte ∙ length-take-le F.vars values (omega (arith, few, ends.whole)), tt)
kept_is_work F B name cube limit (outcome.Refuted text) few ends = go (nat_lt (length text) (2 ^ 32)) refl
  where
    some : 0 < length text
    some = closes_some B cube text ends.0

    go : (b : Bool) → nat_lt (length text) (2 ^ 32) ≡ b → IsWork F B (if b then Found name answers.Refuted text None else Limited name)
    go true short = ((omega (arith, some), ltb-true (length text) (2 ^ 32) short), tt)
    go false long = tt
kept_is_work F B name cube limit (outcome.Limit text) few ends = tt

pub finishes : (w : WorkerState) (name : JobName) (cube : Cube) (limit : ℕ) (end : Outcome) (work : Work) → w.work ≡ Pending name cube limit → MayEnd w.base cube limit end
    → work ≡ kept name w.formula.vars end → WorkerWorks w reaction.Finished (record w { work = work })
finishes w name cube limit end work waits ends same =
    WorkerWorks.finishes name cube limit waits end ends refl (ap (λ (k : Work). record w { work = k }) same)

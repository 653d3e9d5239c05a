use Rattle.std.proofs.Common.{◌≡◌, ◌∙◌, ℕ, zero, suc, ◌-◌, ◌≤◌, Option, IfSome, None, Some, ap, refl, sym, arith, slice_index_or, slice_set}
use Rattle.std.proofs.lemmas.List.{get_or_read}
use Rattle.coordinator_core.specs.Coordinator.{CoordinatorState, job_at, with_job}
use Rattle.coordinator_core.specs.Invariant.{IsCoordinator, IsJobAt}
use Rattle.coordinator_core.specs.declared.job_state.Job.{Job}
use Rattle.coordinator_core.proofs.InvariantLemmas.{taken_is}
use Rattle.coordinator_core.proofs.coordinator.Coordinator.take_job.Goals as goal

-- a worker's slot has its job
job_here : (c s : CoordinatorState) (worker n : ℕ) → c ≡ s → n ≡ worker → 1 ≤ n → slice_index_or c.jobs (n - 1) None ≡ job_at s worker
job_here c s worker zero same number from_1 = absurd (omega (arith, from_1))
job_here c s worker (suc k) same number from_1 =
    let slot : suc k - 1 ≡ k = omega arith in
    rw (← same, ← number) (ap (λ (i : ℕ). slice_index_or c.jobs i None) slot)

-- the job in a slot satisfies the invariant
fair_here : (c : CoordinatorState) (worker n : ℕ) (o : Option Job) → n ≡ worker → o ≡ slice_index_or c.jobs (n - 1) None → IsCoordinator c → IfSome o (λ j. IsJobAt c.leaves (worker - 1) j)
fair_here c worker n None number held is = tt
fair_here c worker n (Some j) number held is = rw (← number) (is.jobs (n - 1) j (sym held))

-- the slot without its job is that of a worker without a job
taken_here : (c s : CoordinatorState) (worker n : ℕ) (o : Option Job) → c ≡ s → n ≡ worker → o ≡ None → record c { jobs = slice_set c.jobs (n - 1) o } ≡ with_job s worker None
taken_here c s worker n o same number none = rw (← same, number, none) refl

pub invariant_of-self : goal.invariant_of-self
invariant_of-self c = (c.self.invariant.0, c.self.invariant.1, taken_is _ c.number.result _ c.take.ensures.after c.self.invariant.2, c.self.invariant.3, c.self.invariant.4)

pub returns-clause-job : goal.returns-clause-job
returns-clause-job c =
    c.take.ensures.value ∙ (get_or_read c.self.inside.jobs.items _ _ (omega arith) c.index_mut.ensures.value None ∙ job_here _ c.args.self.now c.args.worker c.number.result c.self.view_is c.number.ensures.value c.number.ensures.above)

pub returns-clause-fair : goal.returns-clause-fair
returns-clause-fair c =
    let held = get_or_read c.self.inside.jobs.items _ _ (omega arith) c.index_mut.ensures.value None in
    fair_here _ c.args.worker c.number.result _ c.number.ensures.value (c.take.ensures.value ∙ held) c.self.invariant.2

pub returns-clause-now : goal.returns-clause-now
returns-clause-now c = taken_here _ c.args.self.now c.args.worker c.number.result _ c.self.view_is c.number.ensures.value c.take.ensures.after

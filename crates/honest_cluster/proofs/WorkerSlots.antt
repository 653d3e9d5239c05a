-- The slot of a worker.
use Rattle.std.proofs.Common.{◌≡◌, ℕ, zero, suc, ◌-◌, ◌≤◌, Option, Some, None, ap, ◌∙◌, arith}
use Rattle.std.specs.Prelude.{slice_index_or}
use Rattle.coordinator_core.specs.Coordinator.{CoordinatorState, job_at}
use Rattle.coordinator_core.specs.declared.job_state.Job.{Job}
use Rattle.honest_cluster.proofs.History.{slot_of}
use Rattle.honest_cluster.proofs.Places.{none_some}

-- a worker that has a job is numbered from 1
pub job_from_1 : (c : CoordinatorState) (worker : ℕ) (j : Job) → job_at c worker ≡ Some j → 1 ≤ worker
job_from_1 c zero j h = absurd (none_some j h)
job_from_1 c (suc k) j h = omega arith

-- and the job is in its slot
pub job_desk : (c : CoordinatorState) (worker : ℕ) (j : Job) → job_at c worker ≡ Some j → slot_of c worker ≡ Some j
job_desk c zero j h = absurd (none_some j h)
job_desk c (suc k) j h = let at : suc k - 1 ≡ k = omega arith in ap (λ (n : ℕ). slice_index_or c.jobs n None) at ∙ h

-- conversely what is in the slot of a worker from 1 on is its job
pub desk_job : (c : CoordinatorState) (worker : ℕ) (o : Option Job) → 1 ≤ worker → job_at c worker ≡ o → slot_of c worker ≡ o
desk_job c zero o from_1 h = absurd (omega (arith, from_1))
desk_job c (suc k) o from_1 h = let at : suc k - 1 ≡ k = omega arith in ap (λ (n : ℕ). slice_index_or c.jobs n None) at ∙ h

-- How a split changes the indices of leaves, which are counted from 0.
use Rattle.std.specs.Prelude.{ℕ, zero, suc, ◌+◌, nat_lt, List, [], ◌∷◌, Option, Some, None, if◌then◌else◌}
use Rattle.coordinator_core.specs.declared.job_state.Job.{Job}

-- the index of leaf k after leaf i was split: it grows by 1 if leaf k is after leaf i
abbrev pub shifted : ℕ → ℕ → ℕ
shifted i k = if nat_lt i k then k + 1 else k

-- the list with x twice instead of entry i
abbrev pub doubled : {X : Type 0} → ℕ → X → List X → List X
doubled i x [] = []
doubled zero x (y ∷ ys) = x ∷ x ∷ ys
doubled (suc i) x (y ∷ ys) = y ∷ doubled i x ys

-- the job of another leaf after leaf i was split; `None` stays `None`
abbrev pub shifted_job : ℕ → Option Job → Option Job
shifted_job i None = None
shifted_job i (Some j) = Some (record j { leaf = shifted i j.leaf })

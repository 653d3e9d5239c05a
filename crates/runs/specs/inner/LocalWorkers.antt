-- The fewest calls that a worker of this process makes to answer.
use Rattle.std.specs.Prelude.{◌≡◌, ℕ, ◌+◌, ◌≤◌, ◌⊎◌, true, false}
use Rattle.std.proofs.Common.{inr, arith}
use Rattle.runs.specs.inner.Accounts.{one_if_none}
use Rattle.runs.specs.declared.local_worker.LocalWorker.{LocalWorker}

-- how many calls a worker of this process makes at least to answer: a send, and a receive if no frame waits in its inbox
abbrev pub fewest : LocalWorker → ℕ
fewest s = 1 + one_if_none s.inbox.waiting.items

-- the law `earned` of a worker of this process, whose run ends at its verdict: the worker makes at least one call to answer
pub fewest_is_more : (s : LocalWorker) → (false ≡ true) ⊎ (1 ≤ fewest s)
fewest_is_more s = inr (omega arith)

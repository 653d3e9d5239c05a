-- What the machines' steps leave as it was.
use Rattle.std.proofs.Common.{◌≡◌, ap}
use Rattle.evidence.specs.Events.{Given}
use Rattle.worker_core.specs.Worker.{WorkerState, WorkerPolls}

pub polled_formula : (w : WorkerState) (given : Given) (new : WorkerState) → WorkerPolls w given new → new.formula ≡ w.formula
polled_formula w given new (WorkerPolls.sends g n) = ap (λ (s : WorkerState). s.formula) n
polled_formula w given new (WorkerPolls.no_memory grows g n) = ap (λ (s : WorkerState). s.formula) n

pub polled_verdict : (w : WorkerState) (given : Given) (new : WorkerState) → WorkerPolls w given new → new.verdict ≡ w.verdict
polled_verdict w given new (WorkerPolls.sends g n) = ap (λ (s : WorkerState). s.verdict) n
polled_verdict w given new (WorkerPolls.no_memory grows g n) = ap (λ (s : WorkerState). s.verdict) n

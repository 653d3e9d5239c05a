use Rattle.std.proofs.Common.{subst, sym}
use Rattle.worker_core.specs.Worker.{WorkerDelivers}
use Rattle.worker_core.proofs.worker.Worker.deliver.Goals as goal

pub returns-in-Fetch : goal.returns-in-Fetch
returns-in-Fetch c = record { step = subst (λ f. WorkerDelivers c.args.self.now f c.deliver_fetch.result c.deliver_fetch.new.self) (sym c.in-Fetch.is) c.deliver_fetch.ensures }

pub returns-in-Verdict : goal.returns-in-Verdict
returns-in-Verdict c =
    record { step = subst (λ f. WorkerDelivers c.args.self.now f c.deliver_verdict.result c.deliver_verdict.new.self) (sym c.in-Verdict.is) c.deliver_verdict.ensures }

pub returns-in-Part : goal.returns-in-Part
returns-in-Part c = record { step = subst (λ f. WorkerDelivers c.args.self.now f c.deliver_part.result c.deliver_part.new.self) (sym c.in-Part.is) c.deliver_part.ensures }

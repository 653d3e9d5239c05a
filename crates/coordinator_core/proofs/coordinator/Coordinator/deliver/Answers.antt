use Rattle.std.proofs.Common.{sym, subst}
use Rattle.frames.specs.declared.frame.Frame.{Frame}
use Rattle.coordinator_core.specs.Coordinator.{CoordinatorDelivers}
use Rattle.coordinator_core.proofs.coordinator.Coordinator.deliver.Goals as goal

pub returns-in-Done : goal.returns-in-Done
returns-in-Done c = record { step = subst (λ (f : Frame). CoordinatorDelivers c.args.self.now f c.deliver_done.result c.deliver_done.new.self) (sym c.in-Done.is) c.deliver_done.ensures }

pub returns-in-Piece : goal.returns-in-Piece
returns-in-Piece c = record { step = subst (λ (f : Frame). CoordinatorDelivers c.args.self.now f c.deliver_piece.result c.deliver_piece.new.self) (sym c.in-Piece.is) c.deliver_piece.ensures }

pub returns-in-Idle : goal.returns-in-Idle
returns-in-Idle c = record { step = subst (λ (f : Frame). CoordinatorDelivers c.args.self.now f c.deliver_idle.result c.deliver_idle.new.self) (sym c.in-Idle.is) c.deliver_idle.ensures }

use Rattle.std.proofs.Common.{arith, rules, refl}
use Rattle.std.proofs.lemmas.Option.{slice_get_read}
use Rattle.honest_cluster.specs.ClosedSchedule.{HappensDeliver}
use Rattle.cluster.proofs.schedule.Schedule.deliver.Goals as goal

pub returns : goal.returns
returns c =
    HappensDeliver.delivers c.index.result.now (slice_get_read c.args.self.now.frames.items _ c.args.place c.index.result.now refl (omega arith) (search rules)) (c.deliver.ensures _ _)

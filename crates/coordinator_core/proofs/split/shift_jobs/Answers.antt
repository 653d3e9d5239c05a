use Rattle.std.proofs.Common.{◌<◌, ◌∙◌, length, sym, arith}
use Rattle.coordinator_core.specs.Splits.{shifted_job}
use Rattle.coordinator_core.proofs.SplitLemmas.{walked_next, walked_read}
use Rattle.coordinator_core.proofs.split.shift_jobs.Goals as goal

pub shift_job-requires : goal.shift_job-requires
shift_job-requires c = λ j some.
    let inside : c.loop-i.i < length c.args.jobs.now.items = omega arith in
    let read = walked_read (shifted_job c.args.leaf) c.args.jobs.now.items c.loop-i.jobs.items c.loop-i.i c.take-job.result c.index_mut.result.now inside c.loop-i.invariant.changed c.index_mut.ensures.value c.take-job.ensures.value in
    c.requires c.loop-i.i j (sym read ∙ some)

pub loop-i-preserved : goal.loop-i-preserved
loop-i-preserved c =
    let inside : c.loop-i.i < length c.args.jobs.now.items = omega arith in
    let read = walked_read (shifted_job c.args.leaf) c.args.jobs.now.items c.loop-i.jobs.items c.loop-i.i c.take-job.result c.index_mut.result.now inside c.loop-i.invariant.changed c.index_mut.ensures.value c.take-job.ensures.value in
    record {
      changed = walked_next (shifted_job c.args.leaf) c.args.jobs.now.items c.loop-i.jobs.items c.loop-i.i c.take-job.result c.shift_job.result c.take-job.new.self inside c.loop-i.invariant.changed read c.shift_job.ensures;
      size = c.loop-i.invariant.size;
    }

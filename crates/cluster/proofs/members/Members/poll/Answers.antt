use Rattle.std.proofs.Common.{arith, rules, refl}
use Rattle.std.proofs.lemmas.Option.{slice_get_read}
use Rattle.evidence.specs.Events.{Polled, given_by}
use Rattle.cluster.specs.Members.{closed_of}
use Rattle.cluster.proofs.MemberLemmas.{worker_steps}
use Rattle.cluster.proofs.members.Members.poll.Goals as goal

pub returns : goal.returns
returns c = λ frames used.
    worker_steps (closed_of c.args.self.now frames used) c.args.node (Polled c.args.worker) (given_by c.poll-2.result) c.index_mut.result.now c.poll-2.new.self
    (omega arith) (slice_get_read c.args.self.now.workers.items _ _ _ refl (omega arith) (search rules)) (c.poll-2.ensures.step c.args.worker)

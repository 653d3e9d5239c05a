use Rattle.std.proofs.Common.{◌≡◌, List, [], ◌∷◌, ◌++◌, rules, refl, ap, ◌∙◌}
use Rattle.frames.specs.declared.frame.Frame.{Frame}
use Rattle.honest_cluster.specs.ClosedSchedule.{HappensPoll}
use Rattle.cluster.specs.Members.{closed_of}
use Rattle.cluster.proofs.MemberLemmas.{may_be_polled, poll_rests}
use Rattle.cluster.proofs.schedule.Schedule.poll.Goals as goal

pub returns-in-Ok : goal.returns-in-Ok
returns-in-Ok c =
    let frames = c.args.self.now.frames.items in
    let used = c.args.self.now.used.items in
    let listed : c.push.new.self.items ≡ c.args.self.now.frames.items ++ c.in-Ok.frame ∷ [] = search rules in
    HappensPoll.sends c.in-Ok.frame (closed_of c.poll.new.self frames used) (c.in-Ok.ensures frames used) refl (ap (λ (fs : List Frame). closed_of c.poll.new.self fs used) listed)

pub returns-in-Err : goal.returns-in-Err
returns-in-Err c =
    let members = c.args.self.now.members in
    let frames = c.args.self.now.frames.items in
    let used = c.args.self.now.used.items in
    HappensPoll.no_memory (may_be_polled members c.args.node c.args.worker c.if-not-may_be_polled.ensures frames used) refl
    (ap (λ (fs : List Frame). closed_of c.poll.new.self fs used) (search rules)
    ∙ poll_rests (closed_of members frames used) c.args.node c.args.worker (closed_of c.poll.new.self frames used) (c.in-Err.ensures frames used))

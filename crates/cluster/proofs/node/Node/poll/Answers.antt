use Rattle.cluster.proofs.ScheduleLemmas.{polls_by}
use Rattle.cluster.proofs.node.Node.poll.Goals as goal

pub returns : goal.returns
returns c = rw (c.poll_reaction.ensures) (polls_by c.args.self.now c.args.number c.send_to-sent.result c.send_to-sent.new.self c.send_to-sent.ensures)

use Rattle.std.proofs.Common.{rules, ◌<◌, ◌≤◌, ◌-◌, length, arith}
use Rattle.connections.proofs.UnreadLemmas.{handed_out}
use Rattle.connections.proofs.read_buffer.ReadBuffer.take.Goals as goal

pub returns-clause-taken : goal.returns-clause-taken
returns-clause-taken c =
    let at = c.self.inside in
    let some : 0 < c.min-count.result = omega arith in
    let within : c.min-count.result ≤ at.end - at.start = omega arith in
    let inside : at.end ≤ length at.room.items = omega arith in
    rw (← c.self.view_is) (handed_out at.room.items c.args.room.now c.copy_from_slice.new.self at.place at.start at.end c.min-count.result some within inside (search rules))

use Rattle.std.proofs.Common.{◌≡◌, length, ◌∙◌, sym, ap, arith}
use Rattle.worker_core.proofs.DeliveryLemmas.{part_waits, part_holds, part_is_wrong, part_no_memory}
use Rattle.worker_core.proofs.worker.Worker.deliver_part.Goals as goal

pub returns-in-Incomplete : goal.returns-in-Incomplete
returns-in-Incomplete c =
    let h = c.in-Incomplete.ensures in
    let long : length c.as_slice.result.now ≡ c.len.result = ap length c.as_slice.ensures ∙ sym c.len.ensures.value in
    rw (← c.self.view_is) (rw (← c.as_slice.ensures) (part_waits _ c.in-Some.candidate c.in-Incomplete.candidate c.args.session c.args.part c.args.offset c.as_slice.result.now c.in-Nothing.is (sym c.take.ensures.value ∙ c.in-Some.is)
    ((c.is_next_part.ensures c.as_slice.result.now long).0 c.if-not-is_next_part.false) h.0 h.1))

pub returns-in-Right : goal.returns-in-Right
returns-in-Right c =
    let h = c.in-Right.ensures in
    let long : length c.as_slice.result.now ≡ c.len.result = ap length c.as_slice.ensures ∙ sym c.len.ensures.value in
    rw (← c.self.view_is) (rw (← c.as_slice.ensures) (part_holds _ c.in-Some.candidate c.take.new.self c.in-Right.verdict c.args.session c.args.part c.args.offset c.as_slice.result.now c.in-Nothing.is (sym c.take.ensures.value ∙ c.in-Some.is)
    ((c.is_next_part.ensures c.as_slice.result.now long).0 c.if-not-is_next_part.false) c.take.ensures.after h.0 h.1))

pub returns-in-Wrong : goal.returns-in-Wrong
returns-in-Wrong c =
    let h = c.in-Wrong.ensures in
    let long : length c.as_slice.result.now ≡ c.len.result = ap length c.as_slice.ensures ∙ sym c.len.ensures.value in
    rw (← c.self.view_is) (rw (← c.as_slice.ensures) (part_is_wrong _ c.in-Some.candidate c.take.new.self c.number.result c.args.session c.args.part c.args.offset c.as_slice.result.now c.in-Nothing.is (sym c.take.ensures.value ∙ c.in-Some.is)
    ((c.is_next_part.ensures c.as_slice.result.now long).0 c.if-not-is_next_part.false) c.take.ensures.after c.number.ensures h.0 h.1))

pub returns-in-NoMemory : goal.returns-in-NoMemory
returns-in-NoMemory c =
    let long : length c.as_slice.result.now ≡ c.len.result = ap length c.as_slice.ensures ∙ sym c.len.ensures.value in
    rw (← c.self.view_is) (rw (← c.as_slice.ensures) (part_no_memory _ c.in-Some.candidate c.in-NoMemory.candidate c.args.session c.args.part c.args.offset c.as_slice.result.now c.in-Nothing.is (sym c.take.ensures.value ∙ c.in-Some.is)
    ((c.is_next_part.ensures c.as_slice.result.now long).0 c.if-not-is_next_part.false) c.in-NoMemory.ensures.0 (omega (arith, long, c.len.ensures.above))))

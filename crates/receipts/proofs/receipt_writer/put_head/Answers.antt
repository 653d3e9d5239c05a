use Rattle.std.proofs.lemmas.Result.{on_ok_weaker}
use Rattle.receipts.proofs.WrittenLemmas.{begins_after, head_is}
use Rattle.receipts.proofs.receipt_writer.put_head.Goals as goal

pub returns-in_err-put_number-clause-begins : goal.returns-in_err-put_number-clause-begins
returns-in_err-put_number-clause-begins c =
    begins_after c.args.out.now.items _ c.put.new.out.items c.put_number.new.out.items c.in_ok-put.ensures.ok
    (begins_after c.put.new.out.items _ c.put_digest.new.out.items c.put_number.new.out.items c.in_ok-put_digest.ensures.ok
    (begins_after c.put_digest.new.out.items _ c.put-2.new.out.items c.put_number.new.out.items c.in_ok-put-2.ensures.ok
    (begins_after c.put-2.new.out.items _ c.put_digest-2.new.out.items c.put_number.new.out.items c.in_ok-put_digest-2.ensures.ok
    (begins_after c.put_digest-2.new.out.items _ c.put-3.new.out.items c.put_number.new.out.items c.in_ok-put-3.ensures.ok c.put_number.ensures.begins))))

pub returns-in_err-put-4-clause-begins : goal.returns-in_err-put-4-clause-begins
returns-in_err-put-4-clause-begins c =
    begins_after c.args.out.now.items _ c.put.new.out.items c.put-4.new.out.items c.in_ok-put.ensures.ok
    (begins_after c.put.new.out.items _ c.put_digest.new.out.items c.put-4.new.out.items c.in_ok-put_digest.ensures.ok
    (begins_after c.put_digest.new.out.items _ c.put-2.new.out.items c.put-4.new.out.items c.in_ok-put-2.ensures.ok
    (begins_after c.put-2.new.out.items _ c.put_digest-2.new.out.items c.put-4.new.out.items c.in_ok-put_digest-2.ensures.ok
    (begins_after c.put_digest-2.new.out.items _ c.put-3.new.out.items c.put-4.new.out.items c.in_ok-put-3.ensures.ok
    (begins_after c.put-3.new.out.items _ c.put_number.new.out.items c.put-4.new.out.items c.in_ok-put_number.ensures.ok c.put-4.ensures.begins)))))

pub returns-in_err-put_number-2-clause-begins : goal.returns-in_err-put_number-2-clause-begins
returns-in_err-put_number-2-clause-begins c =
    begins_after c.args.out.now.items _ c.put.new.out.items c.put_number-2.new.out.items c.in_ok-put.ensures.ok
    (begins_after c.put.new.out.items _ c.put_digest.new.out.items c.put_number-2.new.out.items c.in_ok-put_digest.ensures.ok
    (begins_after c.put_digest.new.out.items _ c.put-2.new.out.items c.put_number-2.new.out.items c.in_ok-put-2.ensures.ok
    (begins_after c.put-2.new.out.items _ c.put_digest-2.new.out.items c.put_number-2.new.out.items c.in_ok-put_digest-2.ensures.ok
    (begins_after c.put_digest-2.new.out.items _ c.put-3.new.out.items c.put_number-2.new.out.items c.in_ok-put-3.ensures.ok
    (begins_after c.put-3.new.out.items _ c.put_number.new.out.items c.put_number-2.new.out.items c.in_ok-put_number.ensures.ok
    (begins_after c.put_number.new.out.items _ c.put-4.new.out.items c.put_number-2.new.out.items c.in_ok-put-4.ensures.ok c.put_number-2.ensures.begins))))))

pub returns-clause-begins : goal.returns-clause-begins
returns-clause-begins c =
    begins_after c.args.out.now.items _ c.put.new.out.items c.put-5.new.out.items c.in_ok-put.ensures.ok
    (begins_after c.put.new.out.items _ c.put_digest.new.out.items c.put-5.new.out.items c.in_ok-put_digest.ensures.ok
    (begins_after c.put_digest.new.out.items _ c.put-2.new.out.items c.put-5.new.out.items c.in_ok-put-2.ensures.ok
    (begins_after c.put-2.new.out.items _ c.put_digest-2.new.out.items c.put-5.new.out.items c.in_ok-put_digest-2.ensures.ok
    (begins_after c.put_digest-2.new.out.items _ c.put-3.new.out.items c.put-5.new.out.items c.in_ok-put-3.ensures.ok
    (begins_after c.put-3.new.out.items _ c.put_number.new.out.items c.put-5.new.out.items c.in_ok-put_number.ensures.ok
    (begins_after c.put_number.new.out.items _ c.put-4.new.out.items c.put-5.new.out.items c.in_ok-put-4.ensures.ok
    (begins_after c.put-4.new.out.items _ c.put_number-2.new.out.items c.put-5.new.out.items c.in_ok-put_number-2.ensures.ok c.put-5.ensures.begins)))))))

pub returns-clause-ok : goal.returns-clause-ok
returns-clause-ok c =
    on_ok_weaker c.put-5.result
    (head_is c.args.out.now.items c.args.head.now c.put.new.out.items c.put_digest.new.out.items c.put-2.new.out.items c.put_digest-2.new.out.items c.put-3.new.out.items c.put_number.new.out.items c.put-4.new.out.items c.put_number-2.new.out.items c.put-5.new.out.items
    c.in_ok-put.ensures.ok c.in_ok-put_digest.ensures.ok c.in_ok-put-2.ensures.ok c.in_ok-put_digest-2.ensures.ok c.in_ok-put-3.ensures.ok c.in_ok-put_number.ensures.ok c.in_ok-put-4.ensures.ok c.in_ok-put_number-2.ensures.ok)
    c.put-5.ensures.ok

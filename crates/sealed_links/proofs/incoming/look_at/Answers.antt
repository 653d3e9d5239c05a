use Rattle.std.proofs.Common.{arith}
use Rattle.sealed_links.proofs.RecordLemmas.{record_from_tests, wrong_few, wrong_length, wrong_number, wrong_tag}
use Rattle.sealed_links.proofs.incoming.look_at.Goals as goal

pub returns-then-number-eq18446744073709551615 : goal.returns-then-number-eq18446744073709551615
returns-then-number-eq18446744073709551615 c = wrong_few c.args.key.now c.args.number c.args.bytes.now (omega arith)

pub returns-then-long-gt-MOST_BYTES : goal.returns-then-long-gt-MOST_BYTES
returns-then-long-gt-MOST_BYTES c = wrong_length c.args.key.now c.args.number c.args.bytes.now _ c.told-long.ensures (omega arith) (omega arith)

pub returns-then-not-has_number : goal.returns-then-not-has_number
returns-then-not-has_number c = wrong_number c.args.key.now c.args.number c.args.bytes.now (omega arith) (λ e. cc (c.has_number.ensures.1 e))

pub returns-then-has_tag : goal.returns-then-has_tag
returns-then-has_tag c =
    record_from_tests c.args.key.now c.args.number c.args.bytes.now _ c.told-long.ensures (omega arith) (λ i. (c.type_inv.bytes i).fits) (omega arith) (omega arith)
    (c.has_number.ensures.0 c.if-not-has_number.false) (omega arith) (c.has_tag.ensures.0 c.if-has_tag.true)

pub returns-else-has_tag : goal.returns-else-has_tag
returns-else-has_tag c =
    wrong_tag c.args.key.now c.args.number c.args.bytes.now _ c.told-long.ensures (omega arith) (omega arith) (λ e. cc (c.has_tag.ensures.1 e))

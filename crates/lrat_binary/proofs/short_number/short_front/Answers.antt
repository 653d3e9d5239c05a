use Rattle.std.proofs.Common.{arith, ◌+◌, ◌-◌, ◌*◌}
use Rattle.lrat_binary.proofs.ShortLemmas.{one_byte, two_bytes, three_bytes, four_bytes}
use Rattle.lrat_binary.proofs.short_number.short_front.Goals as goal

pub returns-then-first-lt128-clause-stands : goal.returns-then-first-lt128-clause-stands
returns-then-first-lt128-clause-stands c = one_byte c.args.text.now c.from-first.result c.if-text-lt-LONGEST.false c.from-first.ensures c.if-first-lt128.true

pub returns-then-second-lt128-clause-stands : goal.returns-then-second-lt128-clause-stands
returns-then-second-lt128-clause-stands c =
    let x = c.args.text.now in
    let a = c.from-first.result in
    let b = c.from-second.result in
    two_bytes x (a - 128 + 128 * b) a b c.if-text-lt-LONGEST.false c.from-first.ensures c.from-second.ensures c.if-first-lt128.false (omega (arith, c.type_inv.text 0)) c.if-second-lt128.true (λ e. omega arith) (omega arith)

pub returns-then-third-lt128-clause-stands : goal.returns-then-third-lt128-clause-stands
returns-then-third-lt128-clause-stands c =
    let x = c.args.text.now in
    let a = c.from-first.result in
    let b = c.from-second.result in
    let d = c.from-third.result in
    three_bytes x (a - 128 + 128 * (b - 128) + 16384 * d) a b d c.if-text-lt-LONGEST.false c.from-first.ensures c.from-second.ensures c.from-third.ensures
    c.if-first-lt128.false (omega (arith, c.type_inv.text 0)) c.if-second-lt128.false (omega (arith, c.type_inv.text 1)) c.if-third-lt128.true (λ e. omega arith) (omega arith)

pub returns-clause-stands : goal.returns-clause-stands
returns-clause-stands c =
    let x = c.args.text.now in
    let a = c.from-first.result in
    let b = c.from-second.result in
    let d = c.from-third.result in
    let e = c.from-fourth.result in
    four_bytes x (a - 128 + 128 * (b - 128) + 16384 * (d - 128) + 2097152 * e) a b d e c.if-text-lt-LONGEST.false c.from-first.ensures c.from-second.ensures c.from-third.ensures c.from-fourth.ensures
    c.if-first-lt128.false (omega (arith, c.type_inv.text 0)) c.if-second-lt128.false (omega (arith, c.type_inv.text 1)) c.if-third-lt128.false (omega (arith, c.type_inv.text 2)) c.if-fourth-ge128.false (λ z. omega arith) (omega arith)

use Rattle.std.proofs.Common.{◌≡◌, ◌+◌, ◌∙◌, arith}
use Rattle.std.specs.FinMap.{get, len}
use Rattle.std.specs.Option.{is_some}
use Rattle.lrat_check.proofs.Counted.{counted_new, counted_over, was_live}
use Rattle.lrat_check.proofs.checker.put_clause.Goals as goal

pub overflow_add-count : goal.overflow_add-count
overflow_add-count c =
    let M = c.args.clauses.now in
    let live : is_some (get M c.args.id) ≡ c.is_some-was_live.result = was_live (λ r. r.now) c.get.result (get M c.args.id) c.is_some-was_live.result c.get.ensures c.is_some-was_live.ensures in
    let more : c.args.count.now + 1 ≡ len c.insert.new.self = counted_new M c.insert.new.self c.args.id c.args.lits.now c.args.count.now c.requires c.in_ok-insert.ensures.ok (live ∙ c.if-not-was_live.true) in
    omega (arith, more, c.bound_len.ensures)

pub returns-then-not-was_live-clause-counted : goal.returns-then-not-was_live-clause-counted
returns-then-not-was_live-clause-counted c =
    let M = c.args.clauses.now in
    let live : is_some (get M c.args.id) ≡ c.is_some-was_live.result = was_live (λ r. r.now) c.get.result (get M c.args.id) c.is_some-was_live.result c.get.ensures c.is_some-was_live.ensures in
    counted_new M c.insert.new.self c.args.id c.args.lits.now c.args.count.now c.requires c.in_ok-insert.ensures.ok (live ∙ c.if-not-was_live.true)

pub returns-else-not-was_live-clause-counted : goal.returns-else-not-was_live-clause-counted
returns-else-not-was_live-clause-counted c =
    let M = c.args.clauses.now in
    let live : is_some (get M c.args.id) ≡ c.is_some-was_live.result = was_live (λ r. r.now) c.get.result (get M c.args.id) c.is_some-was_live.result c.get.ensures c.is_some-was_live.ensures in
    counted_over M c.insert.new.self c.args.id c.args.lits.now c.args.count.now c.requires c.in_ok-insert.ensures.ok (live ∙ c.if-not-was_live.false)

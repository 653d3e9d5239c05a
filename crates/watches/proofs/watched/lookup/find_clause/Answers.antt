use Rattle.std.proofs.Common.{arith}
use Rattle.watches.proofs.ReadyLemmas.{attached_at}
use Rattle.watches.proofs.watched.lookup.find_clause.Goals as goal

pub returns-clause-none : goal.returns-clause-none
returns-clause-none c = λ h.
    let x = attached_at c.args.clauses.now c.args.live.now c.args.number h in
    let l = x.1 in
    c.loop-i.invariant x.0 (omega (arith, c.loop-i-test.false, l)) x.2 x.3

use Rattle.std.proofs.Common.{◌≤◌, subst, arith}
use Rattle.watches.proofs.TrailLemmas.{within}
use Rattle.watches.proofs.trail.Trail.len.Goals as goal

pub returns-clause-within : goal.returns-clause-within
returns-clause-within c =
    let v = c.self.invariant in
    let w = within c.self.inside.entries.items c.self.inside.vars v.within v.apart in
    subst (λ t. c.len.result ≤ t.vars) c.self.view_is (omega arith)

use Rattle.std.proofs.Common.{Result, Ok, Err, IfOk, inl}
use Rattle.sealed_links.specs.Meetings.{IsOpen}
use Rattle.sealed_links.specs.declared.link.Link.{Link}
use Rattle.sealed_links.specs.declared.link.LinkEnd.{LinkEnd}
use Rattle.sealed_links.proofs.HandshakeLemmas.{has_met}
use Rattle.sealed_links.proofs.link.met.Goals as goal

-- what holds anyway holds of an open link
of_open : (X : Type 0) (r : Result Link LinkEnd) → X → IfOk r (λ link. IsOpen link → X)
of_open X (Ok link) x = λ o. x
of_open X (Err e) x = tt

pub returns-in-Accepted-clause-before : goal.returns-in-Accepted-clause-before
returns-in-Accepted-clause-before c =
    let judged = c.in-Accepted.ensures in
    inl (
      c.take-count.new.self,
      has_met c.args.key.now.bytes.items c.args.handshake c.take-count.new.self c.args.bytes.now c.take-count.result c.take-count.ensures.same c.take-count.ensures.count c.take-count.ensures.heard judged.0 judged.1 judged.2,
    )

pub returns-in-Accepted-clause-open : goal.returns-in-Accepted-clause-open
returns-in-Accepted-clause-open c =
    let judged = c.in-Accepted.ensures in
    of_open _ c.opened.result (
      c.take-count.new.self,
      has_met c.args.key.now.bytes.items c.args.handshake c.take-count.new.self c.args.bytes.now c.take-count.result c.take-count.ensures.same c.take-count.ensures.count c.take-count.ensures.heard judged.0 judged.1 judged.2,
    )

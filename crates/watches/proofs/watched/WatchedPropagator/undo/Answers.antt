use Rattle.std.proofs.Common.{◌≤◌, length, sym, ap, subst, arith}
use Rattle.watches.specs.Watches.{Watches, attached_of}
use Rattle.watches.specs.inner.Ready.{IsReady}
use Rattle.watches.proofs.ReadyLemmas.{ready_cut}
use Rattle.watches.proofs.watched.WatchedPropagator.undo.Goals as goal

pub returns-then-len-self-clause-ready : goal.returns-then-len-self-clause-ready
returns-then-len-self-clause-ready c = λ m r.
    let i = c.self.inside in
    let w : Watches = record { places = i.lists.places.items; clauses = attached_of i.lists.clauses.items i.live.items; base = i.lists.base; head = i.lists.head; stale = i.lists.stale } in
    let f = c.cut.ensures.front in
    ready_cut w c.len-len.result m c.args.trail.now c.cut.new.self f.0 c.args.level (subst (λ (x : Watches). IsReady x m c.args.trail.now) (sym c.self.view_is) r) c.cut.ensures.vars f.1 c.cut.ensures.kept f.2
    (omega (arith, c.if-len-self.true)) (omega (arith, c.len-len.ensures.value))

pub returns-else-len-self-clause-ready : goal.returns-else-len-self-clause-ready
returns-else-len-self-clause-ready c = λ m r.
    let w = c.args.self.now in
    let f = c.cut.ensures.front in
    let h : w.head ≤ length c.cut.new.self.entries = omega (arith, ap (λ (x : Watches). x.head) c.self.view_is, c.if-len-self.false, c.len-len.ensures.value) in
    ready_cut w w.head m c.args.trail.now c.cut.new.self f.0 c.args.level r c.cut.ensures.vars f.1 c.cut.ensures.kept f.2 (omega arith) h

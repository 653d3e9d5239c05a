use Rattle.std.proofs.Common.{◌+◌, length, ap, arith}
use Rattle.watches.specs.Watches.{Watches}
use Rattle.watches.specs.inner.WatchInvariants.{watches_of}
use Rattle.watches.proofs.TrailLemmas.{consistent}
use Rattle.watches.proofs.StateLemmas.{quiet}
use Rattle.watches.proofs.StepLemmas.{no_work, relinks_step, works_on}
use Rattle.watches.proofs.watched.watch_lists.WatchLists.propagate.Goals.{then-entry-level, else-entry-level+in-None-walk}
use Rattle.watches.proofs.watched.watch_lists.WatchLists.propagate.Goals as goal

pub entries-init : goal.entries-init
entries-init c = record { ready = c.requires.ready; propagated = no_work (watches_of c.args.self.now) c.args.arena.now c.args.trail.now }

pub walk_pending-requires : goal.walk_pending-requires
walk_pending-requires c = record { ready = c.entries.invariant.ready; few = omega (arith, c.requires.few, c.entries.invariant.propagated.long) }

pub returns-in-Some-clause-propagated : goal.returns-in-Some-clause-propagated
returns-in-Some-clause-propagated c = works_on (watches_of c.args.self.now) (watches_of c.entries.self) (watches_of c.walk_pending.new.self) c.walk_pending.new.self.head c.args.arena.now c.entries.arena c.walk_pending.new.arena c.args.trail.now c.entries.trail c.walk_pending.new.trail c.entries.invariant.propagated c.walk_pending.ensures.step

pub returns-then-self-len-clause-propagated : goal.returns-then-self-len-clause-propagated
returns-then-self-len-clause-propagated c = works_on (watches_of c.args.self.now) (watches_of c.entries.self) (watches_of c.walk_pending.new.self) c.walk_pending.new.self.head c.args.arena.now c.entries.arena c.walk_pending.new.arena c.args.trail.now c.entries.trail c.walk_pending.new.trail c.entries.invariant.propagated c.walk_pending.ensures.step

pub returns-then-self-len-clause-quiet : goal.returns-then-self-len-clause-quiet
returns-then-self-len-clause-quiet c =
    let k = c.in-None.ensures.satisfied in
    let p = works_on (watches_of c.args.self.now) (watches_of c.entries.self) (watches_of c.walk_pending.new.self) c.walk_pending.new.self.head c.args.arena.now c.entries.arena c.walk_pending.new.arena c.args.trail.now c.entries.trail c.walk_pending.new.trail c.entries.invariant.propagated c.walk_pending.ensures.step in
    let base = ap (λ (X : Watches). X.base) p.rest in
    let clauses = ap (λ (X : Watches). length X.clauses) p.rest in
    quiet (watches_of c.walk_pending.new.self) c.walk_pending.new.arena c.walk_pending.new.trail k.paths k.watching
    (λ l x y. consistent c.walk_pending.new.trail.entries l c.recall.ensures.apart x y)
    (omega (arith, c.if-self-len.true, c.len.ensures.value))
    (omega (arith, p.long, base, clauses, c.requires.whole))
    k.seen

pub returns-in-Some-walk-clause-propagated : goal.returns-in-Some-walk-clause-propagated
returns-in-Some-walk-clause-propagated c =
    let p = works_on (watches_of c.args.self.now) (watches_of c.entries.self) (watches_of c.walk_pending.new.self) c.walk_pending.new.self.head c.args.arena.now c.entries.arena c.walk_pending.new.arena c.args.trail.now c.entries.trail c.walk_pending.new.trail c.entries.invariant.propagated c.walk_pending.ensures.step in
    works_on (watches_of c.args.self.now) (watches_of c.walk_pending.new.self) (watches_of c.walk.new.self) c.walk.new.self.head c.args.arena.now c.walk_pending.new.arena c.walk.new.arena c.args.trail.now c.walk_pending.new.trail c.walk.new.trail p c.walk.ensures.step

pub entries-preserved : goal.entries-preserved
entries-preserved c =
    let V = watches_of c.walk_pending.new.self in
    let p = works_on (watches_of c.args.self.now) (watches_of c.entries.self) (watches_of c.walk_pending.new.self) c.walk_pending.new.self.head c.args.arena.now c.entries.arena c.walk_pending.new.arena c.args.trail.now c.entries.trail c.walk_pending.new.trail c.entries.invariant.propagated c.walk_pending.ensures.step in
    elim c.if-entry-level.branch [
      | then-entry-level w ↦ rw (w.self-is, w.arena-is, w.trail-is) (record {
        ready = w.make_pending.ensures.ready;
        propagated = works_on (watches_of c.args.self.now) V (watches_of w.make_pending.new.self) (w.make_pending.new.self.head + 1) c.args.arena.now c.walk_pending.new.arena c.walk_pending.new.arena c.args.trail.now c.walk_pending.new.trail c.walk_pending.new.trail p
            (relinks_step V (watches_of w.make_pending.new.self) c.walk_pending.new.arena c.walk_pending.new.trail w.make_pending.ensures.rest);
      })
      | else-entry-level+in-None-walk w ↦ rw (w.self-is, w.arena-is, w.trail-is) (record {
        ready = w.in-None-walk.ensures.handled;
        propagated = works_on (watches_of c.args.self.now) V (watches_of w.walk.new.self) (w.walk.new.self.head + 1) c.args.arena.now c.walk_pending.new.arena w.walk.new.arena c.args.trail.now c.walk_pending.new.trail w.walk.new.trail p w.walk.ensures.step;
      })
    ]

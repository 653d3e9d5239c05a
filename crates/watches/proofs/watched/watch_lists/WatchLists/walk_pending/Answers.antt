use Rattle.std.proofs.Common.{sym, ◌∙◌, arith}
use Rattle.watches.specs.inner.WatchInvariants.{watches_of}
use Rattle.watches.proofs.TrailLemmas.{consistent}
use Rattle.watches.proofs.StepLemmas.{no_step, steps_on}
use Rattle.watches.proofs.PendingLemmas as K
use Rattle.watches.proofs.watched.watch_lists.WatchLists.walk_pending.Goals as goal

pub watch_list-init : goal.watch_list-init
watch_list-init c =
    let W = watches_of c.args.self.now in
    let m = c.args.arena.now in
    let t = c.args.trail.now in
    record { walk = K.pending_begins W m t c.requires.ready.0 c.requires.ready.1 (λ l x y. consistent t.entries l c.recall.ensures.apart x y); step = no_step W m t }

pub next_place-here-requires : goal.next_place-here-requires
next_place-here-requires c = K.pending_low (watches_of c.watch_list.self) c.watch_list.arena c.watch_list.trail c.watch_list.previous c.watch_list.invariant.walk

pub visit_pending-requires : goal.visit_pending-requires
visit_pending-requires c = record { walk = c.watch_list.invariant.walk; here_is = c.next_place-here.ensures; there = omega arith; few = omega (arith, c.requires.few, c.watch_list.invariant.step.rest.long) }

pub watch_list-preserved : goal.watch_list-preserved
watch_list-preserved c = record {
  walk = c.in-Moves.ensures.visits.0;
  step = steps_on (watches_of c.args.self.now) (watches_of c.watch_list.self) (watches_of c.visit_pending.new.self) c.args.arena.now c.watch_list.arena c.visit_pending.new.arena c.args.trail.now c.watch_list.trail c.visit_pending.new.trail c.watch_list.invariant.step c.in-Moves.ensures.step;
}

pub watch_list-smaller : goal.watch_list-smaller
watch_list-smaller c = let l = c.in-Moves.ensures.visits.1.less in omega arith

pub watch_list-preserved-in-Stays : goal.watch_list-preserved-in-Stays
watch_list-preserved-in-Stays c = record {
  walk = c.in-Stays.ensures.visits.0;
  step = steps_on (watches_of c.args.self.now) (watches_of c.watch_list.self) (watches_of c.visit_pending.new.self) c.args.arena.now c.watch_list.arena c.visit_pending.new.arena c.args.trail.now c.watch_list.trail c.visit_pending.new.trail c.watch_list.invariant.step c.in-Stays.ensures.step;
}

pub watch_list-smaller-in-Stays : goal.watch_list-smaller-in-Stays
watch_list-smaller-in-Stays c = let l = c.in-Stays.ensures.visits.1.less in omega arith

pub returns-in-False : goal.returns-in-False
returns-in-False c = record {
  step = steps_on (watches_of c.args.self.now) (watches_of c.watch_list.self) (watches_of c.visit_pending.new.self) c.args.arena.now c.watch_list.arena c.visit_pending.new.arena c.args.trail.now c.watch_list.trail c.visit_pending.new.trail c.watch_list.invariant.step c.in-False.ensures.step;
  stops = c.in-False.ensures.visits;
  satisfied = tt;
}

pub returns-then-here-eq0-clause-satisfied : goal.returns-then-here-eq0-clause-satisfied
returns-then-here-eq0-clause-satisfied c = K.pending_ends (watches_of c.watch_list.self) c.watch_list.arena c.watch_list.trail c.watch_list.previous c.watch_list.invariant.walk (sym c.next_place-here.ensures ∙ c.if-here-eq0.true)

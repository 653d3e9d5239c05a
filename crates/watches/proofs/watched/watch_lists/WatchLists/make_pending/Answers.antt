use Rattle.std.proofs.Common.{sym, ap, ◌∙◌, arith}
use Rattle.dimacs.specs.logic.Literal.{index_of}
use Rattle.watches.specs.inner.WatchInvariants.{watches_of}
use Rattle.watches.proofs.EmptiedListLemmas as D
use Rattle.watches.proofs.StepLemmas.{unmoved, relinked_on}
use Rattle.watches.proofs.watched.watch_lists.WatchLists.make_pending.Goals as goal

pub watch_list-init : goal.watch_list-init
watch_list-init c = record { ready = c.requires.ready; rest = unmoved (watches_of c.args.self.now) }

pub next_place-here-requires : goal.next_place-here-requires
next_place-here-requires c = D.chain_in (watches_of c.args.self.now) (watches_of c.watch_list.self) c.args.arena.now c.args.trail.now c.watch_list.invariant.ready c.watch_list.invariant.rest c.recall.ensures c.args.entry c.requires.head_in c.requires.entry_is c.index-first.result (c.index-first.ensures.value ∙ ap index_of c.negate.ensures)

pub own_literal-own-requires : goal.own_literal-own-requires
own_literal-own-requires c = (D.place_real (watches_of c.args.self.now) (watches_of c.watch_list.self) c.args.arena.now c.args.trail.now c.watch_list.invariant.ready c.watch_list.invariant.rest c.recall.ensures c.args.entry c.requires.head_in c.requires.entry_is c.index-first.result (c.index-first.ensures.value ∙ ap index_of c.negate.ensures) c.next_place-here.result c.next_place-here.ensures (omega arith)).1

pub relink-requires : goal.relink-requires
relink-requires c =
    let low = D.chain_low (watches_of c.args.self.now) (watches_of c.watch_list.self) c.args.arena.now c.args.trail.now c.watch_list.invariant.ready c.watch_list.invariant.rest c.recall.ensures c.args.entry c.requires.head_in c.requires.entry_is c.index-first.result (c.index-first.ensures.value ∙ ap index_of c.negate.ensures) in
    let high = D.chain_high (watches_of c.args.self.now) (watches_of c.watch_list.self) c.args.arena.now c.args.trail.now c.watch_list.invariant.ready c.watch_list.invariant.rest c.recall.ensures c.args.entry c.requires.head_in c.requires.entry_is c.index-first.result (c.index-first.ensures.value ∙ ap index_of c.negate.ensures) in
    let real = D.place_real (watches_of c.args.self.now) (watches_of c.watch_list.self) c.args.arena.now c.args.trail.now c.watch_list.invariant.ready c.watch_list.invariant.rest c.recall.ensures c.args.entry c.requires.head_in c.requires.entry_is c.index-first.result (c.index-first.ensures.value ∙ ap index_of c.negate.ensures) c.next_place-here.result c.next_place-here.ensures (omega arith) in
    record {
      may = D.place_may (watches_of c.args.self.now) (watches_of c.watch_list.self) c.args.arena.now c.args.trail.now c.watch_list.invariant.ready c.watch_list.invariant.rest c.recall.ensures c.args.entry c.requires.head_in c.requires.entry_is c.index-first.result (c.index-first.ensures.value ∙ ap index_of c.negate.ensures) c.next_place-here.result c.next_place-here.ensures (omega arith);
      few = omega (arith, c.requires.few, c.watch_list.invariant.rest.long);
    }

pub watch_list-preserved : goal.watch_list-preserved
watch_list-preserved c = record {
  ready = D.place_waits (watches_of c.args.self.now) (watches_of c.watch_list.self) c.args.arena.now c.args.trail.now c.watch_list.invariant.ready c.watch_list.invariant.rest c.recall.ensures c.args.entry c.requires.head_in c.requires.entry_is c.index-first.result (c.index-first.ensures.value ∙ ap index_of c.negate.ensures) c.next_place-here.result c.next_place-here.ensures (omega arith) (watches_of c.relink.new.self) c.own_literal-own.result c.own_literal-own.ensures c.relink.ensures.relinks c.relink.ensures.rest;
  rest = relinked_on (watches_of c.args.self.now) (watches_of c.watch_list.self) (watches_of c.relink.new.self) c.watch_list.invariant.rest c.relink.ensures.rest;
}

pub watch_list-smaller : goal.watch_list-smaller
watch_list-smaller c =
    let l = D.place_less (watches_of c.args.self.now) (watches_of c.watch_list.self) c.args.arena.now c.args.trail.now c.watch_list.invariant.ready c.watch_list.invariant.rest c.recall.ensures c.args.entry c.requires.head_in c.requires.entry_is c.index-first.result (c.index-first.ensures.value ∙ ap index_of c.negate.ensures) c.next_place-here.result c.next_place-here.ensures (omega arith) (watches_of c.relink.new.self) c.own_literal-own.result c.own_literal-own.ensures c.relink.ensures.relinks c.relink.ensures.rest in
    omega arith

pub returns-then-here-eq0 : goal.returns-then-here-eq0
returns-then-here-eq0 c = record {
  rest = c.watch_list.invariant.rest;
  ready = D.chain_done (watches_of c.args.self.now) (watches_of c.watch_list.self) c.args.arena.now c.args.trail.now c.watch_list.invariant.ready c.watch_list.invariant.rest c.recall.ensures c.args.entry c.requires.head_in c.requires.entry_is c.index-first.result (c.index-first.ensures.value ∙ ap index_of c.negate.ensures) (sym c.next_place-here.ensures ∙ c.if-here-eq0.true);
}

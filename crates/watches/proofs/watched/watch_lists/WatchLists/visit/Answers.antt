use Rattle.std.proofs.Common.{sym, ap, subst, ◌∙◌, arith, Some}
use Rattle.dimacs.specs.logic.Literal.{IsWithin, negation, index_of}
use Rattle.watches.specs.inner.WatchLists.{MayRelink}
use Rattle.clause_arena.specs.Clauses.{live_of, RefersTo}
use Rattle.watches.specs.Trails.{holds}
use Rattle.watches.specs.declared.trail.Assigned.{Assigned}
use Rattle.watches.specs.Law.{live_among, IsImplied}
use Rattle.watches.specs.ClauseNumbers.{numbers}
use Rattle.watches.proofs.ScanLemmas.{Grows-refl, Grows-push, SameUpToOrder-refl}
use Rattle.watches.proofs.GuardLemmas.{holds_up_to}
use Rattle.watches.proofs.PendingLemmas.{is_free}
use Rattle.watches.specs.inner.WatchInvariants.{watches_of}
use Rattle.watches.specs.inner.ListWalk.{StopsAtConflict}
use Rattle.watches.proofs.StepLemmas.{unmoved, no_step}
use Rattle.watches.proofs.ListWalkLemmas as WL
use Rattle.watches.proofs.watched.watch_lists.WatchLists.visit.Goals as goal

pub other_literal-other-requires : goal.other_literal-other-requires
other_literal-other-requires c = (WL.twin_in (watches_of c.args.self.now) c.args.arena.now c.args.trail.now (negation c.requires.walk.entry.literal) c.requires.walk.entry.level c.args.previous c.args.here c.requires.walk.walk c.requires.here_is c.requires.there).1

pub value-value-requires : goal.value-value-requires
value-value-requires c = subst (IsWithin c.args.trail.now.vars) (sym c.other_literal-other.ensures) (WL.other_in (watches_of c.args.self.now) c.args.arena.now c.args.trail.now (negation c.requires.walk.entry.literal) c.requires.walk.entry.level c.args.previous c.args.here c.requires.walk.walk c.requires.here_is c.requires.there)

pub owner_of-clause-requires-clause-low : goal.owner_of-clause-requires-clause-low
owner_of-clause-requires-clause-low c = (WL.here_long (watches_of c.args.self.now) c.args.arena.now c.args.trail.now (negation c.requires.walk.entry.literal) c.requires.walk.entry.level c.args.previous c.args.here c.requires.walk.walk c.requires.here_is c.requires.there).0

pub owner_of-clause-requires-clause-within : goal.owner_of-clause-requires-clause-within
owner_of-clause-requires-clause-within c = WL.owner_in (watches_of c.args.self.now) c.args.arena.now c.args.trail.now (negation c.requires.walk.entry.literal) c.requires.walk.entry.level c.args.previous c.args.here c.requires.walk.walk c.requires.here_is c.requires.there

pub clause-requires : goal.clause-requires
clause-requires c = record { live = let s = WL.standing (watches_of c.args.self.now) c.args.arena.now c.args.trail.now (negation c.requires.walk.entry.literal) c.requires.walk.entry.level c.args.previous c.args.here c.requires.walk.walk c.requires.here_is c.requires.there in (s.0, subst (λ a. RefersTo c.args.arena.now a s.0) (sym c.owner_of-clause.ensures) s.1) }

pub owner_row-row-requires : goal.owner_row-row-requires
owner_row-row-requires c = (WL.here_long (watches_of c.args.self.now) c.args.arena.now c.args.trail.now (negation c.requires.walk.entry.literal) c.requires.walk.entry.level c.args.previous c.args.here c.requires.walk.walk c.requires.here_is c.requires.there).0

pub find_next_watch-requires : goal.find_next_watch-requires
find_next_watch-requires c = WL.ws_in (watches_of c.args.self.now) c.args.arena.now c.args.trail.now (negation c.requires.walk.entry.literal) c.requires.walk.entry.level c.args.previous c.args.here c.requires.walk.walk c.requires.here_is c.requires.there c.owner_of-clause.result c.owner_of-clause.ensures c.clause.result.now c.clause.ensures.literals

pub swap-requires : goal.swap-requires
swap-requires c =
    let s = WL.standing (watches_of c.args.self.now) c.args.arena.now c.args.trail.now (negation c.requires.walk.entry.literal) c.requires.walk.entry.level c.args.previous c.args.here c.requires.walk.walk c.requires.here_is c.requires.there in
    let l = WL.lens (watches_of c.args.self.now) c.args.arena.now c.args.trail.now (negation c.requires.walk.entry.literal) c.requires.walk.entry.level c.args.previous c.args.here c.requires.walk.walk c.requires.here_is c.requires.there c.owner_of-clause.result c.owner_of-clause.ensures c.clause.result.now c.clause.ensures.literals in
    record { live = (s.0, WL.stands_at (watches_of c.args.self.now) c.args.arena.now c.args.trail.now (negation c.requires.walk.entry.literal) c.requires.walk.entry.level c.args.previous c.args.here c.requires.walk.walk c.requires.here_is c.requires.there c.owner_of-clause.result c.owner_of-clause.ensures c.clause.result.now c.clause.ensures.literals); i_in = l.0; j_in = omega (arith, c.in-Some.ensures.1, l.1) }

pub own_literal-own-requires : goal.own_literal-own-requires
own_literal-own-requires c = (WL.here_long (watches_of c.args.self.now) c.args.arena.now c.args.trail.now (negation c.requires.walk.entry.literal) c.requires.walk.entry.level c.args.previous c.args.here c.requires.walk.walk c.requires.here_is c.requires.there).1

pub relink-requires : goal.relink-requires
relink-requires c =
    let x_in = WL.found_in (watches_of c.args.self.now) c.args.arena.now c.args.trail.now (negation c.requires.walk.entry.literal) c.requires.walk.entry.level c.args.previous c.args.here c.requires.walk.walk c.requires.here_is c.requires.there c.owner_of-clause.result c.owner_of-clause.ensures c.clause.result.now c.clause.ensures.literals c.in-Some.found.place c.in-Some.found.literal c.in-Some.ensures in
    let x_apart = WL.found_apart (watches_of c.args.self.now) c.args.arena.now c.args.trail.now (negation c.requires.walk.entry.literal) c.requires.walk.entry.level c.args.previous c.args.here c.requires.walk.walk c.requires.here_is c.requires.there c.owner_of-clause.result c.owner_of-clause.ensures c.clause.result.now c.clause.ensures.literals c.in-Some.found.place c.in-Some.found.literal c.in-Some.ensures in
    let is = c.index-in-Some.ensures.value in
    let from_is = c.index.ensures.value ∙ ap index_of (c.own_literal-own.ensures ∙ WL.here_lit (watches_of c.args.self.now) c.args.arena.now c.args.trail.now (negation c.requires.walk.entry.literal) c.requires.walk.entry.level c.args.previous c.args.here c.requires.walk.walk c.requires.here_is c.requires.there) in
    let may = WL.may (watches_of c.args.self.now) c.args.arena.now c.args.trail.now (negation c.requires.walk.entry.literal) c.requires.walk.entry.level c.args.previous c.args.here c.requires.walk.walk c.requires.here_is c.requires.there c.in-Some.found.literal x_in x_apart in
    record {
      may = subst (λ n. MayRelink c.args.self.now.places.items c.args.self.now.base n c.args.previous c.args.here c.index-in-Some.result) (sym from_is)
          (subst (MayRelink c.args.self.now.places.items c.args.self.now.base (index_of (negation c.requires.walk.entry.literal)) c.args.previous c.args.here) (sym is) may);
      few = c.requires.few;
    }

pub push-requires : goal.push-requires
push-requires c =
    record {
      within = subst (IsWithin c.args.trail.now.vars) (sym c.other_literal-other.ensures) (WL.other_in (watches_of c.args.self.now) c.args.arena.now c.args.trail.now (negation c.requires.walk.entry.literal) c.requires.walk.entry.level c.args.previous c.args.here c.requires.walk.walk c.requires.here_is c.requires.there);
      not_true = (is_free c.args.trail.now.entries c.other_literal-other.result c.value-value.result c.value-value.ensures c.in_default.not-True c.in_default-value.not-False).0;
      not_false = (is_free c.args.trail.now.entries c.other_literal-other.result c.value-value.result c.value-value.ensures c.in_default.not-True c.in_default-value.not-False).1;
      rising = c.level.ensures.greatest;
    }

pub returns-in-True : goal.returns-in-True
returns-in-True c = record {
  step = no_step (watches_of c.args.self.now) c.args.arena.now c.args.trail.now;
  visits = WL.walk_stays (watches_of c.args.self.now) c.args.arena.now c.args.trail.now c.args.previous c.args.here c.requires.walk (WL.stays (watches_of c.args.self.now) c.args.arena.now c.args.trail.now (negation c.requires.walk.entry.literal) c.requires.walk.entry.level c.args.previous c.args.here c.requires.walk.walk c.requires.here_is c.requires.there (holds_up_to c.args.trail.now.entries c.requires.walk.entry.level _ c.requires.walk.walk.levels (ap (holds c.args.trail.now.entries) (sym c.other_literal-other.ensures) ∙ c.in-True.ensures.0)));
}

pub returns-in-False : goal.returns-in-False
returns-in-False c = record {
  step = no_step (watches_of c.args.self.now) c.args.arena.now c.args.trail.now;
  visits = subst (StopsAtConflict (watches_of c.args.self.now) c.args.arena.now c.args.trail.now) (sym c.number.ensures)
      (WL.stops (watches_of c.args.self.now) c.args.arena.now c.args.trail.now (negation c.requires.walk.entry.literal) c.requires.walk.entry.level c.args.previous c.args.here c.requires.walk.walk c.requires.here_is c.requires.there c.owner_of-clause.result c.owner_of-clause.ensures c.clause.result.now c.clause.ensures.literals c.in-None.ensures c.other_literal-other.result c.other_literal-other.ensures c.in-False.ensures.1);
}

pub returns : goal.returns
returns c =
    let free = is_free c.args.trail.now.entries c.other_literal-other.result c.value-value.result c.value-value.ensures c.in_default.not-True c.in_default-value.not-False in
    let i = WL.implies (watches_of c.args.self.now) c.args.arena.now c.args.trail.now (negation c.requires.walk.entry.literal) c.requires.walk.entry.level c.args.previous c.args.here c.requires.walk.walk c.requires.here_is c.requires.there c.owner_of-clause.result c.owner_of-clause.ensures c.clause.result.now c.clause.ensures.literals c.in-None.ensures c.other_literal-other.result c.level.result c.other_literal-other.ensures free.0 free.1 c.level.ensures.present in
    let live = live_among (numbers c.args.self.now.clauses.items) (live_of c.args.arena.now) in
    let e : Assigned = record { literal = c.other_literal-other.result; level = c.level.result; reason = Some c.number-2.result } in
    let i' : IsImplied live c.args.trail.now.entries e = subst (λ n. IsImplied live c.args.trail.now.entries (record { literal = c.other_literal-other.result; level = c.level.result; reason = Some n })) (sym c.number-2.ensures) i in
    record {
      step = record { rest = unmoved (watches_of c.args.self.now); grows = Grows-push live c.args.trail.now c.args.trail.now c.push.new.self e (Grows-refl live c.args.trail.now) i' c.push.ensures.vars c.push.ensures.entries; same = SameUpToOrder-refl c.args.arena.now };
      visits = WL.walk_grows (watches_of c.args.self.now) c.args.arena.now c.args.trail.now c.push.new.self c.args.previous c.args.here c.requires.walk e c.push.ensures.entries (WL.stays_pushed (watches_of c.args.self.now) c.args.arena.now c.args.trail.now (negation c.requires.walk.entry.literal) c.requires.walk.entry.level c.args.previous c.args.here c.requires.walk.walk c.requires.here_is c.requires.there c.push.new.self e c.other_literal-other.ensures free.0 free.1 c.level.ensures.present c.push.ensures.vars c.push.ensures.entries);
    }

pub returns-in-Some : goal.returns-in-Some
returns-in-Some c =
    let from_is = c.index.ensures.value ∙ ap index_of (c.own_literal-own.ensures ∙ WL.here_lit (watches_of c.args.self.now) c.args.arena.now c.args.trail.now (negation c.requires.walk.entry.literal) c.requires.walk.entry.level c.args.previous c.args.here c.requires.walk.walk c.requires.here_is c.requires.there) in
    let go = WL.moves_at (watches_of c.args.self.now) c.args.arena.now c.args.trail.now (negation c.requires.walk.entry.literal) c.requires.walk.entry.level c.args.previous c.args.here c.requires.walk.walk c.requires.here_is c.requires.there c.owner_of-clause.result c.owner_of-clause.ensures c.clause.result.now c.clause.ensures.literals c.in-Some.found.place c.in-Some.found.literal c.in-Some.ensures c.clause.ensures.distinct c.swap.new.self c.swap.ensures c.relink.new.self.places.items c.index.result c.index-in-Some.result from_is c.index-in-Some.ensures.value c.relink.ensures.relinks in
    record { step = record { rest = c.relink.ensures.rest; grows = Grows-refl (live_among (numbers c.args.self.now.clauses.items) (live_of c.args.arena.now)) c.args.trail.now; same = go.0 }; visits = WL.walk_moves (watches_of c.args.self.now) (watches_of c.relink.new.self) c.args.arena.now c.swap.new.self c.args.trail.now c.args.previous c.args.here c.requires.walk c.relink.ensures.rest go.1 }

use Rattle.std.proofs.Common.{◌≡◌, ◌∷◌, [], sym, subst, ◌∙◌, arith, Some, true}
use Rattle.dimacs.specs.logic.Literal.{IsWithin, negation, index_of}
use Rattle.clause_arena.specs.Clauses.{live_of}
use Rattle.watches.specs.Trails.{holds}
use Rattle.watches.specs.declared.trail.Assigned.{Assigned}
use Rattle.watches.specs.Law.{live_among, IsImplied, IsConflict}
use Rattle.watches.specs.ClauseNumbers.{numbers}
use Rattle.watches.proofs.ScanLemmas.{Grows-refl, Grows-push, SameUpToOrder-refl}
use Rattle.watches.proofs.ListWalkLemmas.{holds_front, holds_pushed}
use Rattle.watches.proofs.FalseWatchLemmas as P
use Rattle.watches.specs.inner.WatchInvariants.{watches_of}
use Rattle.watches.specs.inner.WatchLists.{MayRelink}
use Rattle.watches.proofs.StepLemmas.{no_step, relinks_step}
use Rattle.watches.proofs.PendingLemmas as K
use Rattle.watches.proofs.watched.watch_lists.WatchLists.visit_pending_long.Goals as goal

pub own_literal-own-requires : goal.own_literal-own-requires
own_literal-own-requires c = (K.here_real (watches_of c.args.self.now) c.args.arena.now c.args.trail.now c.args.previous c.args.here c.requires.walk c.requires.here_is c.requires.there).1

pub value-requires : goal.value-requires
value-requires c = subst (IsWithin c.args.trail.now.vars) (sym c.own_literal-own.ensures) (K.own_in (watches_of c.args.self.now) c.args.arena.now c.args.trail.now c.requires.walk.paths c.requires.walk.watching c.args.here (K.long_here (watches_of c.args.self.now) c.args.arena.now c.args.trail.now c.args.previous c.args.here c.requires.walk c.requires.here_is c.requires.there c.requires.long))

pub relink-requires : goal.relink-requires
relink-requires c =
    let own_in : IsWithin c.args.trail.now.vars c.own_literal-own.result = subst (IsWithin c.args.trail.now.vars) (sym c.own_literal-own.ensures) (K.own_in (watches_of c.args.self.now) c.args.arena.now c.args.trail.now c.requires.walk.paths c.requires.walk.watching c.args.here (K.long_here (watches_of c.args.self.now) c.args.arena.now c.args.trail.now c.args.previous c.args.here c.requires.walk c.requires.here_is c.requires.there c.requires.long)) in
    let h = K.chain_in (watches_of c.args.self.now) c.args.arena.now c.args.trail.now c.args.previous c.args.here c.requires.walk c.requires.here_is c.requires.there (K.long_here (watches_of c.args.self.now) c.args.arena.now c.args.trail.now c.args.previous c.args.here c.requires.walk c.requires.here_is c.requires.there c.requires.long) c.own_literal-own.result own_in in
    let hi = K.index_high c.args.trail.now.vars c.own_literal-own.result own_in in
    let is = c.index.ensures.value in
    let re = K.here_real (watches_of c.args.self.now) c.args.arena.now c.args.trail.now c.args.previous c.args.here c.requires.walk c.requires.here_is c.requires.there in
    record {
      may = subst (MayRelink c.args.self.now.places.items c.args.self.now.base 0 c.args.previous c.args.here) (sym is) (K.may (watches_of c.args.self.now) c.args.arena.now c.args.trail.now c.args.previous c.args.here c.requires.walk c.requires.here_is c.requires.there _ h.0 hi);
      few = c.requires.few;
    }

pub returns-in_default : goal.returns-in_default
returns-in_default c = record {
  step = relinks_step (watches_of c.args.self.now) (watches_of c.relink.new.self) c.args.arena.now c.args.trail.now c.relink.ensures.rest;
  visits = K.pending_moves (watches_of c.args.self.now) (watches_of c.relink.new.self) c.args.arena.now c.args.trail.now c.args.previous c.args.here c.relink.ensures.rest (K.goes_home (watches_of c.args.self.now) c.args.arena.now c.args.trail.now c.args.previous c.args.here c.requires.walk c.requires.here_is c.requires.there (K.long_here (watches_of c.args.self.now) c.args.arena.now c.args.trail.now c.args.previous c.args.here c.requires.walk c.requires.here_is c.requires.there c.requires.long) c.relink.new.self.places.items c.own_literal-own.result c.index.result c.own_literal-own.ensures c.index.ensures.value
      (K.not_false c.args.trail.now.entries c.own_literal-own.result c.value.result c.value.ensures c.in_default.not-False) c.relink.ensures.relinks);
}

pub owner_of-clause-requires-clause-low : goal.owner_of-clause-requires-clause-low
owner_of-clause-requires-clause-low c = (K.here_real (watches_of c.args.self.now) c.args.arena.now c.args.trail.now c.args.previous c.args.here c.requires.walk c.requires.here_is c.requires.there).0

pub owner_of-clause-requires-clause-within : goal.owner_of-clause-requires-clause-within
owner_of-clause-requires-clause-within c = K.owner_in (watches_of c.args.self.now) c.args.arena.now c.args.trail.now c.args.previous c.args.here c.requires.walk c.requires.here_is c.requires.there

pub clause-requires : goal.clause-requires
clause-requires c = record { live = ((P.standing (watches_of c.args.self.now) c.args.arena.now c.args.trail.now c.requires.walk.paths c.requires.walk.watching c.args.here (K.long_here (watches_of c.args.self.now) c.args.arena.now c.args.trail.now c.args.previous c.args.here c.requires.walk c.requires.here_is c.requires.there c.requires.long) c.own_literal-own.result (sym c.own_literal-own.ensures) c.in-False.ensures.1).0, P.stands_at (watches_of c.args.self.now) c.args.arena.now c.args.trail.now c.requires.walk.paths c.requires.walk.watching c.args.here (K.long_here (watches_of c.args.self.now) c.args.arena.now c.args.trail.now c.args.previous c.args.here c.requires.walk c.requires.here_is c.requires.there c.requires.long) c.own_literal-own.result (sym c.own_literal-own.ensures) c.in-False.ensures.1 c.owner_of-clause.result c.owner_of-clause.ensures) }

pub find_watch-requires : goal.find_watch-requires
find_watch-requires c = P.ws_in (watches_of c.args.self.now) c.args.arena.now c.args.trail.now c.requires.walk.paths c.requires.walk.watching c.args.here (K.long_here (watches_of c.args.self.now) c.args.arena.now c.args.trail.now c.args.previous c.args.here c.requires.walk c.requires.here_is c.requires.there c.requires.long) c.own_literal-own.result (sym c.own_literal-own.ensures) c.in-False.ensures.1 c.owner_of-clause.result c.owner_of-clause.ensures c.clause.result.now c.clause.ensures.literals

pub swap-requires : goal.swap-requires
swap-requires c =
    let l = P.lens (watches_of c.args.self.now) c.args.arena.now c.args.trail.now c.requires.walk.paths c.requires.walk.watching c.args.here (K.long_here (watches_of c.args.self.now) c.args.arena.now c.args.trail.now c.args.previous c.args.here c.requires.walk c.requires.here_is c.requires.there c.requires.long) c.own_literal-own.result (sym c.own_literal-own.ensures) c.in-False.ensures.1 c.owner_of-clause.result c.owner_of-clause.ensures c.clause.result.now c.clause.ensures.literals in
    record { live = ((P.standing (watches_of c.args.self.now) c.args.arena.now c.args.trail.now c.requires.walk.paths c.requires.walk.watching c.args.here (K.long_here (watches_of c.args.self.now) c.args.arena.now c.args.trail.now c.args.previous c.args.here c.requires.walk c.requires.here_is c.requires.there c.requires.long) c.own_literal-own.result (sym c.own_literal-own.ensures) c.in-False.ensures.1).0, P.stands_at (watches_of c.args.self.now) c.args.arena.now c.args.trail.now c.requires.walk.paths c.requires.walk.watching c.args.here (K.long_here (watches_of c.args.self.now) c.args.arena.now c.args.trail.now c.args.previous c.args.here c.requires.walk c.requires.here_is c.requires.there c.requires.long) c.own_literal-own.result (sym c.own_literal-own.ensures) c.in-False.ensures.1 c.owner_of-clause.result c.owner_of-clause.ensures); i_in = l.0; j_in = omega (arith, c.in-Some.ensures.1, l.1) }

pub relink-requires-in-Some : goal.relink-requires-in-Some
relink-requires-in-Some c =
    let x_in = P.found_in (watches_of c.args.self.now) c.args.arena.now c.args.trail.now c.requires.walk.paths c.requires.walk.watching c.args.here (K.long_here (watches_of c.args.self.now) c.args.arena.now c.args.trail.now c.args.previous c.args.here c.requires.walk c.requires.here_is c.requires.there c.requires.long) c.own_literal-own.result (sym c.own_literal-own.ensures) c.in-False.ensures.1 c.owner_of-clause.result c.owner_of-clause.ensures c.clause.result.now c.clause.ensures.literals c.in-Some.found.place c.in-Some.found.literal c.in-Some.ensures in
    let h = K.chain_in (watches_of c.args.self.now) c.args.arena.now c.args.trail.now c.args.previous c.args.here c.requires.walk c.requires.here_is c.requires.there (K.long_here (watches_of c.args.self.now) c.args.arena.now c.args.trail.now c.args.previous c.args.here c.requires.walk c.requires.here_is c.requires.there c.requires.long) c.in-Some.found.literal x_in in
    let hi = K.index_high c.args.trail.now.vars c.in-Some.found.literal x_in in
    let is = c.index-in-Some.ensures.value in
    let re = K.here_real (watches_of c.args.self.now) c.args.arena.now c.args.trail.now c.args.previous c.args.here c.requires.walk c.requires.here_is c.requires.there in
    record {
      may = subst (MayRelink c.args.self.now.places.items c.args.self.now.base 0 c.args.previous c.args.here) (sym is) (K.may (watches_of c.args.self.now) c.args.arena.now c.args.trail.now c.args.previous c.args.here c.requires.walk c.requires.here_is c.requires.there _ h.0 hi);
      few = c.requires.few;
    }

pub returns-in-Some : goal.returns-in-Some
returns-in-Some c =
    let x_in = P.found_in (watches_of c.args.self.now) c.args.arena.now c.args.trail.now c.requires.walk.paths c.requires.walk.watching c.args.here (K.long_here (watches_of c.args.self.now) c.args.arena.now c.args.trail.now c.args.previous c.args.here c.requires.walk c.requires.here_is c.requires.there c.requires.long) c.own_literal-own.result (sym c.own_literal-own.ensures) c.in-False.ensures.1 c.owner_of-clause.result c.owner_of-clause.ensures c.clause.result.now c.clause.ensures.literals c.in-Some.found.place c.in-Some.found.literal c.in-Some.ensures in
    let l = P.lens (watches_of c.args.self.now) c.args.arena.now c.args.trail.now c.requires.walk.paths c.requires.walk.watching c.args.here (K.long_here (watches_of c.args.self.now) c.args.arena.now c.args.trail.now c.args.previous c.args.here c.requires.walk c.requires.here_is c.requires.there c.requires.long) c.own_literal-own.result (sym c.own_literal-own.ensures) c.in-False.ensures.1 c.owner_of-clause.result c.owner_of-clause.ensures c.clause.result.now c.clause.ensures.literals in
    let go = K.goes_at (watches_of c.args.self.now) c.args.arena.now c.args.trail.now c.args.previous c.args.here c.requires.walk c.requires.here_is c.requires.there (K.long_here (watches_of c.args.self.now) c.args.arena.now c.args.trail.now c.args.previous c.args.here c.requires.walk c.requires.here_is c.requires.there c.requires.long) c.own_literal-own.result (sym c.own_literal-own.ensures) c.in-False.ensures.1 c.owner_of-clause.result c.owner_of-clause.ensures c.clause.result.now (P.standing (watches_of c.args.self.now) c.args.arena.now c.args.trail.now c.requires.walk.paths c.requires.walk.watching c.args.here (K.long_here (watches_of c.args.self.now) c.args.arena.now c.args.trail.now c.args.previous c.args.here c.requires.walk c.requires.here_is c.requires.there c.requires.long) c.own_literal-own.result (sym c.own_literal-own.ensures) c.in-False.ensures.1).0 (P.ws_is (watches_of c.args.self.now) c.args.arena.now c.args.trail.now c.requires.walk.paths c.requires.walk.watching c.args.here (K.long_here (watches_of c.args.self.now) c.args.arena.now c.args.trail.now c.args.previous c.args.here c.requires.walk c.requires.here_is c.requires.there c.requires.long) c.own_literal-own.result (sym c.own_literal-own.ensures) c.in-False.ensures.1 c.owner_of-clause.result c.owner_of-clause.ensures c.clause.result.now c.clause.ensures.literals) (P.stands_at (watches_of c.args.self.now) c.args.arena.now c.args.trail.now c.requires.walk.paths c.requires.walk.watching c.args.here (K.long_here (watches_of c.args.self.now) c.args.arena.now c.args.trail.now c.args.previous c.args.here c.requires.walk c.requires.here_is c.requires.there c.requires.long) c.own_literal-own.result (sym c.own_literal-own.ensures) c.in-False.ensures.1 c.owner_of-clause.result c.owner_of-clause.ensures) l.0 c.clause.ensures.distinct
    c.in-Some.found.place c.in-Some.found.literal c.in-Some.ensures x_in c.swap.new.self c.swap.ensures c.relink-in-Some.new.self.places.items c.index-in-Some.result c.index-in-Some.ensures.value c.relink-in-Some.ensures.relinks in
    record { step = record { rest = c.relink-in-Some.ensures.rest; grows = Grows-refl (live_among (numbers c.args.self.now.clauses.items) (live_of c.args.arena.now)) c.args.trail.now; same = go.0 }; visits = K.pending_moves (watches_of c.args.self.now) (watches_of c.relink-in-Some.new.self) c.swap.new.self c.args.trail.now c.args.previous c.args.here c.relink-in-Some.ensures.rest go.1 }

pub other_literal-other-requires : goal.other_literal-other-requires
other_literal-other-requires c = (P.twin_in (watches_of c.args.self.now) c.args.arena.now c.args.trail.now c.requires.walk.paths c.requires.walk.watching c.args.here (K.long_here (watches_of c.args.self.now) c.args.arena.now c.args.trail.now c.args.previous c.args.here c.requires.walk c.requires.here_is c.requires.there c.requires.long) c.own_literal-own.result (sym c.own_literal-own.ensures) c.in-False.ensures.1).1

pub value-requires-in-None : goal.value-requires-in-None
value-requires-in-None c = subst (IsWithin c.args.trail.now.vars) (sym c.other_literal-other.ensures) (P.other_in (watches_of c.args.self.now) c.args.arena.now c.args.trail.now c.requires.walk.paths c.requires.walk.watching c.args.here (K.long_here (watches_of c.args.self.now) c.args.arena.now c.args.trail.now c.args.previous c.args.here c.requires.walk c.requires.here_is c.requires.there c.requires.long) c.own_literal-own.result (sym c.own_literal-own.ensures) c.in-False.ensures.1)

pub push-requires-clause-within : goal.push-requires-clause-within
push-requires-clause-within c = subst (IsWithin c.args.trail.now.vars) (sym c.other_literal-other.ensures) (P.other_in (watches_of c.args.self.now) c.args.arena.now c.args.trail.now c.requires.walk.paths c.requires.walk.watching c.args.here (K.long_here (watches_of c.args.self.now) c.args.arena.now c.args.trail.now c.args.previous c.args.here c.requires.walk c.requires.here_is c.requires.there c.requires.long) c.own_literal-own.result (sym c.own_literal-own.ensures) c.in-False.ensures.1)

pub return_if_guarded-requires : goal.return_if_guarded-requires
return_if_guarded-requires c = record {
  walk = c.requires.walk;
  here_is = c.requires.here_is;
  there = c.requires.there;
  long = c.requires.long;
  few = c.requires.few;
  own_false = subst (λ l. holds c.args.trail.now.entries (negation l) ≡ true) c.own_literal-own.ensures c.in-False.ensures.1;
  other_true = subst (λ l. holds c.args.trail.now.entries l ≡ true) c.other_literal-other.ensures c.in-True.ensures.0;
}

pub returns-in-True : goal.returns-in-True
returns-in-True c = record {
  step = relinks_step (watches_of c.args.self.now) (watches_of c.return_if_guarded.new.self) c.args.arena.now c.args.trail.now c.return_if_guarded.ensures.rest;
  visits = c.return_if_guarded.ensures.visits;
}

pub returns-in-False-value : goal.returns-in-False-value
returns-in-False-value c = record {
  step = no_step (watches_of c.args.self.now) c.args.arena.now c.args.trail.now;
  visits = record {
    paths = c.requires.walk.paths;
    watching = c.requires.walk.watching;
    conflict = subst (IsConflict (live_among (numbers c.args.self.now.clauses.items) (live_of c.args.arena.now)) c.args.trail.now.entries) (sym c.number.ensures)
        (P.conflicts (watches_of c.args.self.now) c.args.arena.now c.args.trail.now c.requires.walk.paths c.requires.walk.watching c.args.here (K.long_here (watches_of c.args.self.now) c.args.arena.now c.args.trail.now c.args.previous c.args.here c.requires.walk c.requires.here_is c.requires.there c.requires.long) c.own_literal-own.result (sym c.own_literal-own.ensures) c.in-False.ensures.1 c.owner_of-clause.result c.owner_of-clause.ensures c.clause.result.now c.clause.ensures.literals c.in-None.ensures c.other_literal-other.result c.other_literal-other.ensures c.in-False-value.ensures.1);
  };
}

pub return_if_guarded-requires-in-Free : goal.return_if_guarded-requires-in-Free
return_if_guarded-requires-in-Free c =
    let e : Assigned = record { literal = c.other_literal-other.result; level = c.level.result; reason = Some c.number-in-Free.result } in
    let q = c.push.ensures.entries in
    record {
      walk = K.pending_pushed (watches_of c.args.self.now) c.args.arena.now c.args.trail.now c.args.previous c.args.here c.requires.walk c.requires.here_is c.requires.there c.push.new.self e c.push.ensures.vars q c.in-Free.ensures.0 c.in-Free.ensures.1;
      here_is = c.requires.here_is;
      there = c.requires.there;
      long = c.requires.long;
      few = c.requires.few;
      own_false = subst (λ l. holds c.push.new.self.entries (negation l) ≡ true) c.own_literal-own.ensures (subst (λ es. holds es (negation c.own_literal-own.result) ≡ true) (sym q) (holds_front c.args.trail.now.entries (e ∷ []) (negation c.own_literal-own.result) c.in-False.ensures.1));
      other_true = subst (λ l. holds c.push.new.self.entries l ≡ true) c.other_literal-other.ensures (subst (λ es. holds es c.other_literal-other.result ≡ true) (sym q) (holds_pushed c.args.trail.now.entries e));
    }

pub returns-in-Free : goal.returns-in-Free
returns-in-Free c =
    let i = P.implies (watches_of c.args.self.now) c.args.arena.now c.args.trail.now c.requires.walk.paths c.requires.walk.watching c.args.here (K.long_here (watches_of c.args.self.now) c.args.arena.now c.args.trail.now c.args.previous c.args.here c.requires.walk c.requires.here_is c.requires.there c.requires.long) c.own_literal-own.result (sym c.own_literal-own.ensures) c.in-False.ensures.1 c.owner_of-clause.result c.owner_of-clause.ensures c.clause.result.now c.clause.ensures.literals c.in-None.ensures c.other_literal-other.result c.level.result c.other_literal-other.ensures c.in-Free.ensures.0 c.in-Free.ensures.1 c.level.ensures.present in
    let live = live_among (numbers c.args.self.now.clauses.items) (live_of c.args.arena.now) in
    let e : Assigned = record { literal = c.other_literal-other.result; level = c.level.result; reason = Some c.number-in-Free.result } in
    let i' : IsImplied live c.args.trail.now.entries e = subst (λ n. IsImplied live c.args.trail.now.entries (record { literal = c.other_literal-other.result; level = c.level.result; reason = Some n })) (sym c.number-in-Free.ensures) i in
    record {
      step = record { rest = c.return_if_guarded-in-Free.ensures.rest; grows = Grows-push live c.args.trail.now c.args.trail.now c.push.new.self e (Grows-refl live c.args.trail.now) i' c.push.ensures.vars c.push.ensures.entries; same = SameUpToOrder-refl c.args.arena.now };
      visits = c.return_if_guarded-in-Free.ensures.visits;
    }

use Rattle.std.proofs.Common.{◌≡◌, sym, ap, subst, ◌∙◌, arith, Some, All, Contains, true}
use Rattle.std.proofs.lemmas.List.Elements.{All-contains}
use Rattle.dimacs.specs.logic.Literal.{Literal, IsWithin}
use Rattle.dimacs.specs.logic.Propagation.{IsFalse, IsUnit}
use Rattle.clause_arena.specs.declared.reference.Ref.{Ref}
use Rattle.clause_arena.specs.Clauses.{live_of, RefersTo}
use Rattle.clause_arena.proofs.ClauseLaws.{stands_once}
use Rattle.watches.specs.Trails.{holds}
use Rattle.watches.specs.declared.trail.Assigned.{Assigned}
use Rattle.watches.specs.Law.{live_among, IsImplied, NeitherFalseNorUnit}
use Rattle.watches.specs.ClauseNumbers.{numbers}
use Rattle.watches.proofs.ScanLemmas.{Grows-refl, Grows-push, SameUpToOrder-refl}
use Rattle.watches.specs.inner.WatchInvariants.{owner}
use Rattle.watches.specs.inner.WatchInvariants.{watches_of}
use Rattle.watches.proofs.StepLemmas.{no_step, relinks_step}
use Rattle.watches.proofs.PendingLemmas as K
use Rattle.watches.proofs.ListWalkLemmas.{holds_pushed}
use Rattle.watches.proofs.watched.watch_lists.WatchLists.visit_pending_short.Goals as goal

pub owner_of-clause-requires-clause-low : goal.owner_of-clause-requires-clause-low
owner_of-clause-requires-clause-low c = (K.here_real (watches_of c.args.self.now) c.args.arena.now c.args.trail.now c.args.previous c.args.here c.requires.walk c.requires.here_is c.requires.there).0

pub owner_of-clause-requires-clause-within : goal.owner_of-clause-requires-clause-within
owner_of-clause-requires-clause-within c = K.owner_in (watches_of c.args.self.now) c.args.arena.now c.args.trail.now c.args.previous c.args.here c.requires.walk c.requires.here_is c.requires.there

pub clause-requires : goal.clause-requires
clause-requires c = let s = K.pending_here (watches_of c.args.self.now) c.args.arena.now c.args.trail.now c.args.previous c.args.here c.requires.walk c.requires.here_is c.requires.there in record { live = (s.0, subst (λ a. RefersTo c.args.arena.now a s.0) (sym c.owner_of-clause.ensures) s.1) }

pub test_clause-requires : goal.test_clause-requires
test_clause-requires c =
    let s = K.pending_here (watches_of c.args.self.now) c.args.arena.now c.args.trail.now c.args.previous c.args.here c.requires.walk c.requires.here_is c.requires.there in
    let e = c.clause.ensures.literals s.0 (subst (λ a. RefersTo c.args.arena.now a s.0) (sym c.owner_of-clause.ensures) s.1) in
    subst (All (IsWithin c.args.trail.now.vars)) (sym e) s.2

pub push-requires-clause-within : goal.push-requires-clause-within
push-requires-clause-within c =
    let s = K.pending_here (watches_of c.args.self.now) c.args.arena.now c.args.trail.now c.args.previous c.args.here c.requires.walk c.requires.here_is c.requires.there in
    let e = c.clause.ensures.literals s.0 (subst (λ a. RefersTo c.args.arena.now a s.0) (sym c.owner_of-clause.ensures) s.1) in
    let u : IsUnit (holds c.args.trail.now.entries) s.0 c.in-Unit.literal = subst (λ C. IsUnit (holds c.args.trail.now.entries) C c.in-Unit.literal) e c.in-Unit.ensures in
    All-contains (IsWithin c.args.trail.now.vars) s.0 c.in-Unit.literal s.2 u.member

pub returns-in-False : goal.returns-in-False
returns-in-False c =
    let s = K.pending_here (watches_of c.args.self.now) c.args.arena.now c.args.trail.now c.args.previous c.args.here c.requires.walk c.requires.here_is c.requires.there in
    let e = c.clause.ensures.literals s.0 (subst (λ a. RefersTo c.args.arena.now a s.0) (sym c.owner_of-clause.ensures) s.1) in
    record {
      step = no_step (watches_of c.args.self.now) c.args.arena.now c.args.trail.now;
      visits = record {
        paths = c.requires.walk.paths;
        watching = c.requires.walk.watching;
        conflict = (
          s.0,
          subst (λ n. live_among (numbers c.args.self.now.clauses.items) (live_of c.args.arena.now) n s.0) (sym (c.number.ensures ∙ ap (λ (a : Ref). a.number) c.owner_of-clause.ensures)) (K.pending_lives (watches_of c.args.self.now) c.args.arena.now c.args.trail.now c.args.previous c.args.here c.requires.walk c.requires.here_is c.requires.there s.0 s.1),
          subst (IsFalse (holds c.args.trail.now.entries)) e c.in-False.ensures,
        );
      };
    }

pub retire-requires-in-Other : goal.retire-requires-in-Other
retire-requires-in-Other c =
    let s = K.pending_here (watches_of c.args.self.now) c.args.arena.now c.args.trail.now c.args.previous c.args.here c.requires.walk c.requires.here_is c.requires.there in
    let e = c.clause.ensures.literals s.0 (subst (λ a. RefersTo c.args.arena.now a s.0) (sym c.owner_of-clause.ensures) s.1) in
    let calm : NeitherFalseNorUnit (holds c.args.trail.now.entries) s.0 = subst (NeitherFalseNorUnit (holds c.args.trail.now.entries)) e c.in-Other.ensures in
    let b = K.short_true c.args.trail.now.entries s.0 (omega (arith, s.1.1, c.requires.short)) calm in
    record {
      walk = c.requires.walk;
      here_is = c.requires.here_is;
      there = c.requires.there;
      short = c.requires.short;
      few = c.requires.few;
      satisfied = λ D st. subst (λ E. (l : Literal) × Contains E l × (holds c.args.trail.now.entries l ≡ true)) (stands_once c.args.arena.now (owner (watches_of c.args.self.now) c.args.here) s.0 D s.1 st) b;
    }

pub retire-requires : goal.retire-requires
retire-requires c =
    let s = K.pending_here (watches_of c.args.self.now) c.args.arena.now c.args.trail.now c.args.previous c.args.here c.requires.walk c.requires.here_is c.requires.there in
    let es = c.args.trail.now.entries in
    let words = c.clause.ensures.literals s.0 (subst (λ a. RefersTo c.args.arena.now a s.0) (sym c.owner_of-clause.ensures) s.1) in
    let u : IsUnit (holds es) s.0 c.in-Unit.literal = subst (λ C. IsUnit (holds es) C c.in-Unit.literal) words c.in-Unit.ensures in
    let e : Assigned = record { literal = c.in-Unit.literal; level = c.level.result; reason = Some c.number-in-Unit.result } in
    let h : holds c.push.new.self.entries c.in-Unit.literal ≡ true = subst (λ xs. holds xs c.in-Unit.literal ≡ true) (sym c.push.ensures.entries) (holds_pushed es e) in
    record {
      walk = K.pending_pushed (watches_of c.args.self.now) c.args.arena.now c.args.trail.now c.args.previous c.args.here c.requires.walk c.requires.here_is c.requires.there c.push.new.self e c.push.ensures.vars c.push.ensures.entries u.not_true u.not_false;
      here_is = c.requires.here_is;
      there = c.requires.there;
      short = c.requires.short;
      few = c.requires.few;
      satisfied = λ D st. (c.in-Unit.literal, subst (λ E. Contains E c.in-Unit.literal) (stands_once c.args.arena.now (owner (watches_of c.args.self.now) c.args.here) s.0 D s.1 st) u.member, h);
    }

pub returns-in-Other : goal.returns-in-Other
returns-in-Other c = record {
  step = relinks_step (watches_of c.args.self.now) (watches_of c.retire-in-Other.new.self) c.args.arena.now c.args.trail.now c.retire-in-Other.ensures.rest;
  visits = c.retire-in-Other.ensures.visits;
}

pub returns-in-Unit : goal.returns-in-Unit
returns-in-Unit c =
    let s = K.pending_here (watches_of c.args.self.now) c.args.arena.now c.args.trail.now c.args.previous c.args.here c.requires.walk c.requires.here_is c.requires.there in
    let es = c.args.trail.now.entries in
    let words = c.clause.ensures.literals s.0 (subst (λ a. RefersTo c.args.arena.now a s.0) (sym c.owner_of-clause.ensures) s.1) in
    let u : IsUnit (holds es) s.0 c.in-Unit.literal = subst (λ C. IsUnit (holds es) C c.in-Unit.literal) words c.in-Unit.ensures in
    let live = live_among (numbers c.args.self.now.clauses.items) (live_of c.args.arena.now) in
    let n = c.number-in-Unit.ensures ∙ ap (λ (a : Ref). a.number) c.owner_of-clause.ensures in
    let e : Assigned = record { literal = c.in-Unit.literal; level = c.level.result; reason = Some c.number-in-Unit.result } in
    let i : IsImplied live es e = record { number = (owner (watches_of c.args.self.now) c.args.here).number; clause = s.0; reason = ap Some n; lives = K.pending_lives (watches_of c.args.self.now) c.args.arena.now c.args.trail.now c.args.previous c.args.here c.requires.walk c.requires.here_is c.requires.there s.0 s.1; unit = u; level = c.level.ensures.present } in
    record {
      step = record { rest = c.retire.ensures.rest; grows = Grows-push live c.args.trail.now c.args.trail.now c.push.new.self e (Grows-refl live c.args.trail.now) i c.push.ensures.vars c.push.ensures.entries; same = SameUpToOrder-refl c.args.arena.now };
      visits = c.retire.ensures.visits;
    }

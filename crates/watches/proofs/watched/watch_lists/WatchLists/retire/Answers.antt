use Rattle.std.proofs.Common.{◌≡◌, true, sym, subst, arith, All, Contains}
use Rattle.std.proofs.lemmas.Bool.{OnTrue_at}
use Rattle.dimacs.specs.logic.Literal.{Literal, IsWithin}
use Rattle.clause_arena.specs.Clauses.{RefersTo}
use Rattle.watches.specs.Trails.{up_to}
use Rattle.watches.specs.inner.WatchInvariants.{watches_of, owner, IsRootSatisfied}
use Rattle.watches.proofs.StepLemmas.{unmoved}
use Rattle.watches.proofs.PendingLemmas as K
use Rattle.watches.proofs.watched.watch_lists.WatchLists.retire.Goals as goal
use Rattle.watches.proofs.watched.watch_lists.WatchLists.retire.Goals.{Else-not-is_root_satisfied}

pub own_literal-own-requires : goal.own_literal-own-requires
own_literal-own-requires c = (K.here_real (watches_of c.args.self.now) c.args.arena.now c.args.trail.now c.args.previous c.args.here c.requires.walk c.requires.here_is c.requires.there).1

pub relink-requires : goal.relink-requires
relink-requires c =
    let re = K.here_real (watches_of c.args.self.now) c.args.arena.now c.args.trail.now c.args.previous c.args.here c.requires.walk c.requires.here_is c.requires.there in
    let wide = c.requires.walk.watching.wide in
    let low = c.requires.walk.watching.low in
    record {
      may = K.may (watches_of c.args.self.now) c.args.arena.now c.args.trail.now c.args.previous c.args.here c.requires.walk c.requires.here_is c.requires.there 1 (omega arith) (omega arith);
      few = c.requires.few;
    }

pub owner_of-clause-requires-clause-low : goal.owner_of-clause-requires-clause-low
owner_of-clause-requires-clause-low c = (K.here_real (watches_of c.args.self.now) c.args.arena.now c.args.trail.now c.args.previous c.args.here c.requires.walk c.requires.here_is c.requires.there).0

pub owner_of-clause-requires-clause-within : goal.owner_of-clause-requires-clause-within
owner_of-clause-requires-clause-within c = K.owner_in (watches_of c.args.self.now) c.args.arena.now c.args.trail.now c.args.previous c.args.here c.requires.walk c.requires.here_is c.requires.there

pub clause-requires : goal.clause-requires
clause-requires c = let s = K.pending_here (watches_of c.args.self.now) c.args.arena.now c.args.trail.now c.args.previous c.args.here c.requires.walk c.requires.here_is c.requires.there in record { live = (s.0, subst (λ a. RefersTo c.args.arena.now a s.0) (sym c.owner_of-clause.ensures) s.1) }

pub is_root_satisfied-requires : goal.is_root_satisfied-requires
is_root_satisfied-requires c =
    let s = K.pending_here (watches_of c.args.self.now) c.args.arena.now c.args.trail.now c.args.previous c.args.here c.requires.walk c.requires.here_is c.requires.there in
    let e = c.clause.ensures.literals s.0 (subst (λ a. RefersTo c.args.arena.now a s.0) (sym c.owner_of-clause.ensures) s.1) in
    subst (All (IsWithin c.args.trail.now.vars)) (sym e) s.2

pub returns-then-not-is_root_satisfied : goal.returns-then-not-is_root_satisfied
returns-then-not-is_root_satisfied c = record {
  rest = unmoved (watches_of c.args.self.now);
  visits = K.waits (watches_of c.args.self.now) c.args.arena.now c.args.trail.now c.args.previous c.args.here c.requires.walk c.requires.here_is c.requires.there c.requires.satisfied;
}

-- the clause that was looked at has a literal that is true at level 0
settled : (c : Else-not-is_root_satisfied) → IsRootSatisfied c.args.arena.now c.args.trail.now.entries (owner (watches_of c.args.self.now) c.args.here)
settled c D st =
    let e = c.clause.ensures.literals D (subst (λ a. RefersTo c.args.arena.now a D) (sym c.owner_of-clause.ensures) st) in
    subst (λ C. (b : Literal) × Contains C b × (up_to c.args.trail.now.entries 0 b ≡ true)) e (OnTrue_at c.if-not-is_root_satisfied.false c.is_root_satisfied.ensures)

pub returns : goal.returns
returns c =
    let b = (goal.at.returns c).Else-not-is_root_satisfied in
    record {
      rest = c.relink.ensures.rest;
      visits = K.pending_moves (watches_of c.args.self.now) (watches_of c.relink.new.self) c.args.arena.now c.args.trail.now c.args.previous c.args.here c.relink.ensures.rest
          (K.retires (watches_of c.args.self.now) c.args.arena.now c.args.trail.now c.args.previous c.args.here c.requires.walk c.requires.here_is c.requires.there c.requires.short (settled b) c.relink.new.self.places.items c.own_literal-own.result c.own_literal-own.ensures c.relink.ensures.relinks);
    }

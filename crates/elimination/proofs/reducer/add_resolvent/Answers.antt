use Rattle.std.proofs.Common.{◌≡◌, ◌<◌, length, sym, subst, arith}
use Rattle.std.specs.List.{All}
use Rattle.std.proofs.lemmas.Bool.{MatchBool-at_true}
use Rattle.std.proofs.lemmas.Result.{on_ok_weaker}
use Rattle.dimacs.specs.logic.ClauseMap.{map_of, live_in}
use Rattle.dimacs.specs.logic.Literal.{Clause, IsWithin}
use Rattle.lrat_text.specs.Log.{IsNew}
use Rattle.elimination.specs.inner.Resolvents.{IsResolvent}
use Rattle.elimination.specs.inner.Indexed.{IsAdded}
use Rattle.elimination.proofs.AddingLemmas.{IsFound, found_adds, found_by, found_limits, resolvent_within}
use Rattle.elimination.proofs.reducer.add_resolvent.Goals as goal

pub is_new-requires-clause-within : goal.is_new-requires-clause-within
is_new-requires-clause-within c =
    let C = c.clause.result.now in
    let D = c.clause-2.result.now in
    let R = c.resolve.new.out.items in
    let P = IsWithin c.args.clauses.now.all.vars in
    let r : IsResolvent C D c.args.on R = MatchBool-at_true (IsResolvent C D c.args.on R) ((E : Clause) → ¬ (IsResolvent C D c.args.on E)) c.if-not-branch.false c.in_ok-resolve.ensures in
    subst (All P) (sym c.deref.ensures.value) (resolvent_within C D R c.args.on P r c.clause.ensures.within c.clause-2.ensures.within)

pub add-requires-clause-within : goal.add-requires-clause-within
add-requires-clause-within c =
    let C = c.clause.result.now in
    let D = c.clause-2.result.now in
    let R = c.resolve.new.out.items in
    let P = IsWithin c.args.clauses.now.all.vars in
    let r : IsResolvent C D c.args.on R = MatchBool-at_true (IsResolvent C D c.args.on R) ((E : Clause) → ¬ (IsResolvent C D c.args.on E)) c.if-not-branch.false c.in_ok-resolve.ensures in
    subst (All P) (sym c.deref-2.ensures.value) (resolvent_within C D R c.args.on P r c.clause.ensures.within c.clause-2.ensures.within)

pub add-requires-2 : goal.add-requires-2
add-requires-2 c =
    let all = c.args.clauses.now.all in
    let C = c.clause.result.now in
    let D = c.clause-2.result.now in
    let R = c.resolve.new.out.items in
    let r : IsResolvent C D c.args.on R = MatchBool-at_true (IsResolvent C D c.args.on R) ((E : Clause) → ¬ (IsResolvent C D c.args.on E)) c.if-not-branch.false c.in_ok-resolve.ensures in
    let left : c.args.left < length all.clauses = omega (arith, c.len-len.ensures, c.if-left-len.false) in
    let right : c.args.right < length all.clauses = omega (arith, c.len-len.ensures, c.if-right-len.false) in
    let room = c.in_ok-add.ensures.room.0 c.if-not-branch-2.false in
    let new : IsNew (live_in (map_of all)) R = subst (IsNew (live_in (map_of all))) c.deref.ensures.value c.if-not-is_new.ensures.1 in
    let found : IsFound all c.args.left c.args.right c.args.on R =
    found_by all c.args.left c.args.right c.args.on C D R c.requires.stored.base.vars left right c.clause.ensures.clause c.clause-2.ensures.clause
    c.clause.ensures.within c.clause-2.ensures.within r new room.0 in
    rw (c.len-len.ensures, c.deref-3.ensures.value) (found_limits all c.args.left c.args.right c.args.on R found)

pub returns-clause-adds : goal.returns-clause-adds
returns-clause-adds c =
    let all = c.args.clauses.now.all in
    let C = c.clause.result.now in
    let D = c.clause-2.result.now in
    let R = c.resolve.new.out.items in
    let r : IsResolvent C D c.args.on R = MatchBool-at_true (IsResolvent C D c.args.on R) ((E : Clause) → ¬ (IsResolvent C D c.args.on E)) c.if-not-branch.false c.in_ok-resolve.ensures in
    let left : c.args.left < length all.clauses = omega (arith, c.len-len.ensures, c.if-left-len.false) in
    let right : c.args.right < length all.clauses = omega (arith, c.len-len.ensures, c.if-right-len.false) in
    let room = c.in_ok-add.ensures.room.0 c.if-not-branch-2.false in
    let new : IsNew (live_in (map_of all)) R = subst (IsNew (live_in (map_of all))) c.deref.ensures.value c.if-not-is_new.ensures.1 in
    let found : IsFound all c.args.left c.args.right c.args.on R =
    found_by all c.args.left c.args.right c.args.on C D R c.requires.stored.base.vars left right c.clause.ensures.clause c.clause-2.ensures.clause
    c.clause.ensures.within c.clause-2.ensures.within r new room.0 in
    let S = c.deref-2.result.now in
    let grown : IsAdded c.args.clauses.now c.add.new.self S =
    MatchBool-at_true (IsAdded c.args.clauses.now c.add.new.self S) (c.add.new.self ≡ c.args.clauses.now) c.if-not-branch-2.false c.in_ok-add.ensures.added in
    on_ok_weaker c.add-2.result
    (λ e. found_adds all c.add.new.self.all c.args.lines.now c.add-2.new.self c.args.left c.args.right c.len-len.result c.args.on R S c.deref-3.result.now found
    c.len-len.ensures c.deref-2.ensures.value c.deref-3.ensures.value grown.all e)
    c.add-2.ensures

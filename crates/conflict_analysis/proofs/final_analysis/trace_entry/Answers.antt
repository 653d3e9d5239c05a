use Rattle.std.proofs.Common.{◌≡◌, ◌++◌, ◌∷◌, [], take, refl, ap, sym, ◌∙◌, subst, true}
use Rattle.std.specs.List.{Contains}
use Rattle.clause_arena.specs.Clauses.{live_of}
use Rattle.clause_arena.proofs.ClauseLaws.{live_once}
use Rattle.dimacs.specs.logic.Literal.{var_of}
use Rattle.watches.specs.Law.{IsImplied}
use Rattle.conflict_analysis.specs.inner.Seen.{met}
use Rattle.conflict_analysis.proofs.BuiltTrailLemmas.{implied_by, reason_known}
use Rattle.conflict_analysis.proofs.ResolvedEntryLemmas.{settled_implied}
use Rattle.conflict_analysis.proofs.TraceLemmas.{implied_at, traces_unmet, traces_decided, traces_resolved}
use Rattle.conflict_analysis.proofs.final_analysis.trace_entry.Goals as goal
use Rattle.conflict_analysis.proofs.final_analysis.trace_entry.Goals.{In-Some}

implied : (c : In-Some) → IsImplied (live_of c.args.arena.now) (take c.args.i c.args.entries.now) c.index-entries-i.result
implied c = implied_at (live_of c.args.arena.now) c.args.entries.now c.requires.front.built c.args.i c.index-entries-i.result c.in-Some.number c.requires.within c.index-entries-i.is c.in-Some.is

lives : (c : In-Some) → live_of c.args.arena.now c.in-Some.number (implied c).clause
lives c = implied_by (live_of c.args.arena.now) (take c.args.i c.args.entries.now) c.index-entries-i.result c.in-Some.number (implied c) c.in-Some.is

here : (c : In-Some) → met c.args.seen.now (var_of c.index-entries-i.result.literal) ≡ true
here c = ap (met c.args.seen.now) (sym c.var.ensures) ∙ sym c.has.ensures ∙ c.if-not-has.false

pub mark_number-requires-clause-sized : goal.mark_number-requires-clause-sized
mark_number-requires-clause-sized c = λ C h k i. c.requires.front.clauses c.in-Some.number C h k i

pub mark_number-requires-clause-live : goal.mark_number-requires-clause-live
mark_number-requires-clause-live c = let b = (goal.at.mark_number-requires-clause-live c).In-Some in ((implied b).clause, lives b)

pub mark_number-requires-clause-known : goal.mark_number-requires-clause-known
mark_number-requires-clause-known c = λ C h k i.
    let b = (goal.at.mark_number-requires-clause-known c).In-Some in
    let e : C ≡ (implied b).clause = live_once c.args.arena.now c.in-Some.number C (implied b).clause h (lives b) in
    reason_known (take c.args.i c.args.entries.now) (met c.args.seen.now) c.index-entries-i.result (implied b).clause (implied b).unit (here b) k (subst (λ X. Contains X k) e i)

pub returns-then-not-has-clause-way : goal.returns-then-not-has-clause-way
returns-then-not-has-clause-way c = λ first w.
    traces_unmet (live_of c.args.arena.now) c.args.entries.now c.requires.front.apart c.args.i c.requires.within c.index-entries-i.result c.index-entries-i.is first c.args.seen.now c.args.lemma.now
    (ap (met c.args.seen.now) (sym c.var.ensures) ∙ sym c.has.ensures ∙ c.if-not-has.true) w

pub returns-in_ok-push-in-Some-clause-way : goal.returns-in_ok-push-in-Some-clause-way
returns-in_ok-push-in-Some-clause-way c = λ first w.
    let b = (goal.at.returns-in_ok-push-in-Some-clause-way c).In-Some in
    traces_resolved (live_of c.args.arena.now) c.args.entries.now c.requires.front.apart c.args.i c.requires.within c.index-entries-i.result c.index-entries-i.is first c.args.seen.now c.mark_number.new.seen c.args.lemma.now _ c.in-Some.number
    (here b) c.in-Some.is c.mark_number.ensures.seen
    (settled_implied (live_of c.args.arena.now) (take c.args.i c.args.entries.now) (met c.mark_number.new.seen) c.index-entries-i.result (implied b) (λ k i. c.mark_number.ensures.all (implied b).clause (lives b) k i))
    refl c.in_ok-push-in-Some.ensures.items refl w

pub returns-in_ok-push-in-None-clause-way : goal.returns-in_ok-push-in-None-clause-way
returns-in_ok-push-in-None-clause-way c = λ first w.
    traces_decided (live_of c.args.arena.now) c.args.entries.now c.requires.front.apart c.args.i c.requires.within c.index-entries-i.result c.index-entries-i.is first c.args.seen.now c.args.lemma.now _
    c.in-None.is (c.in_ok-push-in-None.ensures.items ∙ ap (λ k. c.args.lemma.now.lits.items ++ k ∷ []) c.negate.ensures) refl refl w

use Rattle.std.proofs.Common.{◌≡◌, ◌++◌, ◌∷◌, [], true, length, take, ◌∙◌, ap, sym, subst}
use Rattle.std.proofs.lemmas.List.{length-set}
use Rattle.std.proofs.lemmas.Result.{on_ok_weaker}
use Rattle.clause_arena.specs.Clauses.{live_of}
use Rattle.watches.specs.declared.trail.Assigned.{Assigned}
use Rattle.conflict_analysis.specs.inner.FinalAnalysis.{AreNegated, AreOutside, AreFalseOr}
use Rattle.conflict_analysis.proofs.AssumptionLemmas.{traceable_front, outside_front, false_but_one, negates_assumption}
use Rattle.conflict_analysis.proofs.BuiltTrailLemmas.{implied_by}
use Rattle.conflict_analysis.proofs.TraceLemmas.{implied_at}
use Rattle.conflict_analysis.proofs.final_analysis.close_assumption.Goals as goal
use Rattle.conflict_analysis.proofs.final_analysis.close_assumption.Goals.{In_ok-push}

-- the lemma has the negation alone
items : (c : In_ok-push) → c.push.new.self.items ≡ c.negate-negation.result ∷ []
items c = c.in_ok-push.ensures.items ∙ ap (λ xs. xs ++ c.negate-negation.result ∷ []) c.requires.lits

pub close-requires-clause-front : goal.close-requires-clause-front
close-requires-clause-front c =
    traceable_front (live_of c.args.arena.now) c.args.entries.now c.place_of-place.result (length c.args.seen.now) (length c.insert.new.self)
    (ap length c.insert.ensures ∙ length-set c.args.seen.now c.var.result true) c.requires.front

pub close-requires-clause-live : goal.close-requires-clause-live
close-requires-clause-live c =
    let b = (goal.at.close-requires-clause-live c).In_ok-push in
    let front = take c.place_of-place.result c.args.entries.now in
    let e = c.index-entries-place.result in
    let i = implied_at (live_of c.args.arena.now) c.args.entries.now c.requires.front.built c.place_of-place.result e c.unwrap-number.result c.place_of-place.ensures.below c.index-entries-place.is c.unwrap-number.ensures in
    let q : e.literal ≡ c.negate-negation.result = ap (λ (x : Assigned). x.literal) c.index-entries-place.is ∙ c.place_of-place.ensures.here e in
    let l = implied_by (live_of c.args.arena.now) front e c.unwrap-number.result i c.unwrap-number.ensures in
    (i.clause, l, subst (λ xs. AreFalseOr front xs i.clause) (sym (items b)) (false_but_one (live_of c.args.arena.now) front e c.negate-negation.result q i))

pub close-requires-clause-first : goal.close-requires-clause-first
close-requires-clause-first c =
    let b = (goal.at.close-requires-clause-first c).In_ok-push in
    subst (AreOutside (take c.place_of-place.result c.args.entries.now)) (sym (items b))
    (outside_front c.args.entries.now c.place_of-place.result c.index-entries-place.result c.negate-negation.result c.requires.front.apart c.place_of-place.ensures.below (c.place_of-place.ensures.here c.index-entries-place.result))

pub returns-clause-negates : goal.returns-clause-negates
returns-clause-negates c =
    let b = (goal.at.returns-clause-negates c).In_ok-push in
    on_ok_weaker c.close.result (λ h. negates_assumption c.args.entries.now c.place_of-place.result c.args.literal c.close.new.lemma.lits.items
    (subst (λ xs. AreNegated (take c.place_of-place.result c.args.entries.now) xs c.close.new.lemma.lits.items) (items b ∙ ap (λ k. k ∷ []) c.negate-negation.ensures) h)) c.close.ensures.negated

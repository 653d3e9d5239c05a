use Rattle.std.proofs.Common.{◌≡◌, ◌++◌, ◌∷◌, [], inl, inr, reverse, ap, sym, ◌∙◌, subst}
use Rattle.std.specs.List.{Contains, filter_map}
use Rattle.std.proofs.lemmas.List.{reverse-reverse}
use Rattle.std.proofs.lemmas.Result.{on_ok_weaker}
use Rattle.clause_arena.specs.Clauses.{live_of}
use Rattle.clause_arena.proofs.ClauseLaws.{live_once}
use Rattle.dimacs.specs.logic.Literal.{var_of}
use Rattle.dimacs.specs.logic.Propagation.{Rup}
use Rattle.conflict_analysis.specs.inner.Seen.{met}
use Rattle.conflict_analysis.specs.inner.FinalAnalysis.{IsTraceable, reason_of}
use Rattle.conflict_analysis.proofs.FinalLemmas.{closes}
use Rattle.conflict_analysis.proofs.final_analysis.close.Goals as goal

pub mark_number-requires-clause-sized : goal.mark_number-requires-clause-sized
mark_number-requires-clause-sized c = λ C h k i. c.requires.front.clauses c.args.number C h k i

pub mark_number-requires-clause-known : goal.mark_number-requires-clause-known
mark_number-requires-clause-known c = λ C h k i.
    let l = c.requires.live in
    let e : C ≡ l.0 = live_once c.args.arena.now c.args.number C l.0 h l.1 in
    elim (l.2 k (subst (λ X. Contains X k) e i)) [
      | inl f ↦ inr f
      | inr f ↦ inl (c.requires.known k f)
    ]

pub trace-requires-clause-front : goal.trace-requires-clause-front
trace-requires-clause-front c = subst (IsTraceable (live_of c.args.arena.now) c.args.entries.now) (sym c.mark_number.ensures.seen.sized) c.requires.front

pub returns-clause-rup : goal.returns-clause-rup
returns-clause-rup c =
    let l = c.requires.live in
    let e = c.in_ok-trace.ensures in
    on_ok_weaker c.conclude.result (λ h. subst (λ hs. Rup (live_of c.args.arena.now) c.conclude.new.self.lits.items hs)
    (sym (h ∙ ap (λ ns. reverse ns ++ c.args.number ∷ []) e.way.named ∙ ap (λ ns. ns ++ c.args.number ∷ []) (reverse-reverse (filter_map (reason_of (met c.trace.new.seen)) c.args.entries.now))))
    (subst (λ ls. Rup (live_of c.args.arena.now) ls (filter_map (reason_of (met c.trace.new.seen)) c.args.entries.now ++ c.args.number ∷ [])) (sym c.conclude.ensures.lits) (closes (live_of c.args.arena.now) c.args.entries.now c.requires.front.apart (met c.trace.new.seen) c.args.lemma.now.lits.items c.trace.new.lemma.lits.items e.way.traced e.way.negated c.requires.first e.way.kept
    l.0 c.args.number l.1 l.2 (λ k i. e.seen.grows (var_of k) (c.mark_number.ensures.all l.0 l.1 k i))))) c.conclude.ensures.hints

pub returns-clause-negated : goal.returns-clause-negated
returns-clause-negated c = on_ok_weaker c.conclude.result (λ h. rw c.conclude.ensures.lits c.in_ok-trace.ensures.way.negated) c.conclude.ensures.hints

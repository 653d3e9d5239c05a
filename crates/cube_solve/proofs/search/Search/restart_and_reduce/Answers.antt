use Rattle.std.proofs.Common.{◌+◌, inl, [], refl, sym, subst, ◌∙◌}
use Rattle.std.proofs.lemmas.List.Elements.{All-nil, Contains-get_or}
use Rattle.clause_arena.specs.Clauses.{Clauses, live_of}
use Rattle.cube_solve.specs.inner.Reduction.{AreLemmas, AreAllExcept}
use Rattle.cube_solve.specs.inner.LearntLog.{AreBelow}
use Rattle.cube_solve.proofs.ReductionLemmas.{less_none, none_rising}
use Rattle.cube_solve.proofs.search.Search.restart_and_reduce.Goals as goal

pub backtrack-requires : goal.backtrack-requires
backtrack-requires g c = c.restart_or_rephase.ensures.steady

pub returns-then-len-most-clause-kept : goal.returns-then-len-most-clause-kept
returns-then-len-most-clause-kept g c = λ first h.
    let old = live_of c.args.self.now.state.arena in
    inl (subst (λ (m : Clauses). AreAllExcept old [] (live_of m)) (sym c.restart_or_rephase.ensures.arena) (less_none old), refl)

pub returns-then-len-most-clause-drops : goal.returns-then-len-most-clause-drops
returns-then-len-most-clause-drops g c =
    let old = live_of c.args.self.now.state.arena in
    record {
      ids = [];
      rising = none_rising;
      among = All-nil _;
      kept = λ i d l. Contains-get_or c.args.self.now.lemmas.items i d l;
      less = subst (λ (m : Clauses). AreAllExcept old [] (live_of m)) (sym c.restart_or_rephase.ensures.arena) (less_none old);
      told = inl (refl, refl);
    }

pub reduce-requires-clause-numbers : goal.reduce-requires-clause-numbers
reduce-requires-clause-numbers g c = subst (λ (m : Clauses). AreBelow (c.args.top + 1) (live_of m)) (sym (c.backtrack.ensures.arena ∙ c.restart_or_rephase.ensures.arena)) c.requires.numbers

pub returns-clause-assuming : goal.returns-clause-assuming
returns-clause-assuming g c = λ q h. c.in_ok-reduce.ensures.assuming q (c.backtrack.ensures.assuming q (c.restart_or_rephase.ensures.assuming q h))

pub returns-clause-lemmas : goal.returns-clause-lemmas
returns-clause-lemmas g c = λ first h.
    c.in_ok-reduce.ensures.lemmas first (subst (λ (m : Clauses). AreLemmas first (live_of m) c.args.self.now.lemmas.items) (sym (c.backtrack.ensures.arena ∙ c.restart_or_rephase.ensures.arena)) h)

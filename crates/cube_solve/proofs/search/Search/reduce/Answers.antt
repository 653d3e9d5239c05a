use Rattle.std.proofs.Common.{ℕ, List, [], inl, inr, refl, sym, subst, ap, ◌∙◌, ◌++◌, vec_len, arith}
use Rattle.std.specs.List.{All, Contains}
use Rattle.std.proofs.lemmas.Bool.{eqb-false}
use Rattle.std.proofs.lemmas.List.Elements.{All-filter, All-nil, Contains-get_or}
use Rattle.clause_arena.specs.Clauses.{live_of}
use Rattle.lrat_text.specs.Grammar.{IsClauseNumber}
use Rattle.lrat_text.specs.WrittenLine.{line_of}
use Rattle.lrat_text.specs.declared.step.Step.TheVariants.{Delete}
use Rattle.cube_solve.specs.inner.Reduction.{AreAllExcept}
use Rattle.cube_solve.proofs.DecisionOrderLemmas.{order_less}
use Rattle.cube_solve.proofs.ReductionLemmas.{none_rising, less_none, less_same, lemmas_among, lemmas_kept, lemmas_moved, numbers_limits}
use Rattle.cube_solve.proofs.search.Search.reduce.Goals as goal

-- each entry of a list stands in it
all_there : (xs : List ℕ) → All (Contains xs) xs
all_there xs i d l = Contains-get_or xs i d l

pub returns-then-is_empty-clause-drops : goal.returns-then-is_empty-clause-drops
returns-then-is_empty-clause-drops g c = record {
  ids = [];
  rising = none_rising;
  among = All-nil _;
  kept = all_there c.args.self.now.lemmas.items;
  less = less_none (live_of c.args.self.now.state.arena);
  told = inl (refl, refl);
}

pub delete-requires-clause-limits : goal.delete-requires-clause-limits
delete-requires-clause-limits g c =
    subst (All IsClauseNumber) (sym c.deref-2.ensures.value)
    (numbers_limits (live_of c.args.self.now.state.arena) c.args.self.now.state.trail.entries c.args.top c.in_ok-gone.gone.items c.requires.top c.requires.numbers c.in_ok-gone.ensures.spare)

pub returns-clause-lemmas : goal.returns-clause-lemmas
returns-clause-lemmas g c = λ first h.
    let less = c.in_ok-compact_if_due.ensures.less in
    (lemmas_moved first (live_of c.delete_clauses.new.arena) (live_of c.compact_if_due.new.arena) c.keep_live.new.lemmas.items less
    (lemmas_kept first (live_of c.args.self.now.state.arena) c.delete_clauses.new.arena c.args.self.now.lemmas.items c.keep_live.new.lemmas.items c.keep_live.ensures h))

pub returns-clause-kept : goal.returns-clause-kept
returns-clause-kept g c = λ first h.
    let less = c.in_ok-compact_if_due.ensures.less in
    (inr (record {
      ids = c.in_ok-gone.gone.items;
      some = (let n = eqb-false (vec_len c.in_ok-gone.gone) 0 (sym c.if-is_empty.ensures) in let e = c.in_ok-gone.gone.ok.0 in omega arith);
      top = c.args.top;
      numbered = c.requires.top;
      limits = numbers_limits (live_of c.args.self.now.state.arena) c.args.self.now.state.trail.entries c.args.top c.in_ok-gone.gone.items c.requires.top c.requires.numbers c.in_ok-gone.ensures.spare;
      lemmas = lemmas_among first (live_of c.args.self.now.state.arena) c.args.self.now.lemmas.items c.in_ok-gone.gone.items h c.in_ok-gone.ensures.rising
          (subst (λ (xs : List ℕ). All (Contains xs) c.in_ok-gone.gone.items) c.deref.ensures.value c.in_ok-gone.ensures.among);
      many = record { numbers = c.args.self.now.lemmas.items; lemmas = h; many = c.requires.many };
      written = c.in_ok-delete.ensures ∙ ap (λ (xs : List ℕ). c.args.self.now.log ++ line_of c.args.top (Delete xs)) c.deref-2.ensures.value;
      less = less_same (live_of c.args.self.now.state.arena) (live_of c.delete_clauses.new.arena) (live_of c.compact_if_due.new.arena) c.in_ok-gone.gone.items
          (subst (λ (xs : List ℕ). AreAllExcept (live_of c.args.self.now.state.arena) xs (live_of c.delete_clauses.new.arena)) c.deref-4.ensures.value c.delete_clauses.ensures.less) less;
    }))

pub returns-clause-drops : goal.returns-clause-drops
returns-clause-drops g c =
    let less = c.in_ok-compact_if_due.ensures.less in
    (record {
      ids = c.in_ok-gone.gone.items;
      rising = c.in_ok-gone.ensures.rising;
      among = subst (λ (xs : List ℕ). All (Contains xs) c.in_ok-gone.gone.items) c.deref.ensures.value c.in_ok-gone.ensures.among;
      kept = subst (All (Contains c.args.self.now.lemmas.items)) (sym c.keep_live.ensures) (All-filter _ (Contains c.args.self.now.lemmas.items) c.args.self.now.lemmas.items (all_there c.args.self.now.lemmas.items));
      less = less_same (live_of c.args.self.now.state.arena) (live_of c.delete_clauses.new.arena) (live_of c.compact_if_due.new.arena) c.in_ok-gone.gone.items
          (subst (λ (xs : List ℕ). AreAllExcept (live_of c.args.self.now.state.arena) xs (live_of c.delete_clauses.new.arena)) c.deref-4.ensures.value c.delete_clauses.ensures.less) less;
      told = inr (
        numbers_limits (live_of c.args.self.now.state.arena) c.args.self.now.state.trail.entries c.args.top c.in_ok-gone.gone.items c.requires.top c.requires.numbers c.in_ok-gone.ensures.spare,
        c.in_ok-delete.ensures ∙ ap (λ (xs : List ℕ). c.args.self.now.log ++ line_of c.args.top (Delete xs)) c.deref-2.ensures.value,
      );
    })

pub returns-clause-steady : goal.returns-clause-steady
returns-clause-steady g c =
    let s = c.args.self.now.state in
    let e = c.in_ok-compact_if_due.ensures in
    record {
      ready = e.ready;
      state = e.state;
      order = order_less s.arena c.compact_if_due.new.arena c.in_ok-gone.gone.items s.trail s.order
          (less_same (live_of s.arena) (live_of c.delete_clauses.new.arena) (live_of c.compact_if_due.new.arena) c.in_ok-gone.gone.items
          (subst (λ (xs : List ℕ). AreAllExcept (live_of s.arena) xs (live_of c.delete_clauses.new.arena)) c.deref-4.ensures.value c.delete_clauses.ensures.less) e.less)
          (c.requires.steady).order;
    }

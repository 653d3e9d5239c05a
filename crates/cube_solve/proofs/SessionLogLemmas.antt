-- The log of a session grows by right steps, call by call.
use mathlib.Core.Path.{fun_ext}
use Rattle.std.proofs.Common.{◌≡◌, ℕ, ◌+◌, ◌≤◌, inl, inr, List, [], ◌∷◌, ◌++◌, map, append_assoc, None, refl, sym, ◌∙◌, ap, subst, arith}
use Rattle.std.specs.List.{Contains}
use Rattle.std.specs.Prelude.{IsSome}
use Rattle.std.specs.FinMap.{get, insert}
use Rattle.std.proofs.lemmas.Bool.{both_ways, cases_Bool}
use Rattle.std.proofs.lemmas.List.{append-nil}
use Rattle.std.proofs.lemmas.List.Elements.{All-contains, All-weaker, Contains-push_cases}
use Rattle.dimacs.specs.logic.ClauseMap.{ClauseMap, Live, live_in}
use Rattle.dimacs.specs.logic.Literal.{Literal, Clause, has, negation}
use Rattle.dimacs.specs.logic.Propagation.{Assumed, Refutes, Rup}
use Rattle.dimacs.proofs.LiteralLemmas.{negation-negation}
use Rattle.dimacs.proofs.Members.{Contains-has, Contains-nil, has-Contains}
use Rattle.clause_arena.specs.Clauses.{live_of}
use Rattle.conflict_analysis.specs.declared.lemma.Lemma.{Lemma}
use Rattle.lrat_text.specs.Grammar.{IsClauseNumber}
use Rattle.lrat_text.specs.Log.{Cube, after_step, top_after}
use Rattle.lrat_text.specs.Proof.{without}
use Rattle.lrat_text.specs.Runs.{after_steps, text_of, top_of}
use Rattle.lrat_text.specs.WrittenLine.{line_of}
use Rattle.lrat_text.specs.declared.step.Step.{Step}
use Rattle.lrat_text.specs.declared.step.Step.TheVariants.{Add, Delete}
use Rattle.lrat_text.proofs.ClauseMapLemmas.{not_in}
use Rattle.lrat_text.proofs.RunLemmas.{after_append, text_append, top_append}
use Rattle.watches.specs.Law.{SameUpToOrder}
use Rattle.cube_solve.specs.Session.{last_of, live_in_session, log_of, vars_of}
use Rattle.cube_solve.specs.SessionLog.{AreRightSteps, IsFailure, IsKnown, LogGrowsFrom, LogGrows}
use Rattle.cube_solve.specs.declared.search.Search.{Search}
use Rattle.cube_solve.specs.declared.session.Session.{Session}
use Rattle.cube_solve.specs.inner.Reduction.{AreLemmas, AreAllExcept, DeletesLemmas}
use Rattle.cube_solve.specs.inner.LearntLog.{AreBelow, Learns}
use Rattle.cube_solve.specs.inner.Twins.{AreLinked, AreTwins, IsAdded}
use Rattle.cube_solve.specs.inner.Queries.{ArePicked, RefutesQuery}
use Rattle.cube_solve.proofs.ClauseLemmas.{added_twin, linked_more, linked_same, linked_turned}
use Rattle.cube_solve.proofs.DeletionLemmas.{linked_less, map_less, rising_distinct, some_is}
use Rattle.cube_solve.proofs.LogLemmas.{rup_same}
use Rattle.cube_solve.proofs.MapLemmas.{map_added, twins_itself}
use Rattle.cube_solve.proofs.SessionLemmas.{from_map, in_map}

right_append : (most : ℕ) (given : List ℕ) (M : ClauseMap) (top : ℕ) (xs ys : List Step) → AreRightSteps most given M top xs
    → AreRightSteps most given (after_steps M xs) (top_of top xs) ys → AreRightSteps most given M top (xs ++ ys)
right_append most given M top [] ys h g = g
right_append most given M top (x ∷ xs) ys h g = (h.0, h.1, right_append most given (after_step M x) (top_after top x) xs ys h.2 g)

module _ {P : Type 0} where
  -- nothing was written
  pub tells_none : (given : List ℕ) (M : ClauseMap) (s u : Session P) → vars_of u ≡ vars_of s → log_of u ≡ log_of s → last_of u ≡ last_of s → IsKnown given M u → LogGrowsFrom given M s u
  tells_none given M s u vars log last known = record { steps = []; vars = vars; right = tt; text = log ∙ sym (append-nil (log_of s)); last = last; known = known }

  pub known_same : (given : List ℕ) (M : ClauseMap) (s u : Session P) → SameUpToOrder s.search.state.arena u.search.state.arena → u.search.lemmas.items ≡ s.search.lemmas.items → last_of u ≡ last_of s
      → IsKnown given M s → IsKnown given M u
  known_same given M s u same lemmas last h = record {
    linked = linked_same (live_in M) s.search.state.arena u.search.state.arena h.linked same;
    before = λ n i. subst (λ k. n ≤ k) (sym last) (h.before n i);
    apart = λ n i j. h.apart n i (subst (λ xs. Contains xs n) lemmas j);
  }

  pub tells_same : (s u : Session P) → SameUpToOrder s.search.state.arena u.search.state.arena → vars_of u ≡ vars_of s → u.search.lemmas.items ≡ s.search.lemmas.items → log_of u ≡ log_of s → last_of u ≡ last_of s → LogGrows s u
  tells_same s u same vars lemmas log last = λ given M h. tells_none given M s u vars log last (known_same given M s u same lemmas last h)

  pub tells_itself : (s : Session P) → LogGrows s s
  tells_itself s = λ given M h. tells_none given M s s refl refl refl h

  -- one call after another
  tells_trans : (given : List ℕ) (M : ClauseMap) (s u w : Session P) (x : LogGrowsFrom given M s u) → LogGrowsFrom given (after_steps M x.steps) u w → LogGrowsFrom given M s w
  tells_trans given M s u w x y = record {
    steps = x.steps ++ y.steps;
    vars = y.vars ∙ x.vars;
    right = right_append (vars_of s) given M (last_of s) x.steps y.steps x.right
        (subst (λ k. AreRightSteps (vars_of s) given (after_steps M x.steps) k y.steps) x.last (subst (λ v. AreRightSteps v given (after_steps M x.steps) (last_of u) y.steps) x.vars y.right));
    text = y.text ∙ ap (λ (t : List ℕ). t ++ text_of (last_of u) y.steps) x.text ∙ append_assoc (log_of s) (text_of (last_of s) x.steps) (text_of (last_of u) y.steps)
        ∙ ap (λ k. log_of s ++ (text_of (last_of s) x.steps ++ text_of k y.steps)) x.last ∙ ap (λ (t : List ℕ). log_of s ++ t) (sym (text_append (last_of s) x.steps y.steps));
    last = y.last ∙ ap (λ k. top_of k y.steps) x.last ∙ sym (top_append (last_of s) x.steps y.steps);
    known = subst (λ N. IsKnown given N w) (sym (after_append M x.steps y.steps)) y.known;
  }

  pub tells_on : (s u w : Session P) → LogGrows s u → LogGrows u w → LogGrows s w
  tells_on s u w f g = λ given M h. let x = f given M h in tells_trans given M s u w x (g given (after_steps M x.steps) x.known)

  -- a clause joins the lemmas, whatever it follows from
  pub known_lent : (s u : Session P) (C lits : Clause) → last_of u ≡ last_of s + 1 → AreBelow (last_of s + 1) (live_in_session s)
      → u.search.lemmas.items ≡ s.search.lemmas.items ++ last_of u ∷ [] → AreTwins C lits → IsAdded (live_in_session s) (last_of u) lits (live_in_session u)
      → (given : List ℕ) (M : ClauseMap) → IsKnown given M s → IsKnown given (insert M (last_of u) C) u
  known_lent s u C lits next below lemmas twins add given M h =
      let id = last_of u in
      let old = live_in_session s in
      let fresh : get M id ≡ None = not_in M id (λ D i. let d = (h.linked).forth id D i in let b = below id d.0 d.1 in let up = b.1 in omega arith) in
      record {
        linked = linked_more (live_in M) (live_in (insert M id C)) old (live_in_session u) id C h.linked (map_added M id C fresh) (added_twin old (live_in_session u) id C lits twins add);
        before = λ n i. let b = h.before n i in omega arith;
        apart = λ n i j. elim (Contains-push_cases s.search.lemmas.items id n (subst (λ xs. Contains xs n) lemmas j)) [ inl k ↦ h.apart n i k | inr e ↦ (let b = h.before n i in omega arith) ];
      }

  -- a lemma joins
  pub tells_learnt : (s u : Session P) → vars_of u ≡ vars_of s → last_of u ≡ last_of s + 1 → AreBelow (last_of s + 1) (live_in_session s) → u.search.lemmas.items ≡ s.search.lemmas.items ++ last_of u ∷ []
      → Learns (vars_of s) (last_of u) (live_in_session s) (live_in_session u) (log_of s) (log_of u) → LogGrows s u
  tells_learnt s u same next below lemmas g = λ given M h.
      let id = last_of u in
      let old = live_in_session s in
      let w = g.written in
      record {
        steps = Add id g.lits w.hints [] ∷ [];
        vars = same;
        right = (w.limits, (next, refl, rup_same old (live_in M) ((linked_turned (live_in M) old h.linked).forth) g.lits w.hints w.rup), tt);
        text = w.text ∙ ap (λ (t : List ℕ). log_of s ++ t) (sym (append-nil (line_of id (Add id g.lits w.hints []))));
        last = refl;
        known = known_lent s u g.lits g.lits next below lemmas (twins_itself g.lits) g.added given M h;
      }

  -- lemmas go
  pub tells_dropped : (s u : Session P) → vars_of u ≡ vars_of s → IsClauseNumber (last_of s) → last_of u ≡ last_of s → AreLemmas 0 (live_in_session s) s.search.lemmas.items → DeletesLemmas (last_of s) s.search.lemmas.items u.search.lemmas.items (live_in_session s) (live_in_session u) (log_of s) (log_of u) → LogGrows s u
  tells_dropped s u same number last held f = λ given M h.
      let old = live_in_session s in
      let new = live_in_session u in
      let there : (id : ℕ) → Contains s.search.lemmas.items id → IsSome (get M id) = λ id i.
      let c = All-contains (λ n. (C : Clause) × old n C) s.search.lemmas.items id held.lives i in
      let d = (h.linked).back id c.0 c.1 in
      some_is (get M id) d.0 d.1 in
      let apart : (n : ℕ) → Contains given n → ¬ (Contains u.search.lemmas.items n) = λ n i j. h.apart n i (All-contains (Contains s.search.lemmas.items) u.search.lemmas.items n f.kept j) in
      elim f.told [
        | inl none ↦ tells_none given M s u same none.1 last (record {
          linked = linked_less (live_in M) (live_in M) old new [] h.linked (record { stays = λ n C i k. i; was = λ n C i. (Contains-nil n, i) }) (subst (λ ids. AreAllExcept old ids new) none.0 f.less);
          before = λ n i. subst (λ k. n ≤ k) (sym last) (h.before n i);
          apart = apart;
        })
        | inr some ↦ record {
          steps = Delete f.ids ∷ [];
          vars = same;
          right = (
            some.0,
            (
              number,
              All-weaker (Contains s.search.lemmas.items) (λ id. ¬ (Contains given id)) (λ id i j. h.apart id j i) f.ids f.among,
              All-weaker (Contains s.search.lemmas.items) (λ id. IsSome (get M id)) there f.ids f.among,
              rising_distinct f.ids f.rising,
            ),
            tt,
          );
          text = some.1 ∙ ap (λ (t : List ℕ). log_of s ++ t) (sym (append-nil (line_of (last_of s) (Delete f.ids))));
          last = last;
          known = record {
            linked = linked_less (live_in M) (live_in (without M f.ids)) old new f.ids h.linked (map_less M f.ids) f.less;
            before = λ n i. subst (λ k. n ≤ k) (sym last) (h.before n i);
            apart = apart;
          };
        }
      ]

  -- a clause is given
  pub known_given : (s u : Session P) (C lits : Clause) → last_of u ≡ last_of s + 1 → AreBelow (last_of s + 1) (live_in_session s) → AreLemmas 0 (live_in_session s) s.search.lemmas.items
      → u.search.lemmas.items ≡ s.search.lemmas.items → AreTwins C lits → IsAdded (live_in_session s) (last_of u) lits (live_in_session u)
      → (given : List ℕ) (M : ClauseMap) → IsKnown given M s → IsKnown (given ++ last_of u ∷ []) (insert M (last_of u) C) u
  known_given s u C lits next below live lemmas twins add given M h =
      let id = last_of u in
      let old = live_in_session s in
      let fresh : get M id ≡ None = not_in M id (λ D i. let d = (h.linked).forth id D i in let b = below id d.0 d.1 in let up = b.1 in omega arith) in
      let none : ¬ (Contains s.search.lemmas.items id) = λ j. let l = All-contains (λ n. (D : Clause) × old n D) s.search.lemmas.items id live.lives j in let up = (below id l.0 l.1).1 in omega arith in
      record {
        linked = linked_more (live_in M) (live_in (insert M id C)) old (live_in_session u) id C h.linked (map_added M id C fresh) (added_twin old (live_in_session u) id C lits twins add);
        before = λ n i. elim (Contains-push_cases given id n i) [ inl k ↦ (let b = h.before n k in omega arith) | inr e ↦ omega arith ];
        apart = λ n i j.
            let j : Contains s.search.lemmas.items n = subst (λ xs. Contains xs n) lemmas j in
            elim (Contains-push_cases given id n i) [ inl k ↦ h.apart n k j | inr e ↦ none (subst (Contains s.search.lemmas.items) (sym e) j) ];
      }

-- ---- the clause of a core's negations
has_twin : (C D : Clause) → AreTwins C D → (k : Literal) → has C k ≡ has D k
has_twin C D e k = elim (cases_Bool (has C k)) [
  | inl t ↦ t ∙ sym (Contains-has D k ((e k).0 (has-Contains C k t)))
  | inr f ↦ elim (cases_Bool (has D k)) [
    | inl t ↦ absurd (both_ways (has C k) f (Contains-has C k ((e k).1 (has-Contains D k t))))
    | inr g ↦ f ∙ sym g
  ]
]

rup_twin : (live : Live) (C D : Clause) (hints : List ℕ) → AreTwins C D → Rup live C hints → Rup live D hints
rup_twin live C D hints e r = record {
  no_pair = λ t. r.no_pair (t.0, (e t.0).1 t.1, (e (negation t.0)).1 t.2);
  refutes = subst (λ (α : Assumed). Refutes live α hints) (fun_ext (λ k. has_twin C D e (negation k))) r.refutes;
}

module _ (live : Live) (vars : ℕ) (q : Cube) (lemma : Lemma) (core : List Literal) (f : RefutesQuery live vars q lemma) (p : ArePicked q lemma.lits.items core) where
  picked_negation : (l : Literal) → Contains lemma.lits.items l → Contains core (negation l)
  picked_negation l i = p.all (negation l) (f.negates l i) (subst (Contains lemma.lits.items) (sym (negation-negation l)) i)

  core_twins : AreTwins lemma.lits.items (map negation core)
  core_twins = λ l. (λ i. in_map core l (picked_negation l i), λ i. subst (Contains lemma.lits.items) (negation-negation l) (p.only (negation l) (from_map core l i)))

  pub failure : (M : ClauseMap) → AreLinked (live_in M) live → IsFailure M core lemma.hints.items
  failure M linked = elim f.follows [
    | inl t ↦ inl (negation t.0, picked_negation t.0 t.1, picked_negation (negation t.0) t.2)
    | inr r ↦ inr (rup_same live (live_in M) ((linked_turned (live_in M) live linked).forth) (map negation core) lemma.hints.items (rup_twin live lemma.lits.items (map negation core) lemma.hints.items core_twins r))
  ]

-- except its log a session is as it was
pub known_logged : {P : Type 0} (s : Session P) (x : Search P) → x ≡ record s.search { log = [] } → (given : List ℕ) (M : ClauseMap) → IsKnown given M s → IsKnown given M (record s { search = x })
known_logged {P} s x e given M h =
    subst (λ (y : Search P). IsKnown given M (record s { search = y })) (sym e) (record { linked = h.linked; before = h.before; apart = h.apart })

-- what is known of a session whose search was this one
pub linked_search : {P : Type 0} (s u : Session P) → u.search ≡ s.search → (given : List ℕ) (M : ClauseMap) → IsKnown given M u → AreLinked (live_in M) (live_in_session s)
linked_search {P} s u e given M h = subst (λ (x : Search P). AreLinked (live_in M) (live_of x.state.arena)) e h.linked

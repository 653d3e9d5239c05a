-- The lines of the forks follow from the clauses that close the leaves.
use Rattle.std.proofs.Common.{◌≡◌, ℕ, ◌+◌, ◌≤◌, inl, inr, Bool, true, false, not, ◌⊎◌, cond, List, [], ◌∷◌, ◌++◌, Some, refl, sym, ◌∙◌, ap, subst, arith}
use Rattle.std.specs.List.{All, Contains}
use Rattle.std.specs.FinMap.{get}
use Rattle.std.proofs.lemmas.List.Elements.{Contains-append_left, Contains-append_right}
use Rattle.dimacs.specs.logic.ClauseMap.{ClauseMap, live_in}
use Rattle.dimacs.specs.logic.Literal.{Literal, Clause, IsTautology, IsWithin, negation, has, var_of}
use Rattle.dimacs.specs.logic.Rat.{Group}
use Rattle.dimacs.proofs.LiteralLemmas.{negation-negation, var_of-negation}
use Rattle.dimacs.proofs.Members.{Contains-head, Contains-cons_cases, Contains-nil}
use Rattle.icnf.specs.Leaves.{Cube, IsFree}
use Rattle.lrat_text.specs.Log.{AreLogSteps}
use Rattle.lrat_text.specs.Runs.{after_steps, top_of}
use Rattle.lrat_text.specs.declared.step.Step.{Step}
use Rattle.lrat_text.specs.declared.step.Step.TheVariants.{Add}
use Rattle.lrat_text.proofs.RunLemmas.{after_append, top_append, log_append}
use Rattle.proof_join.specs.JoinedProof.{Part, fork_part, with_line, with_clause_of, resolvent}
use Rattle.proof_join.proofs.LogLemmas.{log_weaker, log_up, log_keeps, Adds, adds_left, adds_right, last_live, last_top}
use Rattle.proof_join.proofs.MapLemmas.{AreBetween}
use Rattle.proof_join.proofs.NodeLemmas.{Negating, node_follows, negates_shorter, no_pair_longer, resolvent_negates}
use Rattle.proof_join.proofs.TreeLemmas.{AreSmall, resolvent_small}
use Rattle.log_join.specs.ClosedLeaves.{Numbered, Leaf}
use Rattle.log_join.specs.JoinedLogs.{Ended, leaf, fork, forks, ends, AreFree}
use Rattle.log_join.proofs.PlacedLemmas.{ClosesLive}
use Rattle.log_join.proofs.SmallLemmas.{small_append}
use Rattle.log_join.proofs.SettleLemmas.{closes_negates}

-- a part after some steps, which begins with the live clauses M, where t is the number of the last addition;
-- its clause was added by those steps or by its own
pub record IsBranch (before : List Step) (path : Cube) (t : ℕ) (M : ClauseMap) (p : Part) : Type 0 where
  pub log : AreLogSteps t M t p.steps
  pub top : top_of t p.steps ≡ p.top
  pub inside : p.id ≤ p.top
  pub lives : get (after_steps M p.steps) p.id ≡ Some p.clause
  pub negates : Negating path p.clause
  pub added : Adds p.clause before ⊎ Adds p.clause p.steps
  pub small : (most : ℕ) → AreSmall most before → AreSmall most p.steps

added_left : (before : List Step) (C : Clause) (xs ys : List Step) → Adds C before ⊎ Adds C xs → Adds C before ⊎ Adds C (xs ++ ys)
added_left before C xs ys (inl a) = inl a
added_left before C xs ys (inr a) = inr (adds_left C xs ys a)

added_right : (before : List Step) (C : Clause) (xs ys : List Step) → Adds C before ⊎ Adds C ys → Adds C before ⊎ Adds C (xs ++ ys)
added_right before C xs ys (inl a) = inl a
added_right before C xs ys (inr a) = inr (adds_right C xs ys a)

all_small : (most : ℕ) (before steps : List Step) (C : Clause) → AreSmall most before → AreSmall most steps → Adds C before ⊎ Adds C steps → All (IsWithin most) C
all_small most before steps C h g (inl a) = h a.0 C a.1 a.2 a.3
all_small most before steps C h g (inr a) = g a.0 C a.1 a.2 a.3

line_small : (most id : ℕ) (C : Clause) (hints : List ℕ) (groups : List Group) → All (IsWithin most) C → AreSmall most (Add id C hints groups ∷ [])
line_small most id C hints groups h n lits xs gs inside = elim (Contains-cons_cases (Add id C hints groups) (Add n lits xs gs) [] inside) [
  | inl e ↦ let same_clause : C ≡ lits = cc in subst (All (IsWithin most)) same_clause h
  | inr z ↦ absurd (Contains-nil (Add n lits xs gs) z)
]

other_free : (path : Cube) (x : Literal) → IsFree path (var_of x) → IsFree path (var_of (negation x))
other_free path x h = subst (IsFree path) (sym (var_of-negation x)) h

module _ (before : List Step) (path : Cube) (x : Literal) (t : ℕ) (M : ClauseMap) (left right : Part) (free : IsFree path (var_of x)) (none : ¬ (IsTautology path))
    (first : IsBranch before (path ++ x ∷ []) t M left) (second : IsBranch before (path ++ negation x ∷ []) left.top (after_steps M left.steps) right) where
  left_up : t ≤ left.top
  left_up = let u = (log_up t M t left.steps first.log).0 in let e = first.top in omega arith

  right_up : left.top ≤ right.top
  right_up = let u = (log_up left.top (after_steps M left.steps) left.top right.steps second.log).0 in let e = second.top in omega arith

  both_log : AreLogSteps t M t (left.steps ++ right.steps)
  both_log = log_append t M t left.steps right.steps first.log
      (subst (λ (k : ℕ). AreLogSteps t (after_steps M left.steps) k right.steps) (sym first.top) (log_weaker t left.top (after_steps M left.steps) left.top right.steps left_up second.log))

  both_top : top_of t (left.steps ++ right.steps) ≡ right.top
  both_top = top_append t left.steps right.steps ∙ ap (λ (k : ℕ). top_of k right.steps) first.top ∙ second.top

  both_left : get (after_steps M (left.steps ++ right.steps)) left.id ≡ Some left.clause
  both_left = ap (λ (N : ClauseMap). get N left.id) (after_append M left.steps right.steps)
      ∙ log_keeps left.top (after_steps M left.steps) left.top right.steps (omega arith) second.log left.id left.clause first.inside first.lives

  both_right : get (after_steps M (left.steps ++ right.steps)) right.id ≡ Some right.clause
  both_right = ap (λ (N : ClauseMap). get N right.id) (after_append M left.steps right.steps) ∙ second.lives

  with_left : has left.clause (negation x) ≡ false → IsBranch before path t M (with_clause_of left left right)
  with_left f = record {
    log = both_log;
    top = both_top;
    inside = (let a = first.inside in let u = right_up in omega arith);
    lives = both_left;
    negates = negates_shorter path x left.clause first.negates f;
    added = added_left before left.clause left.steps right.steps first.added;
    small = λ most b. small_append most left.steps right.steps (first.small most b) (second.small most b);
  }

  with_right : has right.clause x ≡ false → IsBranch before path t M (with_clause_of right left right)
  with_right f = record {
    log = both_log;
    top = both_top;
    inside = second.inside;
    lives = both_right;
    negates = negates_shorter path (negation x) right.clause second.negates (ap (has right.clause) (negation-negation x) ∙ f);
    added = added_right before right.clause left.steps right.steps second.added;
    small = λ most b. small_append most left.steps right.steps (first.small most b) (second.small most b);
  }

  with_own_line : has left.clause (negation x) ≡ true → IsBranch before path t M (with_line (resolvent path left.clause right.clause) left right)
  with_own_line f =
      let lines : List Step = left.steps ++ right.steps in
      let C : Clause = resolvent path left.clause right.clause in
      let hints : List ℕ = left.id ∷ right.id ∷ [] in
      let step : Step = Add (right.top + 1) C hints [] in
      let whole : left.steps ++ right.steps ++ step ∷ [] ≡ lines ++ step ∷ [] = refl in
      let log : AreLogSteps t M t (lines ++ step ∷ []) = log_append t M t lines (step ∷ []) both_log (
        (
          ap (λ (k : ℕ). k + 1) (sym both_top),
          refl,
          node_follows (live_in (after_steps M lines)) path x left.clause right.clause left.id right.id free none first.negates second.negates f both_left both_right,
        ),
        tt,
      ) in
      record {
        log = subst (AreLogSteps t M t) (sym whole) log;
        top = ap (top_of t) whole ∙ last_top t lines (right.top + 1) C hints [];
        inside = omega arith;
        lives = ap (λ (ss : List Step). get (after_steps M ss) (right.top + 1)) whole ∙ last_live M t [] lines (right.top + 1) C hints [];
        negates = resolvent_negates path left.clause right.clause;
        added = inr (right.top + 1, hints, [], subst (λ (ss : List Step). Contains ss step) (sym whole) (Contains-append_right lines (step ∷ []) step (Contains-head step [])));
        small = λ most b. subst (AreSmall most) (sym whole) (small_append most lines (step ∷ []) (small_append most left.steps right.steps (first.small most b) (second.small most b)) (line_small most (right.top + 1) C hints []
            (resolvent_small most path left.clause right.clause (all_small most before left.steps left.clause b (first.small most b) first.added) (all_small most before right.steps right.clause b (second.small most b) second.added))));
      }

  pub fork_is_branch : IsBranch before path t M (fork_part path x left right)
  fork_is_branch = at (has left.clause (negation x)) (has right.clause x) refl refl
    where
      at : (a c : Bool) → has left.clause (negation x) ≡ a → has right.clause x ≡ c
          → IsBranch before path t M (cond (not a) (with_clause_of left left right) (cond (not c) (with_clause_of right left right) (with_line (resolvent path left.clause right.clause) left right)))
      at false c e f = with_left e
      at true false e f = with_right f
      at true true e f = with_own_line e

-- ---- a tree whose leaves have closing lemmas among the clauses L that stand at the number s
abbrev pub AllCloseLive : ℕ → ClauseMap → List Leaf → Type 0
AllCloseLive m L leaves = (k : Leaf) (l : Numbered) → Contains leaves k → k.closing ≡ Some l → ClosesLive m L k.cube l

module _ (before : List Step) (m s : ℕ) (L : ClauseMap) (between : AreBetween s L) (added : (n : ℕ) (C : Clause) → get L n ≡ Some C → m + 1 ≤ n → Adds C before) where
  pub forks_are : (path : Cube) (t : ℕ) (M : ClauseMap) (tree : Ended) → s ≤ t → ((n : ℕ) (C : Clause) → get L n ≡ Some C → get M n ≡ Some C) → ¬ (IsTautology path)
      → AreFree path tree → AllCloseLive m L (ends path tree) → IsBranch before path t M (forks path t tree)
  forks_are path t M (leaf id C) up keeps none free all =
      let l : Numbered = record { id = id; clause = C } in
      let k : Leaf = record { cube = path; closing = Some l } in
      let h : ClosesLive m L path l = all k l (Contains-head k []) refl in
      record {
        log = tt;
        top = refl;
        inside = (let r = (between id C h.lives).1 in omega arith);
        lives = keeps id C h.lives;
        negates = closes_negates path C h.ends;
        added = inl (added id C h.lives (let o = h.own in omega arith));
        small = λ most b id lits hints groups inside. absurd (Contains-nil (Add id lits hints groups) inside);
      }
  forks_are path t M (fork x left right) up keeps none (free, a, c) all =
      let p : Part = forks (path ++ x ∷ []) t left in
      let here : List Leaf = ends (path ++ x ∷ []) left in
      let there : List Leaf = ends (path ++ negation x ∷ []) right in
      let first : IsBranch before (path ++ x ∷ []) t M p = forks_are (path ++ x ∷ []) t M left up keeps (no_pair_longer path x free none) a (λ k l i. all k l (Contains-append_left here there k i)) in
      let higher : t ≤ p.top = (let u = (log_up t M t p.steps first.log).0 in let e = first.top in omega arith) in
      let keeps' : (n : ℕ) (C : Clause) → get L n ≡ Some C → get (after_steps M p.steps) n ≡ Some C =
      λ n C e. log_keeps t M t p.steps (omega arith) first.log n C (let y = (between n C e).1 in omega arith) (keeps n C e) in
      fork_is_branch before path x t M p (forks (path ++ negation x ∷ []) p.top right) free none first
      (forks_are (path ++ negation x ∷ []) p.top (after_steps M p.steps) right (omega arith) keeps' (no_pair_longer path (negation x) (other_free path x free) none) c (λ k l i. all k l (Contains-append_right here there k i)))

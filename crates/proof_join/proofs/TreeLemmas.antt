-- What each subtree contributes to the joined text.
use Rattle.std.proofs.Common.{◌≡◌, ℕ, ◌+◌, ◌≤◌, inl, inr, Bool, true, false, not, ◌||◌, cond, List, [], ◌∷◌, ◌++◌, map, length, Some, refl, sym, ◌∙◌, ap, subst, arith}
use Rattle.std.specs.List.{All, Contains}
use Rattle.std.specs.FinMap.{get}
use Rattle.std.proofs.lemmas.List.{map-append}
use Rattle.std.proofs.lemmas.List.Elements.{All-weaker, All-contains, All-contains_itself, Contains-append_cases, Contains-append_right}
use Rattle.dimacs.specs.logic.ClauseMap.{ClauseMap, map_of, live_in}
use Rattle.dimacs.specs.logic.Cnf.{Cnf}
use Rattle.dimacs.specs.logic.Literal.{Literal, Clause, IsTautology, IsWithin, negation, has, var_of}
use Rattle.dimacs.specs.logic.Rat.{Group}
use Rattle.dimacs.proofs.LiteralLemmas.{negation-negation, var_of-negation}
use Rattle.dimacs.proofs.Members.{Contains-head, Contains-cons_cases, Contains-nil, Contains-filter, has-Contains}
use Rattle.std.proofs.lemmas.Bool.{or_cases}
use Rattle.lrat_text.specs.Proof.{AddsEmpty}
use Rattle.icnf.specs.Leaves.{Cube, IsFree}
use Rattle.lrat_text.specs.Grammar.{IsStepWithin}
use Rattle.lrat_text.specs.Log.{AreLogSteps, IsLog, EndsAt, Negates, log_top}
use Rattle.lrat_text.specs.declared.step.Step.{Step}
use Rattle.lrat_text.specs.declared.step.Step.TheVariants.{Add, Delete}
use Rattle.proof_join.specs.RenumberedSteps.{behind, renumbered, renumbered_group, last_clause}
use Rattle.lrat_text.specs.Runs.{after_steps, top_of}
use Rattle.proof_join.specs.JoinedProof.{Closed, leaf, fork, Part, part, leaf_part, fork_part, with_line, with_clause_of, resolvent}
use Rattle.proof_join.proofs.FragmentLemmas.{steps_mirrored}
use Rattle.proof_join.proofs.LogLemmas.{log_weaker, log_up, log_keeps, Adds, adds_left, adds_right, last_live, last_is, last_top}
use Rattle.lrat_text.proofs.RunLemmas.{after_append, top_append, log_append}
use Rattle.proof_join.proofs.MapLemmas.{between_formula}
use Rattle.proof_join.proofs.NumberLemmas.{behind_low}
use Rattle.proof_join.proofs.NodeLemmas.{Negating, node_follows, negates_shorter, no_pair_longer, resolvent_negates}

-- each added clause has only variables up to most
abbrev pub AreSmall : ℕ → List Step → Type 0
AreSmall most steps = (id : ℕ) (lits : Clause) (hints : List ℕ) (groups : List Group) → Contains steps (Add id lits hints groups) → All (IsWithin most) lits

-- the base's clauses are live
abbrev pub Bears : Cnf → ClauseMap → Type 0
Bears B M = (n : ℕ) (C : Clause) → get (map_of B) n ≡ Some C → get M n ≡ Some C

-- a part that begins with the live clauses M, where t is the number of the last addition; its variables are up to most
pub record IsPart (most : ℕ) (path : Cube) (t : ℕ) (M : ClauseMap) (p : Part) : Type 0 where
  pub log : AreLogSteps t M t p.steps
  pub top : top_of t p.steps ≡ p.top
  pub inside : p.id ≤ p.top
  pub lives : get (after_steps M p.steps) p.id ≡ Some p.clause
  pub negates : Negating path p.clause
  pub added : Adds p.clause p.steps
  pub small : AreSmall most p.steps

-- the fragments of a subtree close its cubes
abbrev pub AreClosed : Cnf → Cube → Closed → Type 0
AreClosed B path (leaf steps) = IsLog B steps × EndsAt path steps × All (IsStepWithin (log_top B)) steps
AreClosed B path (fork x left right) = IsFree path (var_of x) × AreClosed B (path ++ x ∷ []) left × AreClosed B (path ++ negation x ∷ []) right

-- ---- a leaf
step_small : (most : ℕ) (step : Step) → IsStepWithin most step → (id : ℕ) (lits : Clause) (hints : List ℕ) (groups : List Group) → step ≡ Add id lits hints groups → All (IsWithin most) lits
step_small most (Add n C more gs) h id lits hints groups e = let same_clause : C ≡ lits = cc in subst (All (IsWithin most)) same_clause h.1
step_small most (Delete ids) h id lits hints groups e = absurd cc

renumbered_small : (most : ℕ) (f : ℕ → ℕ) (step : Step) → IsStepWithin most step → (id : ℕ) (lits : Clause) (hints : List ℕ) (groups : List Group) → renumbered f step ≡ Add id lits hints groups → All (IsWithin most) lits
renumbered_small most f (Add n C more gs) h id lits hints groups e = let same_clause : C ≡ lits = cc in subst (All (IsWithin most)) same_clause h.1
renumbered_small most f (Delete ids) h id lits hints groups e = absurd cc

in_map : {X Y : Type 0} (f : X → Y) (xs : List X) (y : Y) → Contains (map f xs) y → (x : X) × Contains xs x × (f x ≡ y)
in_map f [] y h = absurd (Contains-nil y h)
in_map f (x ∷ xs) y h = elim (Contains-cons_cases (f x) y (map f xs) h) [
  | inl e ↦ (x, Contains-head x xs, e)
  | inr r ↦ let z = in_map f xs y r in (z.0, Contains-append_right (x ∷ []) xs z.0 z.1, z.2)
]

leaf_small : (most : ℕ) (f : ℕ → ℕ) (steps : List Step) → All (IsStepWithin most) steps → AreSmall most (map (renumbered f) steps)
leaf_small most f steps limits id lits hints groups inside =
    let z = in_map (renumbered f) steps (Add id lits hints groups) inside in
    renumbered_small most f z.0 (All-contains (IsStepWithin most) steps z.0 limits z.1) id lits hints groups z.2

-- a fragment ends by an addition
pub ends : (q : Cube) (step : Step) → Negates q step → (id : ℕ) × (lits : Clause) × (hints : List ℕ) × (groups : List Group) × (step ≡ Add id lits hints groups) × Negating q lits
ends q (Add id lits hints groups) h = (id, lits, hints, groups, refl, h)
ends q (Delete ids) h = absurd h

leaf_is_part : (B : Cnf) (path : Cube) (t : ℕ) (M : ClauseMap) (steps : List Step) → length B.clauses ≤ t → Bears B M → IsLog B steps → EndsAt path steps → All (IsStepWithin (log_top B)) steps
    → IsPart (log_top B) path t M (leaf_part (length B.clauses) t steps)
leaf_is_part B path t M steps low bears log (front, last, splits, closing) limits =
    let b : ℕ = length B.clauses in
    let r : Step → Step = renumbered (behind b t) in
    let z = ends path last closing in
    let id : ℕ = behind b t z.0 in
    let hints : List ℕ = map (behind b t) z.2 in
    let groups : List Group = map (renumbered_group (behind b t)) z.3 in
    let lits : Clause = z.1 in
    let whole : steps ≡ front ++ Add z.0 lits z.2 z.3 ∷ [] = splits ∙ ap (λ (s : Step). front ++ s ∷ []) z.4 in
    let lines : map r steps ≡ map r front ++ Add id lits hints groups ∷ [] = ap (map r) whole ∙ map-append r front (Add z.0 lits z.2 z.3 ∷ []) in
    let clause : last_clause [] steps ≡ lits = ap (last_clause []) whole ∙ last_is [] front z.0 lits z.2 z.3 in
    let top : top_of t (map r steps) ≡ id = ap (top_of t) lines ∙ last_top t (map r front) id lits hints groups in
    record {
      log = steps_mirrored b t low steps (map_of B) M b t (omega arith) (omega arith)
          (λ n C e. ap (get M) (behind_low b t n (between_formula B n C e).1) ∙ bears n C e) log;
      top = refl;
      inside = omega arith;
      lives = ap (get (after_steps M (map r steps))) top ∙ ap (λ (ss : List Step). get (after_steps M ss) id) lines ∙ last_live M t [] (map r front) id lits hints groups ∙ ap Some (sym clause);
      negates = subst (Negating path) (sym clause) z.5;
      added = (
        id,
        hints,
        groups,
        subst (λ (C : Clause). Contains (map r steps) (Add id C hints groups)) (sym clause)
            (subst (λ (ss : List Step). Contains ss (Add id lits hints groups)) (sym lines) (Contains-append_right (map r front) (Add id lits hints groups ∷ []) (Add id lits hints groups) (Contains-head (Add id lits hints groups) []))),
      );
      small = leaf_small (log_top B) (behind b t) steps limits;
    }

-- ---- a fork
small_append : (most : ℕ) (xs ys : List Step) → AreSmall most xs → AreSmall most ys → AreSmall most (xs ++ ys)
small_append most xs ys h g id lits hints groups inside = elim (Contains-append_cases xs ys (Add id lits hints groups) inside) [
  | inl a ↦ h id lits hints groups a
  | inr b ↦ g id lits hints groups b
]

all_small : (most : ℕ) (steps : List Step) (C : Clause) → AreSmall most steps → Adds C steps → All (IsWithin most) C
all_small most steps C small a = small a.0 C a.1 a.2 a.3

line_small : (most id : ℕ) (C : Clause) (hints : List ℕ) (groups : List Group) → All (IsWithin most) C → AreSmall most (Add id C hints groups ∷ [])
line_small most id C hints groups h n lits xs gs inside = elim (Contains-cons_cases (Add id C hints groups) (Add n lits xs gs) [] inside) [
  | inl e ↦ let same_clause : C ≡ lits = cc in subst (All (IsWithin most)) same_clause h
  | inr z ↦ absurd (Contains-nil (Add n lits xs gs) z)
]

pub resolvent_small : (most : ℕ) (path : Cube) (C D : Clause) → All (IsWithin most) C → All (IsWithin most) D → All (IsWithin most) (resolvent path C D)
resolvent_small most path C D h g =
    All-weaker (Contains (resolvent path C D)) (IsWithin most)
    (λ l inside. elim (or_cases (has C l) (has D l) (Contains-filter (λ k. has C k || has D k) (map negation path) l inside).1) [
      | inl a ↦ All-contains (IsWithin most) C l h (has-Contains C l a)
      | inr b ↦ All-contains (IsWithin most) D l g (has-Contains D l b)
    ])
    (resolvent path C D) (All-contains_itself (resolvent path C D))

other_free : (path : Cube) (x : Literal) → IsFree path (var_of x) → IsFree path (var_of (negation x))
other_free path x h = subst (IsFree path) (sym (var_of-negation x)) h

-- a clause that negates literals of none is empty
none_left : (C : Clause) → Negating [] C → C ≡ []
none_left [] h = refl
none_left (l ∷ C) h = absurd (Contains-nil (negation l) (h l (Contains-head l C)))

module _ (most : ℕ) (path : Cube) (x : Literal) (t : ℕ) (M : ClauseMap) (left right : Part) (free : IsFree path (var_of x)) (none : ¬ (IsTautology path))
    (first : IsPart most (path ++ x ∷ []) t M left) (second : IsPart most (path ++ negation x ∷ []) left.top (after_steps M left.steps) right) where
  left_up : t ≤ left.top
  left_up = let u = (log_up t M t left.steps first.log).0 in let e = first.top in omega arith

  right_up : left.top ≤ right.top
  right_up = let u = (log_up left.top (after_steps M left.steps) left.top right.steps second.log).0 in let e = second.top in omega arith

  both_log : AreLogSteps t M t (left.steps ++ right.steps)
  both_log = log_append t M t left.steps right.steps first.log
      (subst (λ (k : ℕ). AreLogSteps t (after_steps M left.steps) k right.steps) (sym first.top) (log_weaker t left.top (after_steps M left.steps) left.top right.steps left_up second.log))

  both_top : top_of t (left.steps ++ right.steps) ≡ right.top
  both_top = top_append t left.steps right.steps ∙ ap (λ (k : ℕ). top_of k right.steps) first.top ∙ second.top

  both_left : get (after_steps M (left.steps ++ right.steps)) left.id ≡ Some left.clause
  both_left = ap (λ (N : ClauseMap). get N left.id) (after_append M left.steps right.steps)
      ∙ log_keeps left.top (after_steps M left.steps) left.top right.steps (omega arith) second.log left.id left.clause first.inside first.lives

  both_right : get (after_steps M (left.steps ++ right.steps)) right.id ≡ Some right.clause
  both_right = ap (λ (N : ClauseMap). get N right.id) (after_append M left.steps right.steps) ∙ second.lives

  with_left : has left.clause (negation x) ≡ false → IsPart most path t M (with_clause_of left left right)
  with_left f = record {
    log = both_log;
    top = both_top;
    inside = (let a = first.inside in let u = right_up in omega arith);
    lives = both_left;
    negates = negates_shorter path x left.clause first.negates f;
    added = adds_left left.clause left.steps right.steps first.added;
    small = small_append most left.steps right.steps first.small second.small;
  }

  with_right : has right.clause x ≡ false → IsPart most path t M (with_clause_of right left right)
  with_right f = record {
    log = both_log;
    top = both_top;
    inside = second.inside;
    lives = both_right;
    negates = negates_shorter path (negation x) right.clause second.negates (ap (has right.clause) (negation-negation x) ∙ f);
    added = adds_right right.clause left.steps right.steps second.added;
    small = small_append most left.steps right.steps first.small second.small;
  }

  with_own_line : has left.clause (negation x) ≡ true → IsPart most path t M (with_line (resolvent path left.clause right.clause) left right)
  with_own_line f =
      let lines : List Step = left.steps ++ right.steps in
      let C : Clause = resolvent path left.clause right.clause in
      let hints : List ℕ = left.id ∷ right.id ∷ [] in
      let step : Step = Add (right.top + 1) C hints [] in
      let whole : left.steps ++ right.steps ++ step ∷ [] ≡ lines ++ step ∷ [] = refl in
      let log : AreLogSteps t M t (lines ++ step ∷ []) = log_append t M t lines (step ∷ []) both_log (
        (
          ap (λ (k : ℕ). k + 1) (sym both_top),
          refl,
          node_follows (live_in (after_steps M lines)) path x left.clause right.clause left.id right.id free none first.negates second.negates f both_left both_right,
        ),
        tt,
      ) in
      record {
        log = subst (AreLogSteps t M t) (sym whole) log;
        top = ap (top_of t) whole ∙ last_top t lines (right.top + 1) C hints [];
        inside = omega arith;
        lives = ap (λ (ss : List Step). get (after_steps M ss) (right.top + 1)) whole ∙ last_live M t [] lines (right.top + 1) C hints [];
        negates = resolvent_negates path left.clause right.clause;
        added = (right.top + 1, hints, [], subst (λ (ss : List Step). Contains ss step) (sym whole) (Contains-append_right lines (step ∷ []) step (Contains-head step [])));
        small = subst (AreSmall most) (sym whole) (small_append most lines (step ∷ []) (small_append most left.steps right.steps first.small second.small) (line_small most (right.top + 1) C hints []
            (resolvent_small most path left.clause right.clause (all_small most left.steps left.clause first.small first.added) (all_small most right.steps right.clause second.small second.added))));
      }

  pub fork_is_part : IsPart most path t M (fork_part path x left right)
  fork_is_part = at (has left.clause (negation x)) (has right.clause x) refl refl
    where
      at : (a c : Bool) → has left.clause (negation x) ≡ a → has right.clause x ≡ c
          → IsPart most path t M (cond (not a) (with_clause_of left left right) (cond (not c) (with_clause_of right left right) (with_line (resolvent path left.clause right.clause) left right)))
      at false c e f = with_left e
      at true false e f = with_right f
      at true true e f = with_own_line e

-- ---- a tree
pub part_is : (B : Cnf) (path : Cube) (t : ℕ) (M : ClauseMap) (tree : Closed) → length B.clauses ≤ t → Bears B M → ¬ (IsTautology path) → AreClosed B path tree
    → IsPart (log_top B) path t M (part (length B.clauses) path t tree)
part_is B path t M (leaf steps) low bears none (log, closing, limits) = leaf_is_part B path t M steps low bears log closing limits
part_is B path t M (fork x left right) low bears none (free, a, c) =
    let first : IsPart (log_top B) (path ++ x ∷ []) t M (part (length B.clauses) (path ++ x ∷ []) t left) = part_is B (path ++ x ∷ []) t M left low bears (no_pair_longer path x free none) a in
    let p : Part = part (length B.clauses) (path ++ x ∷ []) t left in
    let up : t ≤ p.top = (let u = (log_up t M t p.steps first.log).0 in let e = first.top in omega arith) in
    let bears' : Bears B (after_steps M p.steps) = λ n C e. log_keeps t M t p.steps (omega arith) first.log n C (let y = (between_formula B n C e).1 in omega arith) (bears n C e) in
    fork_is_part (log_top B) path x t M p (part (length B.clauses) (path ++ negation x ∷ []) p.top right) free none first
    (part_is B (path ++ negation x ∷ []) p.top (after_steps M p.steps) right (omega arith) bears' (no_pair_longer path (negation x) (other_free path x free) none) c)

-- a tree whose leaves are closed refutes
pub tree_added : (B : Cnf) (t : ℕ) (M : ClauseMap) (p : Part) → IsPart (log_top B) [] t M p → (step : Step) × Contains p.steps step × AddsEmpty step
tree_added B t M p h =
    let a = h.added in
    (Add a.0 p.clause a.1 a.2, a.3, none_left p.clause h.negates)

-- The lines of forks, as they are written.
use Rattle.std.proofs.Common.{◌≡◌, ℕ, ◌+◌, ◌≤◌, Bool, true, false, not, cond, List, [], ◌∷◌, ◌++◌, refl, sym, ◌∙◌, ap, subst, arith, append_assoc}
use Rattle.std.proofs.lemmas.List.{append-nil}
use Rattle.dimacs.specs.logic.Literal.{Literal, Clause, negation, has}
use Rattle.icnf.specs.Leaves.{Cube}
use Rattle.lrat_text.specs.Runs.{text_of, top_of}
use Rattle.lrat_text.specs.declared.step.Step.TheVariants.{Add}
use Rattle.lrat_text.proofs.RunLemmas.{text_append, top_append}
use Rattle.proof_join.specs.JoinedProof.{Part, fork_part, with_line, with_clause_of, resolvent}
use Rattle.proof_join.specs.Steps.{own_part}
use Rattle.proof_join.proofs.SubtreeLemmas.{IsFork}
use Rattle.log_join.specs.JoinedLogs.{Ended, leaf, fork, forks}
use Rattle.log_join.specs.declared.lemma.Lemma.{Lemma}
use Rattle.log_join.specs.declared.fork_writer.ForkWriter.{ForkWriter}
use Rattle.log_join.specs.inner.Forks.{HasPut}

-- ---- a fork is its branches, and its own line
fork_own : (path : Cube) (x : Literal) (left right : Part) → IsFork (fork_part path x left right) left right (own_part path x right.top left.id left.clause right.id right.clause)
fork_own path x left right = at (has left.clause (negation x)) (has right.clause x)
  where
    at : (a c : Bool) → IsFork (cond (not a) (with_clause_of left left right) (cond (not c) (with_clause_of right left right) (with_line (resolvent path left.clause right.clause) left right))) left right
        (cond {A = Part} (not a) (record { steps = []; top = right.top; id = left.id; clause = left.clause }) (cond (not c) (record { steps = []; top = right.top; id = right.id; clause = right.clause })
        (record { steps = Add (right.top + 1) (resolvent path left.clause right.clause) (left.id ∷ right.id ∷ []) [] ∷ []; top = right.top + 1; id = right.top + 1; clause = resolvent path left.clause right.clause })))
    at false c = record { steps = sym (append-nil (left.steps ++ right.steps)); top = refl; id = refl; clause = refl }
    at true false = record { steps = sym (append-nil (left.steps ++ right.steps)); top = refl; id = refl; clause = refl }
    at true true = record { steps = refl; top = refl; id = refl; clause = refl }

own_top : (path : Cube) (x : Literal) (t i j : ℕ) (C D : Clause) → (top_of t (own_part path x t i C j D).steps ≡ (own_part path x t i C j D).top) × (t ≤ (own_part path x t i C j D).top)
own_top path x t i j C D = at (has C (negation x)) (has D x)
  where
    at : (a c : Bool) → (top_of t (cond {A = Part} (not a) (record { steps = []; top = t; id = i; clause = C }) (cond (not c) (record { steps = []; top = t; id = j; clause = D })
        (record { steps = Add (t + 1) (resolvent path C D) (i ∷ j ∷ []) [] ∷ []; top = t + 1; id = t + 1; clause = resolvent path C D }))).steps
        ≡ (cond {A = Part} (not a) (record { steps = []; top = t; id = i; clause = C }) (cond (not c) (record { steps = []; top = t; id = j; clause = D })
        (record { steps = Add (t + 1) (resolvent path C D) (i ∷ j ∷ []) [] ∷ []; top = t + 1; id = t + 1; clause = resolvent path C D }))).top)
        × (t ≤ (cond {A = Part} (not a) (record { steps = []; top = t; id = i; clause = C }) (cond (not c) (record { steps = []; top = t; id = j; clause = D })
        (record { steps = Add (t + 1) (resolvent path C D) (i ∷ j ∷ []) [] ∷ []; top = t + 1; id = t + 1; clause = resolvent path C D }))).top)
    at false c = (refl, omega arith)
    at true false = (refl, omega arith)
    at true true = (refl, omega arith)

pub forks_top : (path : Cube) (t : ℕ) (tree : Ended) → top_of t (forks path t tree).steps ≡ (forks path t tree).top
forks_top path t (leaf id C) = refl
forks_top path t (fork x l r) =
    let left : Part = forks (path ++ x ∷ []) t l in
    let right : Part = forks (path ++ negation x ∷ []) left.top r in
    let own : Part = own_part path x right.top left.id left.clause right.id right.clause in
    let f = fork_own path x left right in
    ap (top_of t) f.steps ∙ top_append t (left.steps ++ right.steps) own.steps
    ∙ ap (λ (n : ℕ). top_of n own.steps) (top_append t left.steps right.steps ∙ ap (λ (n : ℕ). top_of n right.steps) (forks_top (path ++ x ∷ []) t l) ∙ forks_top (path ++ negation x ∷ []) left.top r)
    ∙ (own_top path x right.top left.id right.id left.clause right.clause).0
    ∙ sym f.top

pub forks_up : (path : Cube) (t : ℕ) (tree : Ended) → t ≤ (forks path t tree).top
forks_up path t (leaf id C) = omega arith
forks_up path t (fork x l r) =
    let left : Part = forks (path ++ x ∷ []) t l in
    let right : Part = forks (path ++ negation x ∷ []) left.top r in
    let f = (fork_own path x left right).top in
    let a = forks_up (path ++ x ∷ []) t l in
    let b = forks_up (path ++ negation x ∷ []) left.top r in
    let c = (own_top path x right.top left.id right.id left.clause right.clause).1 in
    omega arith

-- the right branch's greatest number is not above the fork's
pub right_up : (path : Cube) (t : ℕ) (x : Literal) (l r : Ended) → (forks (path ++ negation x ∷ []) (forks (path ++ x ∷ []) t l).top r).top ≤ (forks path t (fork x l r)).top
right_up path t x l r =
    let left : Part = forks (path ++ x ∷ []) t l in
    let right : Part = forks (path ++ negation x ∷ []) left.top r in
    let f = (fork_own path x left right).top in
    let c = (own_top path x right.top left.id right.id left.clause right.clause).1 in
    omega arith

pub left_up : (path : Cube) (t : ℕ) (x : Literal) (l r : Ended) → (forks (path ++ x ∷ []) t l).top ≤ (forks path t (fork x l r)).top
left_up path t x l r =
    let left : Part = forks (path ++ x ∷ []) t l in
    let a = forks_up (path ++ negation x ∷ []) left.top r in
    let b = right_up path t x l r in
    omega arith

-- the text of a fork is that of its branches, and its own
fork_text : (path : Cube) (t : ℕ) (x : Literal) (l r : Ended) (out : List ℕ) →
    ((out ++ text_of t (forks (path ++ x ∷ []) t l).steps)
    ++ text_of (forks (path ++ x ∷ []) t l).top (forks (path ++ negation x ∷ []) (forks (path ++ x ∷ []) t l).top r).steps)
    ++ text_of (forks (path ++ negation x ∷ []) (forks (path ++ x ∷ []) t l).top r).top
    (own_part path x (forks (path ++ negation x ∷ []) (forks (path ++ x ∷ []) t l).top r).top (forks (path ++ x ∷ []) t l).id (forks (path ++ x ∷ []) t l).clause
    (forks (path ++ negation x ∷ []) (forks (path ++ x ∷ []) t l).top r).id (forks (path ++ negation x ∷ []) (forks (path ++ x ∷ []) t l).top r).clause).steps
    ≡ out ++ text_of t (forks path t (fork x l r)).steps
fork_text path t x l r out =
    let left : Part = forks (path ++ x ∷ []) t l in
    let right : Part = forks (path ++ negation x ∷ []) left.top r in
    let own : Part = own_part path x right.top left.id left.clause right.id right.clause in
    let f = fork_own path x left right in
    let tops : top_of t (left.steps ++ right.steps) ≡ right.top =
    top_append t left.steps right.steps ∙ ap (λ (n : ℕ). top_of n right.steps) (forks_top (path ++ x ∷ []) t l) ∙ forks_top (path ++ negation x ∷ []) left.top r in
    let both : text_of t (left.steps ++ right.steps) ≡ text_of t left.steps ++ text_of left.top right.steps =
    text_append t left.steps right.steps ∙ ap (λ (n : ℕ). text_of t left.steps ++ text_of n right.steps) (forks_top (path ++ x ∷ []) t l) in
    let whole : text_of t (fork_part path x left right).steps ≡ (text_of t left.steps ++ text_of left.top right.steps) ++ text_of right.top own.steps =
    ap (text_of t) f.steps ∙ text_append t (left.steps ++ right.steps) own.steps
    ∙ ap (λ (n : ℕ). text_of t (left.steps ++ right.steps) ++ text_of n own.steps) tops
    ∙ ap (λ (xs : List ℕ). xs ++ text_of right.top own.steps) both in
    ap (λ (xs : List ℕ). xs ++ text_of right.top own.steps) (append_assoc out (text_of t left.steps) (text_of left.top right.steps))
    ∙ append_assoc out (text_of t left.steps ++ text_of left.top right.steps) (text_of right.top own.steps)
    ∙ ap (λ (xs : List ℕ). out ++ xs) (sym whole)

-- ---- as a writer leaves them
module _ (x y : Literal) (l r : Ended) (w0 w1 w2 w3 : ForkWriter) (a b s : Lemma) (ey : y ≡ negation x) (h1 : HasPut (forks (w0.path.items ++ x ∷ []) w0.top l) w0 w1 a) where
  abbrev first : Part
  first = forks (w0.path.items ++ x ∷ []) w0.top l

  abbrev second : Part
  second = forks (w0.path.items ++ negation x ∷ []) (forks (w0.path.items ++ x ∷ []) w0.top l).top r

  second_is : forks (w1.path.items ++ y ∷ []) w1.top r ≡ second
  second_is = ap (λ (p : Cube). forks (p ++ y ∷ []) w1.top r) h1.path ∙ ap (λ (z : Literal). forks (w0.path.items ++ z ∷ []) w1.top r) ey ∙ ap (λ (t : ℕ). forks (w0.path.items ++ negation x ∷ []) t r) h1.top

  pub second_stops : (n : ℕ) → n ≤ (forks (w1.path.items ++ y ∷ []) w1.top r).top → n ≤ (forks w0.path.items w0.top (fork x l r)).top
  second_stops n low = let e : (forks (w1.path.items ++ y ∷ []) w1.top r).top ≡ second.top = ap (λ (p : Part). p.top) second_is in let u = right_up w0.path.items w0.top x l r in omega arith

  module _ (h2 : HasPut (forks (w1.path.items ++ y ∷ []) w1.top r) w1 w2 b) where
    k2 : HasPut second w1 w2 b
    k2 = subst (λ (p : Part). HasPut p w1 w2 b) second_is h2

    abbrev own : Part
    own = own_part w0.path.items x second.top first.id first.clause second.id second.clause

    own_is : own_part w2.path.items x w2.top a.id a.clause.items b.id b.clause.items ≡ own
    own_is =
        ap (λ (p : Cube). own_part p x w2.top a.id a.clause.items b.id b.clause.items) (k2.path ∙ h1.path)
        ∙ ap (λ (t : ℕ). own_part w0.path.items x t a.id a.clause.items b.id b.clause.items) k2.top
        ∙ ap (λ (i : ℕ). own_part w0.path.items x second.top i a.clause.items b.id b.clause.items) h1.id
        ∙ ap (λ (C : Clause). own_part w0.path.items x second.top first.id C b.id b.clause.items) h1.clause
        ∙ ap (λ (j : ℕ). own_part w0.path.items x second.top first.id first.clause j b.clause.items) k2.id
        ∙ ap (λ (D : Clause). own_part w0.path.items x second.top first.id first.clause second.id D) k2.clause

    pub own_stops : (n : ℕ) → n ≤ (own_part w2.path.items x w2.top a.id a.clause.items b.id b.clause.items).top → n ≤ (forks w0.path.items w0.top (fork x l r)).top
    own_stops n low =
        let e : (own_part w2.path.items x w2.top a.id a.clause.items b.id b.clause.items).top ≡ own.top = ap (λ (p : Part). p.top) own_is in
        let u = (fork_own w0.path.items x first second).top in
        omega arith

    pub fork_put : HasPut (own_part w2.path.items x w2.top a.id a.clause.items b.id b.clause.items) w2 w3 s → HasPut (forks w0.path.items w0.top (fork x l r)) w0 w3 s
    fork_put h3 =
        let k3 : HasPut own w2 w3 s = subst (λ (p : Part). HasPut p w2 w3 s) own_is h3 in
        let f = fork_own w0.path.items x first second in
        record {
          lines = k3.lines ∙ ap (λ (xs : List ℕ). xs ++ text_of w2.top own.steps) (k2.lines ∙ ap (λ (xs : List ℕ). xs ++ text_of w1.top second.steps) h1.lines)
              ∙ ap (λ (t : ℕ). ((w0.lines.items ++ text_of w0.top first.steps) ++ text_of t second.steps) ++ text_of w2.top own.steps) h1.top
              ∙ ap (λ (t : ℕ). ((w0.lines.items ++ text_of w0.top first.steps) ++ text_of first.top second.steps) ++ text_of t own.steps) k2.top
              ∙ fork_text w0.path.items w0.top x l r w0.lines.items;
          top = k3.top ∙ sym f.top;
          id = k3.id ∙ sym f.id;
          clause = k3.clause ∙ sym f.clause;
          path = k3.path ∙ k2.path ∙ h1.path;
        }

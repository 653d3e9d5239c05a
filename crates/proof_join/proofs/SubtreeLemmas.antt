-- Subtrees, as they are written one after the other.
use Rattle.std.proofs.Common.{◌≡◌, ℕ, ◌+◌, Bool, true, false, not, cond, List, [], ◌∷◌, ◌++◌, length, Result, Ok, Err, refl, sym, ◌∙◌, ap, subst, arith, append_assoc, length-append, OnOk}
use Rattle.std.specs.List.{All, Contains}
use Rattle.std.proofs.lemmas.List.{append-nil}
use Rattle.std.proofs.lemmas.List.Elements.{All-nil, All-cons, All-contains, Contains-append_right}
use Rattle.dimacs.specs.logic.Literal.{Literal, Clause, IsWithin, negation, has}
use Rattle.dimacs.proofs.Members.{Contains-head}
use Rattle.icnf.specs.Leaves.{Cube}
use Rattle.lrat_text.specs.Grammar.{LineSpellsWithin, IsStepWithin, IsClauseNumber}
use Rattle.lrat_text.specs.declared.step.Step.{Step}
use Rattle.lrat_text.specs.declared.step.Step.TheVariants.{Add}
use Rattle.proof_join.specs.RenumberedSteps.{last_clause}
use Rattle.lrat_text.specs.Runs.{text_of, top_of}
use Rattle.proof_join.specs.JoinedProof.{Closed, leaf, fork, fragments, cubes, Part, part, fork_part, with_line, with_clause_of, resolvent}
use Rattle.proof_join.specs.declared.fault.JoinFault.{JoinFault}
use Rattle.proof_join.specs.declared.fault.JoinFault.TheVariants.{TooLong, NoMemory}
use Rattle.proof_join.specs.Steps.{own_part}
use Rattle.proof_join.specs.inner.Steps.{Writes, EndsByAddition, clause_of, last_of}
use Rattle.proof_join.proofs.JoinLemmas.{spelled_limits}
use Rattle.proof_join.proofs.LogLemmas.{last_is}
use Rattle.lrat_text.proofs.RunLemmas.{top_append, text_append}

-- ---- a leaf
last_of_end : (before : Step) (front : List Step) (last : Step) → last_of before (front ++ last ∷ []) ≡ last
last_of_end before [] last = refl
last_of_end before (x ∷ front) last = last_of_end x front last

pub ends_clause : (before : Step) (steps : List Step) → EndsByAddition steps → clause_of (last_of before steps) ≡ last_clause [] steps
ends_clause before steps h =
    let step : Step = Add h.id h.clause h.hints h.groups in
    ap (λ (ss : List Step). clause_of (last_of before ss)) h.splits ∙ ap clause_of (last_of_end before h.front step)
    ∙ sym (ap (last_clause []) h.splits ∙ last_is [] h.front h.id h.clause h.hints h.groups)

pub ends_small : (most : ℕ) (text : List ℕ) (steps : List Step) → LineSpellsWithin most text steps → EndsByAddition steps → All (IsWithin most) (last_clause [] steps)
ends_small most text steps spelled h =
    let step : Step = Add h.id h.clause h.hints h.groups in
    let inside : Contains steps step = subst (λ (ss : List Step). Contains ss step) (sym h.splits) (Contains-append_right h.front (step ∷ []) step (Contains-head step [])) in
    let limits : IsStepWithin most step = All-contains (IsStepWithin most) steps step (spelled_limits most text steps spelled) inside in
    subst (All (IsWithin most)) (sym (ap (last_clause []) h.splits ∙ last_is [] h.front h.id h.clause h.hints h.groups)) limits.1

pub two_numbers : (a b : ℕ) → IsClauseNumber a → IsClauseNumber b → All IsClauseNumber (a ∷ b ∷ [])
two_numbers a b h g = All-cons IsClauseNumber a (b ∷ []) h (All-cons IsClauseNumber b [] g (All-nil IsClauseNumber))

-- ---- a fork is its branches and what is its own
pub record IsFork (p left right own : Part) : Type 0 where
  pub steps : p.steps ≡ (left.steps ++ right.steps) ++ own.steps
  pub top : p.top ≡ own.top
  pub id : p.id ≡ own.id
  pub clause : p.clause ≡ own.clause

fork_own : (path : Cube) (x : Literal) (left right : Part) → IsFork (fork_part path x left right) left right (own_part path x right.top left.id left.clause right.id right.clause)
fork_own path x left right = at (has left.clause (negation x)) (has right.clause x)
  where
    at : (a c : Bool) → IsFork
        (cond (not a) (with_clause_of left left right) (cond (not c) (with_clause_of right left right) (with_line (resolvent path left.clause right.clause) left right)))
        left right
        (cond (not a) (record { steps = []; top = right.top; id = left.id; clause = left.clause }) (cond (not c) (record { steps = []; top = right.top; id = right.id; clause = right.clause })
        (record { steps = Add (right.top + 1) (resolvent path left.clause right.clause) (left.id ∷ right.id ∷ []) [] ∷ []; top = right.top + 1; id = right.top + 1; clause = resolvent path left.clause right.clause })))
    at false c = record { steps = sym (append-nil (left.steps ++ right.steps)); top = refl; id = refl; clause = refl }
    at true false = record { steps = sym (append-nil (left.steps ++ right.steps)); top = refl; id = refl; clause = refl }
    at true true = record { steps = refl; top = refl; id = refl; clause = refl }

own_top : (path : Cube) (x : Literal) (top i : ℕ) (C : Clause) (j : ℕ) (D : Clause) → top_of top (own_part path x top i C j D).steps ≡ (own_part path x top i C j D).top
own_top path x top i C j D = at (has C (negation x)) (has D x)
  where
    at : (a c : Bool) → top_of top (cond {A = Part} (not a) (record { steps = []; top = top; id = i; clause = C }) (cond (not c) (record { steps = []; top = top; id = j; clause = D })
        (record { steps = Add (top + 1) (resolvent path C D) (i ∷ j ∷ []) [] ∷ []; top = top + 1; id = top + 1; clause = resolvent path C D }))).steps
        ≡ (cond {A = Part} (not a) (record { steps = []; top = top; id = i; clause = C }) (cond (not c) (record { steps = []; top = top; id = j; clause = D })
        (record { steps = Add (top + 1) (resolvent path C D) (i ∷ j ∷ []) [] ∷ []; top = top + 1; id = top + 1; clause = resolvent path C D }))).top
    at false c = refl
    at true false = refl
    at true true = refl

-- the number of the last addition is the part's
pub part_top : (b : ℕ) (path : Cube) (t : ℕ) (tree : Closed) → top_of t (part b path t tree).steps ≡ (part b path t tree).top
part_top b path t (leaf f) = refl
part_top b path t (fork x l r) =
    let left : Part = part b (path ++ x ∷ []) t l in
    let right : Part = part b (path ++ negation x ∷ []) left.top r in
    let own : Part = own_part path x right.top left.id left.clause right.id right.clause in
    let f = fork_own path x left right in
    ap (top_of t) f.steps ∙ top_append t (left.steps ++ right.steps) own.steps
    ∙ ap (λ (n : ℕ). top_of n own.steps) (top_append t left.steps right.steps ∙ ap (λ (n : ℕ). top_of n right.steps) (part_top b (path ++ x ∷ []) t l) ∙ part_top b (path ++ negation x ∷ []) left.top r)
    ∙ own_top path x right.top left.id left.clause right.id right.clause
    ∙ sym f.top

-- the text of a fork is that of its branches, and its own
pub fork_text : (b : ℕ) (path : Cube) (t : ℕ) (x : Literal) (l r : Closed) (out : List ℕ) →
    ((out ++ text_of t (part b (path ++ x ∷ []) t l).steps)
    ++ text_of (part b (path ++ x ∷ []) t l).top (part b (path ++ negation x ∷ []) (part b (path ++ x ∷ []) t l).top r).steps)
    ++ text_of (part b (path ++ negation x ∷ []) (part b (path ++ x ∷ []) t l).top r).top
    (own_part path x (part b (path ++ negation x ∷ []) (part b (path ++ x ∷ []) t l).top r).top (part b (path ++ x ∷ []) t l).id (part b (path ++ x ∷ []) t l).clause
    (part b (path ++ negation x ∷ []) (part b (path ++ x ∷ []) t l).top r).id (part b (path ++ negation x ∷ []) (part b (path ++ x ∷ []) t l).top r).clause).steps
    ≡ out ++ text_of t (part b path t (fork x l r)).steps
fork_text b path t x l r out =
    let left : Part = part b (path ++ x ∷ []) t l in
    let right : Part = part b (path ++ negation x ∷ []) left.top r in
    let own : Part = own_part path x right.top left.id left.clause right.id right.clause in
    let f = fork_own path x left right in
    let tops : top_of t (left.steps ++ right.steps) ≡ right.top =
    top_append t left.steps right.steps ∙ ap (λ (n : ℕ). top_of n right.steps) (part_top b (path ++ x ∷ []) t l) ∙ part_top b (path ++ negation x ∷ []) left.top r in
    let both : text_of t (left.steps ++ right.steps) ≡ text_of t left.steps ++ text_of left.top right.steps =
    text_append t left.steps right.steps ∙ ap (λ (n : ℕ). text_of t left.steps ++ text_of n right.steps) (part_top b (path ++ x ∷ []) t l) in
    let whole : text_of t (fork_part path x left right).steps ≡ (text_of t left.steps ++ text_of left.top right.steps) ++ text_of right.top own.steps =
    ap (text_of t) f.steps ∙ text_append t (left.steps ++ right.steps) own.steps
    ∙ ap (λ (n : ℕ). text_of t (left.steps ++ right.steps) ++ text_of n own.steps) tops
    ∙ ap (λ (xs : List ℕ). xs ++ text_of right.top own.steps) both in
    ap (λ (xs : List ℕ). xs ++ text_of right.top own.steps) (append_assoc out (text_of t left.steps) (text_of left.top right.steps))
    ∙ append_assoc out (text_of t left.steps ++ text_of left.top right.steps) (text_of right.top own.steps)
    ∙ ap (λ (xs : List ℕ). out ++ xs) (sym whole)

pub fork_ends : (b : ℕ) (path : Cube) (t : ℕ) (x : Literal) (l r : Closed) → IsFork (part b path t (fork x l r)) (part b (path ++ x ∷ []) t l) (part b (path ++ negation x ∷ []) (part b (path ++ x ∷ []) t l).top r)
    (own_part path x (part b (path ++ negation x ∷ []) (part b (path ++ x ∷ []) t l).top r).top (part b (path ++ x ∷ []) t l).id (part b (path ++ x ∷ []) t l).clause
    (part b (path ++ negation x ∷ []) (part b (path ++ x ∷ []) t l).top r).id (part b (path ++ negation x ∷ []) (part b (path ++ x ∷ []) t l).top r).clause)
fork_ends b path t x l r = fork_own path x (part b (path ++ x ∷ []) t l) (part b (path ++ negation x ∷ []) (part b (path ++ x ∷ []) t l).top r)

-- ---- a subtree has as many leaves as fragments
pub leaf_count : (path : Cube) (tree : Closed) → length (cubes path tree) ≡ length (fragments tree)
leaf_count path (leaf f) = refl
leaf_count path (fork x l r) =
    length-append (cubes (path ++ x ∷ []) l) (cubes (path ++ negation x ∷ []) r)
    ∙ (let a = leaf_count (path ++ x ∷ []) l in let b = leaf_count (path ++ negation x ∷ []) r in let e : length (cubes (path ++ x ∷ []) l) + length (cubes (path ++ negation x ∷ []) r) ≡ length (fragments l) + length (fragments r) = omega arith in e)
    ∙ sym (length-append (fragments l) (fragments r))

-- a longer text is as long at least
pub writes_more : (A C : Type 0) (fault : JoinFault) (new short more long : List ℕ) → short ++ more ≡ long → Writes {A = A} (Err fault) new short → Writes {A = C} (Err fault) new long
writes_more A C TooLong new short more long e h = let a : length (short ++ more) ≡ length long = ap length e in let b = length-append short more in omega arith
writes_more A C NoMemory new short more long e h = tt

-- ---- answers of calls
pub ok_gives : (A : Type 0) (r : Result A JoinFault) (P Q : Type 0) → (P → Q) → OnOk r P → OnOk r Q
ok_gives A (Ok x) P Q f h = f h
ok_gives A (Err e) P Q f h = tt

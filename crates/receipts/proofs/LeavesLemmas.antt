-- The leaves that the texts close which were taken, and the lemmas of one text, taken in turn.
use Rattle.std.proofs.Common.{◌≡◌, inl, inr, ℕ, ◌+◌, ◌^◌, ◌≤◌, ◌<◌, Bool, true, false, ◌||◌, ◌&&◌, List, [], ◌∷◌, ◌++◌, length, map, take, get_or, cond, Result, Ok, Err, IfOk, OnOk, refl, sym, ◌∙◌, ap, subst, append_assoc, arith}
use Rattle.std.specs.Prelude.{◌↔◌}
use Rattle.std.specs.List.{Contains, list_all}
use Rattle.std.proofs.lemmas.List.{get_or-map, length-map, take_more, take_all}
use Rattle.std.proofs.lemmas.List.Elements.{All-contains}
use Rattle.dimacs.specs.logic.Cnf.{Cnf}
use Rattle.dimacs.specs.logic.Literal.{Clause}
use Rattle.dimacs.proofs.Members.{Contains-head, Contains-cons, Contains-cons_cases, Contains-nil}
use Rattle.icnf.specs.Leaves.{Cube}
use Rattle.log_join.specs.ClosedLeaves.{Leaf, Numbered, is_closed}
use Rattle.log_join.specs.JoinedLogs.{joined_so_far}
use Rattle.log_join.specs.Written.{leaves_of}
use Rattle.log_join.proofs.ClosedLemmas.{gathered_cubes}
use Rattle.log_join.proofs.SettleLemmas.{both, from_map}
use Rattle.receipts.specs.ClosedLeaves.{AreCovered, IsClosedByText, LeavesClosedByTexts, closes_new_leaf, closing_of, is_closed_by}
use Rattle.receipts.specs.Cover.{HasTakenTexts}
use Rattle.receipts.specs.Contents.{lemma_of, lemmas_in}
use Rattle.receipts.specs.declared.cover.Cover.{Cover}
use Rattle.receipts.specs.declared.coverage.Coverage.{Coverage}
use Rattle.receipts.specs.declared.lemma.ClosingLemma.{ClosingLemma}
use Rattle.receipts.specs.Coverage.{HasTakenClauses, absurdity}
use Rattle.receipts.specs.inner.NonEmpty.{is_some_lemma}
use Rattle.receipts.proofs.CoverageLemmas.{Agree}
use Rattle.receipts.proofs.LogReadLemmas.{closing_snoc}
use Rattle.receipts.proofs.TakenLemmas.{clauses_of}

-- ---- leaves
pub leaves_are : (F : Cnf) (cubes : List Cube) (texts : List (List ℕ)) (c : Cover) → HasTakenTexts F cubes texts c → LeavesClosedByTexts F cubes texts (leaves_of c.coverage.joiner)
leaves_are F cubes texts c h = subst (LeavesClosedByTexts F cubes texts) (sym h.covers.between.stands.leaves) (record {
  cubes_are = gathered_cubes absurdity cubes h.covers.logs;
  closed = λ k i. (
    λ t. (h.are k.cube).0 (sym (agrees k i) ∙ t),
    λ by. agrees k i ∙ (h.are k.cube).1 by,
  );
})
  where
    agrees : (k : Leaf) → Contains (joined_so_far absurdity cubes h.covers.logs).leaves k → is_closed k ≡ is_closed_by h.clauses k.cube
    agrees k i = All-contains (Agree h.clauses) (joined_so_far absurdity cubes h.covers.logs).leaves k h.covers.closed i

pub few_leaves : (F : Cnf) (cubes : List Cube) (texts : List (List ℕ)) (c : Cover) → HasTakenTexts F cubes texts c → length (leaves_of c.coverage.joiner) < 2 ^ 64
few_leaves F cubes texts c h =
    let same : length (leaves_of c.coverage.joiner) ≡ length cubes =
    sym (length-map (leaves_of c.coverage.joiner) (λ k. k.cube)) ∙ ap length (leaves_are F cubes texts c h).cubes_are in
    let few = h.covers.few in
    omega arith

every : {X : Type 0} (p : X → Bool) (xs : List X) → list_all p xs ≡ true → (x : X) → Contains xs x → p x ≡ true
every p [] e x i = absurd (Contains-nil x i)
every p (y ∷ xs) e x i = elim (Contains-cons_cases y x xs i) [
  | inl s ↦ ap p (sym s) ∙ (both (p y) (list_all p xs) e).0
  | inr later ↦ every p xs (both (p y) (list_all p xs) e).1 x later
]

of_every : {X : Type 0} (p : X → Bool) (xs : List X) → ((x : X) → Contains xs x → p x ≡ true) → list_all p xs ≡ true
of_every p [] h = refl
of_every p (y ∷ xs) h = ap (λ b. b && list_all p xs) (h y (Contains-head y xs)) ∙ of_every p xs (λ x i. h x (Contains-cons y x xs i))

in_cubes : (leaves : List Leaf) (k : Leaf) → Contains leaves k → Contains (map (λ (z : Leaf). z.cube) leaves) k.cube
in_cubes [] k i = absurd (Contains-nil k i)
in_cubes (x ∷ leaves) k i = elim (Contains-cons_cases x k leaves i) [
  | inl s ↦ subst (λ (z : Leaf). Contains (map (λ (y : Leaf). y.cube) (x ∷ leaves)) z.cube) s (Contains-head x.cube (map (λ (y : Leaf). y.cube) leaves))
  | inr later ↦ Contains-cons x.cube k.cube (map (λ (y : Leaf). y.cube) leaves) (in_cubes leaves k later)
]

pub complete : (F : Cnf) (cubes : List Cube) (texts : List (List ℕ)) (leaves : List Leaf) (b : Bool) → LeavesClosedByTexts F cubes texts leaves → b ≡ list_all is_closed leaves → (b ≡ true) ↔ AreCovered F cubes texts
complete F cubes texts leaves b h e = (
  λ t q i.
      let k = from_map (λ (z : Leaf). z.cube) leaves q (subst (λ (qs : List Cube). Contains qs q) (sym h.cubes_are) i) in
      subst (IsClosedByText F texts) k.2 ((h.closed k.0 k.1).0 (every is_closed leaves (sym e ∙ t) k.0 k.1)),
  λ all. e ∙ of_every is_closed leaves (λ k i. (h.closed k i).1 (all k.cube (subst (λ (qs : List Cube). Contains qs k.cube) h.cubes_are (in_cubes leaves k i)))),
)

pub ok_weaker : {A E : Type 0} (r : Result A E) (P Q : A → Type 0) → ((x : A) → P x → Q x) → IfOk r P → IfOk r Q
ok_weaker (Ok x) P Q f h = f x h
ok_weaker (Err e) P Q f h = h

-- ---- lemmas in turn
pub lemmas_more : (xs : List ClosingLemma) (i : ℕ) (x : ClosingLemma) → i < length xs → x ≡ get_or xs i x → take (i + 1) (lemmas_in xs) ≡ take i (lemmas_in xs) ++ lemma_of x ∷ []
lemmas_more xs i x below is =
    let long : length (lemmas_in xs) ≡ length xs = length-map xs lemma_of in
    take_more (lemmas_in xs) i (lemma_of x) (omega arith)
    ∙ ap (λ (l : Numbered). take i (lemmas_in xs) ++ l ∷ []) (get_or-map lemma_of xs i x (lemma_of x) below ∙ ap lemma_of (sym is))

pub lemmas_all : (xs : List ClosingLemma) (i : ℕ) → length xs ≤ i → take i (lemmas_in xs) ≡ lemmas_in xs
lemmas_all xs i all =
    let long : length (lemmas_in xs) ≡ length xs = length-map xs lemma_of in
    take_all i (lemmas_in xs) (omega arith)

clause_snoc : (ls : List Numbered) (l : Numbered) → clauses_of (ls ++ l ∷ []) ≡ clauses_of ls ++ l.clause ∷ []
clause_snoc [] l = refl
clause_snoc (x ∷ ls) l = ap (λ (Cs : List Clause). x.clause ∷ Cs) (clause_snoc ls l)

pub covers_one : (cubes : List Cube) (clauses : List Clause) (ls more : List Numbered) (l : Numbered) (new : Coverage) → more ≡ ls ++ l ∷ []
    → HasTakenClauses cubes ((clauses ++ clauses_of ls) ++ l.clause ∷ []) new → HasTakenClauses cubes (clauses ++ clauses_of more) new
covers_one cubes clauses ls more l new e h =
    subst (λ (Cs : List Clause). HasTakenClauses cubes Cs new)
    (append_assoc clauses (clauses_of ls) (l.clause ∷ []) ∙ ap (λ (Cs : List Clause). clauses ++ Cs) (sym (clause_snoc ls l)) ∙ ap (λ (xs : List Numbered). clauses ++ clauses_of xs) (sym e)) h

some_append : (xs ys : List Numbered) → is_some_lemma (xs ++ ys) ≡ (is_some_lemma xs || is_some_lemma ys)
some_append [] ys = refl
some_append (x ∷ xs) ys = refl

some_one : (b : Bool) (l : Numbered) → is_some_lemma (cond b (l ∷ []) []) ≡ b
some_one true l = refl
some_one false l = refl

pub told_one : (cubes : List Cube) (clauses : List Clause) (ls more : List Numbered) (l : Numbered) (a b r : Bool) → more ≡ ls ++ l ∷ [] → a ≡ is_some_lemma (closing_of cubes clauses ls)
    → b ≡ closes_new_leaf cubes (clauses ++ clauses_of ls) l.clause → r ≡ (a || b) → r ≡ is_some_lemma (closing_of cubes clauses more)
told_one cubes clauses ls more l a b r e a_is b_is r_is =
    let closes : Bool = closes_new_leaf cubes (clauses ++ clauses_of ls) l.clause in
    r_is ∙ ap (λ (x : Bool). x || b) a_is ∙ ap (λ (x : Bool). is_some_lemma (closing_of cubes clauses ls) || x) (b_is ∙ sym (some_one closes l))
    ∙ sym (some_append (closing_of cubes clauses ls) (cond closes (l ∷ []) []))
    ∙ ap is_some_lemma (sym (closing_snoc cubes clauses ls l))
    ∙ ap (λ (xs : List Numbered). is_some_lemma (closing_of cubes clauses xs)) (sym e)

pub on_ok : {A E Q : Type 0} (r : Result A E) (P : A → Type 0) → ((x : A) → P x → Q) → IfOk r P → OnOk r Q
on_ok (Ok x) P f h = f x h
on_ok (Err e) P f h = h

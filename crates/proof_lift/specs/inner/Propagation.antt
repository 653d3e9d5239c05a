-- Unit propagation over the images of clauses.
use Rattle.std.specs.Prelude.{◌≡◌, ◌⊎◌, ℕ, true, List, ◌++◌, Option, Some, All, Contains, map}
use Rattle.std.specs.BTreeMap.{BTreeMap}
use Rattle.dimacs.specs.logic.Literal.{Literal, Clause, negation}
use Rattle.dimacs.specs.logic.Propagation.{Assumed}
use Rattle.lrat_check.specs.StepFaults.{Satisfied, Undecided, status}
use Rattle.lrat_text.specs.Grammar.{IsClauseNumber}
use Rattle.proof_lift.specs.HintWalk.{Kept, ClauseImages, WalkOutcome, Open, Closed, Wrong, lift_walk}
use Rattle.proof_lift.specs.declared.lemma_images.LogLemma.{LogLemma}

-- the walk ends at a false clause
abbrev pub IsConflict : WalkOutcome → Type 0
IsConflict Open = ⊥
IsConflict (Closed ps last conflict) = Unit {0}
IsConflict (Wrong number) = ⊥

-- the hints can be written in a line, and end in a conflict
pub record Conflicts (T : ClauseImages) (A : Assumed) (hints : List ℕ) : Type 0 where
  pub numbers : All IsClauseNumber hints
  pub conflict : IsConflict (lift_walk T hints A)

-- the hints lead from A to B, and no literal became true whose negation was true
pub record Reaches (T : ClauseImages) (A : Assumed) (hints : List ℕ) (B : Assumed) : Type 0 where
  pub numbers : All IsClauseNumber hints
  pub more : (l : Literal) → A l ≡ true → B l ≡ true
  pub pairs : (l : Literal) → B l ≡ true → B (negation l) ≡ true → A l ≡ true
  pub leads : (later : List ℕ) → IsConflict (lift_walk T later B) → IsConflict (lift_walk T (hints ++ later) A)

-- the clause is neither false nor unit: it has a true literal, or two that are not false
abbrev pub IsSettled : Assumed → Clause → Type 0
IsSettled A D = (status A D ≡ Satisfied) ⊎ (status A D ≡ Undecided)

-- the image of the clause of each of these numbers is settled
abbrev pub AreSettled : ClauseImages → Assumed → List ℕ → Type 0
AreSettled T A numbers = (n i : ℕ) (D : Clause) → Contains numbers n → T n ≡ Some (Kept i D) → IsSettled A D

-- the list has grown by the clause numbers of which P holds and whose clause has an image
pub record Lists (T : ClauseImages) (P : ℕ → Type 0) (old new : List ℕ) : Type 0 where
  pub numbers : All IsClauseNumber old → All IsClauseNumber new
  pub stay : (n : ℕ) → Contains old n → Contains new n
  pub each : (n i : ℕ) (D : Clause) → P n → T n ≡ Some (Kept i D) → IsClauseNumber n → Contains new n

-- the map has a lemma of this number
abbrev pub HasKey : BTreeMap ℕ (Option LogLemma) → ℕ → Type 0
HasKey m n = Contains (map (λ e. e.0) m.entries) n

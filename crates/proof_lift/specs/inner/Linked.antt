-- Clauses linked to their images: an image has literals of the clause and negations of the cube's literals.
use Rattle.std.specs.Prelude.{◌≡◌, ℕ, true, ◌⊎◌, ◌<◌, ◌≤◌, List, [], ◌∷◌, Some, Contains}
use Rattle.dimacs.specs.logic.Literal.{Literal, Clause, negation}
use Rattle.dimacs.specs.logic.ClauseMap.{ClauseMap, live_in}
use Rattle.dimacs.specs.logic.Propagation.{Assumed, with_literal, IsUnit}
use Rattle.lrat_text.specs.Log.{Cube}
use Rattle.proof_lift.specs.HintWalk.{Gone, Kept, ClauseImages, Passed}
use Rattle.proof_lift.specs.TrimmedLemma.{used}

-- the clause has a literal of the cube
abbrev pub IsMet : Cube → Clause → Type 0
IsMet q C = (x : Literal) × Contains q x × Contains C x

-- D is an image of C: each literal of D is one of C's, or the negation of one of the cube's
abbrev pub IsImage : Cube → Clause → Clause → Type 0
IsImage q C D = (l : Literal) → Contains D l → Contains C l ⊎ Contains q (negation l)

-- E has the literals of C, the negations of the cube's literals, and no other
pub record IsUnion (q : Cube) (C E : Clause) : Type 0 where
  pub clause : (l : Literal) → Contains C l → Contains E l
  pub cube : (l : Literal) → Contains q l → Contains E (negation l)
  pub within : IsImage q C E

-- each image is live in the log under its number
abbrev pub AreLive : ClauseImages → ClauseMap → Type 0
AreLive T N = (n i : ℕ) (D : Clause) → T n ≡ Some (Kept i D) → live_in N i D

-- each live clause of M has an image; or it has a literal of the cube, and needs none
pub record AreImages (q : Cube) (T : ClauseImages) (M : ClauseMap) : Type 0 where
  pub each : (n : ℕ) (C : Clause) → live_in M n C
      → ((T n ≡ Some Gone) × IsMet q C) ⊎ ((i : ℕ) × (D : Clause) × (T n ≡ Some (Kept i D)) × IsImage q C D)

-- the hints are unit in turn in the clauses of N, and lead from the assignment A to B
abbrev pub ArePassed : ClauseMap → Assumed → List Passed → Assumed → Type 0
ArePassed N A [] B = A ≡ B
ArePassed N A (p ∷ ps) B = live_in N p.number p.clause × IsUnit A p.clause p.unit × ArePassed N (with_literal A p.unit) ps B

-- D has only literals of E, and each literal of E whose negation is used
pub record IsTrimmed (ps : List Passed) (conflict E D : Clause) : Type 0 where
  pub within : (l : Literal) → Contains D l → Contains E l
  pub needed : (l : Literal) → Contains E l → used ps conflict (negation l) ≡ true → Contains D l

-- each lemma of the log, with a number above m, is the image of one foreign number
abbrev pub ImagesOnce : ℕ → ClauseImages → Type 0
ImagesOnce m T = (n k i : ℕ) (D E : Clause) → m < i → T n ≡ Some (Kept i D) → T k ≡ Some (Kept i E) → n ≡ k

-- the numbers of the live clauses of N are at most top
abbrev pub AreUpTo : ℕ → ClauseMap → Type 0
AreUpTo top N = (n : ℕ) (C : Clause) → live_in N n C → n ≤ top

-- the invariant of lifting between two steps: of the images T and the log's live clauses N
pub record LiftInvariant (m : ℕ) (T : ClauseImages) (N : ClauseMap) (own : ℕ) : Type 0 where
  pub live : AreLive T N
  pub once : ImagesOnce m T
  pub up : AreUpTo own N
  pub low : m ≤ own

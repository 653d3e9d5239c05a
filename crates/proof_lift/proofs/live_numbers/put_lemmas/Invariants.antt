use Rattle.std.proofs.Common.{◌≡◌, ℕ, ◌⊎◌, Some}
use Rattle.std.specs.Prelude.{All, Contains, map}
use Rattle.dimacs.specs.logic.Literal.{Clause}
use Rattle.lrat_text.specs.Grammar.{IsClauseNumber}
use Rattle.proof_lift.specs.HintWalk.{Kept}
use Rattle.proof_lift.specs.inner.Images.{images_of}
use Rattle.proof_lift.specs.inner.Propagation.{HasKey}
use Rattle.proof_lift.proofs.live_numbers.put_lemmas.Given as goal

-- a key of the map is put, or comes later
abbrev pub invariant-loop-number : goal.invariant-loop-number
invariant-loop-number l = record {
  numbers : All IsClauseNumber l.initial.numbers.items → All IsClauseNumber l.numbers.items;
  stay : (n : ℕ) → Contains l.initial.numbers.items n → Contains l.numbers.items n;
  each : (n i : ℕ) (D : Clause) → HasKey l.map n → images_of l.images n ≡ Some (Kept i D) → IsClauseNumber n → Contains (map (λ e. e.0) l.number-iterator) n ⊎ Contains l.numbers.items n;
}

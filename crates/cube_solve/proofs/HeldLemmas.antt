-- The first literals of a cube are known to be true.
use Rattle.std.proofs.Common.{◌≡◌, ℕ, ◌+◌, ◌<◌, ◌≤◌, inl, inr, true, List, ◌++◌, length, get_or, sym, ◌∙◌, subst, arith}
use Rattle.std.proofs.lemmas.Bool.{or_left}
use Rattle.std.proofs.lemmas.Bool.{cases_eq}
use Rattle.std.proofs.lemmas.List.Folds.{list_any-append}
use Rattle.dimacs.specs.logic.Literal.{Literal, same}
use Rattle.watches.specs.Trails.{holds}
use Rattle.watches.specs.declared.trail.Assigned.{Assigned}
use Rattle.cube_solve.specs.Conflicts.{AllHold}
use Rattle.cube_solve.specs.inner.Steps.{AreHeld}
use Rattle.cube_solve.proofs.AssumptionLemmas.{all_hold}

holds_grows : (es more : List Assigned) (l : Literal) → holds es l ≡ true → holds (es ++ more) l ≡ true
holds_grows es more l h = list_any-append (λ e. same e.literal l) es more ∙ or_left (holds es l) (holds more l) h

pub held_grows : (n : ℕ) (cube : List Literal) (es new more : List Assigned) → new ≡ es ++ more → AreHeld n cube es → AreHeld n cube new
held_grows n cube es new more e h = record {
  few = h.few;
  true_all = λ k d low. subst (λ (xs : List Assigned). holds xs (get_or cube k d) ≡ true) (sym e) (holds_grows es more (get_or cube k d) (h.true_all k d low));
}

-- one more
pub held_more : (n : ℕ) (cube : List Literal) (es : List Assigned) → n < length cube → ((d : Literal) → holds es (get_or cube n d) ≡ true) → AreHeld n cube es → AreHeld (n + 1) cube es
held_more n cube es low here h = record {
  few = omega arith;
  true_all = λ k d below. elim (cases_eq k n) [ inl e ↦ subst (λ j. holds es (get_or cube j d) ≡ true) (sym e) (here d) | inr a ↦ h.true_all k d (omega arith) ];
}

pub held_all : (n : ℕ) (cube : List Literal) (es : List Assigned) → length cube ≤ n → AreHeld n cube es → AllHold es cube
held_all n cube es past h = all_hold es cube n past h.true_all

-- What is kept when more entries are met.
use Rattle.std.proofs.Common.{ℕ, inl, inr, Bool, List, take, refl, ◌∙◌}
use Rattle.watches.specs.declared.trail.Assigned.{Assigned}
use Rattle.conflict_analysis.specs.inner.TrailWalk.{HasMet}
use Rattle.conflict_analysis.proofs.FrontLemmas.{Contains-take}

pub met_further : (front : List Assigned) (a b c : List Bool) → HasMet front a b → HasMet front b c → HasMet front a c
met_further front a b c h k = record {
  sized = k.sized ∙ h.sized;
  grows = λ v m. k.grows v (h.grows v m);
  only = λ v m. elim (k.only v m) [ inl t ↦ h.only v t | inr t ↦ inr t ];
}

pub met_in_front : (es : List Assigned) (i : ℕ) (a b : List Bool) → HasMet (take i es) a b → HasMet es a b
met_in_front es i a b h = record {
  sized = h.sized;
  grows = h.grows;
  only = λ v m. elim (h.only v m) [ inl t ↦ inl t | inr (e, c, q) ↦ inr (e, Contains-take es i e c, q) ];
}

pub met_none : (front : List Assigned) (a : List Bool) → HasMet front a a
met_none front a = record {
  sized = refl;
  grows = λ v m. m;
  only = λ v m. inl m;
}

-- One more entry is resolved.
use Rattle.std.proofs.Common.{◌≡◌, ℕ, ◌<◌, ◌≤◌, inl, inr, Bool, true, eqb, List, length, get_or, take}
use Rattle.std.specs.List.{Contains, IsDistinct}
use Rattle.dimacs.specs.logic.ClauseMap.{Live}
use Rattle.dimacs.specs.logic.Literal.{Literal, var_of}
use Rattle.watches.specs.Law.{IsImplied}
use Rattle.watches.specs.Trails.{variables}
use Rattle.watches.specs.declared.trail.Assigned.{Assigned}
use Rattle.conflict_analysis.specs.inner.Seen.{met}
use Rattle.conflict_analysis.specs.inner.TrailWalk.{HasMet, IsResolved}
use Rattle.conflict_analysis.proofs.BuiltTrailLemmas.{behind}

-- it stays settled when more is met
pub settled_grows : (live : Live) (front : List Assigned) (f g : ℕ → Bool) (e : Assigned) → ((v : ℕ) → f v ≡ true → g v ≡ true) → IsResolved live front f e → IsResolved live front g e
settled_grows live front f g e h s = record { number = s.number; clause = s.clause; reason = s.reason; lives = s.lives; unit = s.unit; all = λ k i. h (var_of k) (s.all k i) }

pub settled_implied : (live : Live) (front : List Assigned) (f : ℕ → Bool) (e : Assigned) → (i : IsImplied live front e) → ((k : Literal) → Contains i.clause k → f (var_of k) ≡ true) → IsResolved live front f e
settled_implied live front f e i all = record { number = i.number; clause = i.clause; reason = i.reason; lives = i.lives; unit = i.unit; all = all }

module _ (live : Live) (es : List Assigned) (apart : IsDistinct eqb (variables es)) (i : ℕ) (old new : List Bool) (more : HasMet (take i es) old new) where
  -- what is met now after the front was met before
  pub was_met : (k : ℕ) (d : Assigned) → i ≤ k → k < length es → met new (var_of (get_or es k d).literal) ≡ true → met old (var_of (get_or es k d).literal) ≡ true
  was_met k d le l m = elim (more.only (var_of (get_or es k d).literal) m) [
    | inl t ↦ t
    | inr (e, c, q) ↦ absurd (behind es i k d e apart c le l q)
  ]

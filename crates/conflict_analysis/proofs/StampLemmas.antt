-- Tables of stamps.
use Rattle.std.proofs.Common.{◌≡◌, ℕ, ◌+◌, ◌≤◌, inl, inr, true, false, eqb, List, length, get_or, set, refl, ap, ◌∙◌, arith}
use Rattle.std.specs.List.{All}
use Rattle.std.proofs.lemmas.Bool.{cases_lt, eq-eqb, ne_eqb}
use Rattle.std.proofs.lemmas.List.{get_or-map, length-map, map-set}
use Rattle.std.proofs.Math.ListN.{get_or-eq_default}
use Rattle.conflict_analysis.specs.inner.Seen.{stamped, met}

-- a stamp above all is no variable's
pub fresh_stamp : (stamps : List ℕ) (n : ℕ) → All (λ s. s ≤ n) stamps → (v : ℕ) → met (stamped stamps (n + 1)) v ≡ false
fresh_stamp stamps n a v = elim (cases_lt v (length stamps)) [
  | inl l ↦ get_or-map (λ s. eqb s (n + 1)) stamps v 0 false l ∙ ne_eqb (get_or stamps v 0) (n + 1) (λ q. let b = a v 0 l in omega (arith, q, b))
  | inr g ↦ get_or-eq_default (stamped stamps (n + 1)) false (let s = length-map stamps (λ s. eqb s (n + 1)) in omega (arith, g, s))
]

-- a variable gets the present stamp
pub stamped_set : (stamps : List ℕ) (stamp u : ℕ) → stamped (set stamps u stamp) stamp ≡ set (stamped stamps stamp) u true
stamped_set stamps stamp u = map-set (λ s. eqb s stamp) stamps u stamp ∙ ap (λ b. set (stamped stamps stamp) u b) (eq-eqb stamp stamp refl)

-- Numbers whose bytes come one after the other.
use Rattle.std.proofs.Common.{◌≡◌, ◌⊎◌, ℕ, ◌+◌, ◌-◌, ◌*◌, ◌^◌, ◌<◌, ◌≤◌, List, [], ◌∷◌, inl, inr, refl, sym, ap, subst, ◌∙◌, arith}
use Rattle.std.proofs.Math.Nat.{mul-le-mul_left}
use Rattle.std.proofs.lemmas.Bool.{cases_eq}
use Rattle.lrat_binary.specs.Grammar.{SpellsNumber}

-- the bytes make a number whole, whose first ones came to a value, where the next one counts so many times
abbrev pub Completes : ℕ → ℕ → List ℕ → ℕ → Type 0
Completes v w [] n = ⊥
Completes v w (b ∷ []) n = (b < 128) × (b ≡ 0 → w ≤ 1) × (n ≡ v + w * b)
Completes v w (b ∷ c ∷ bs) n = (128 ≤ b) × (b < 256) × (w < 2 ^ 42) × Completes (v + w * (b - 128)) (128 * w) (c ∷ bs) n

pub completes_more : (v w b : ℕ) (front : List ℕ) (n : ℕ) → 128 ≤ b → b < 256 → w < 2 ^ 42 → Completes (v + w * (b - 128)) (128 * w) front n → Completes v w (b ∷ front) n
completes_more v w b [] n many few small h = absurd h
completes_more v w b (c ∷ bs) n many few small h = (many, few, small, h)

spread : (v w x y : ℕ) → (v + w * x) + (128 * w) * y ≡ v + w * (x + 128 * y)
spread v w x y = omega arith

not_zero : (b w : ℕ) → (b ≡ 0 → w ≤ 1) → 1 < w → 0 < b
not_zero b w h more = elim (cases_eq b 0) [ inl e ↦ absurd (omega (arith, h e)) | inr other ↦ omega arith ]

completes_spells : (v w : ℕ) (bytes : List ℕ) (n : ℕ) → 1 ≤ w → Completes v w bytes n → (high : ℕ) × (n ≡ v + w * high) × (1 < w → 0 < high) × SpellsNumber bytes high
completes_spells v w [] n some h = absurd h
completes_spells v w (b ∷ []) n some h = (b, h.2, not_zero b w h.1, (h.0, refl))
completes_spells v w (b ∷ c ∷ bs) n some h =
    let r = completes_spells (v + w * (b - 128)) (128 * w) (c ∷ bs) n (omega arith) h.3 in
    let high : 0 < r.0 = r.2 (omega arith) in (
      (b - 128) + 128 * r.0,
      r.1 ∙ spread v w (b - 128) r.0,
      λ more. omega arith,
      (h.0, h.1, r.0, high, omega (arith, h.0), r.3),
    )

pub number_spelled : (bytes : List ℕ) (n : ℕ) → Completes 0 1 bytes n → SpellsNumber bytes n
number_spelled bytes n h =
    let r = completes_spells 0 1 bytes n (omega arith) h in
    let e : n ≡ r.0 = omega (arith, r.1) in
    subst (SpellsNumber bytes) (sym e) r.3

-- how many times a byte may count
abbrev IsWeight : ℕ → Type 0
IsWeight w = (w ≡ 1) ⊎ ((w ≡ 2 ^ 7) ⊎ ((w ≡ 2 ^ 14) ⊎ ((w ≡ 2 ^ 21) ⊎ ((w ≡ 2 ^ 28) ⊎ ((w ≡ 2 ^ 35) ⊎ (w ≡ 2 ^ 42))))))

next_weight : (w : ℕ) → w < 2 ^ 42 → IsWeight w → IsWeight (128 * w)
next_weight w small (inl e) = inr (inl (omega arith))
next_weight w small (inr (inl e)) = inr (inr (inl (omega arith)))
next_weight w small (inr (inr (inl e))) = inr (inr (inr (inl (omega arith))))
next_weight w small (inr (inr (inr (inl e)))) = inr (inr (inr (inr (inl (omega arith)))))
next_weight w small (inr (inr (inr (inr (inl e))))) = inr (inr (inr (inr (inr (inl (omega arith))))))
next_weight w small (inr (inr (inr (inr (inr (inl e)))))) = inr (inr (inr (inr (inr (inr (omega arith))))))
next_weight w small (inr (inr (inr (inr (inr (inr e)))))) = absurd (omega arith)

weight_most : (w : ℕ) → IsWeight w → w ≤ 2 ^ 42
weight_most w (inl e) = omega arith
weight_most w (inr (inl e)) = omega arith
weight_most w (inr (inr (inl e))) = omega arith
weight_most w (inr (inr (inr (inl e)))) = omega arith
weight_most w (inr (inr (inr (inr (inl e))))) = omega arith
weight_most w (inr (inr (inr (inr (inr (inl e)))))) = omega arith
weight_most w (inr (inr (inr (inr (inr (inr e)))))) = omega arith

below : (v w b : ℕ) → v < w → b ≤ 127 → v + w * b < 128 * w
below v w b less few = omega (arith, mul-le-mul_left w few)

completes_below : (v w : ℕ) (bytes : List ℕ) (n : ℕ) → v < w → IsWeight w → Completes v w bytes n → n < 2 ^ 49
completes_below v w [] n less is h = absurd h
completes_below v w (b ∷ []) n less is h = omega (arith, below v w b less (omega (arith, h.0)), weight_most w is, h.2)
completes_below v w (b ∷ c ∷ bs) n less is h =
    completes_below (v + w * (b - 128)) (128 * w) (c ∷ bs) n (below v w (b - 128) less (omega (arith, h.1))) (next_weight w h.2 is) h.3

pub number_below : (bytes : List ℕ) (n : ℕ) → Completes 0 1 bytes n → n < 2 ^ 49
number_below bytes n h = completes_below 0 1 bytes n (omega arith) (inl refl) h

-- ---- and back

fewer : (w high : ℕ) → 128 ≤ high → w * high < 2 ^ 49 → w < 2 ^ 42
fewer w high many small = omega (arith, mul-le-mul_left w many)

carried : (w x high : ℕ) → w * (x + 128 * high) < 2 ^ 49 → (128 * w) * high < 2 ^ 49
carried w x high small = omega (arith, spread 0 w x high)

spells_completes : (v w : ℕ) (bytes : List ℕ) (high : ℕ) → (w ≤ 1) ⊎ (0 < high) → w * high < 2 ^ 49 → SpellsNumber bytes high → Completes v w bytes (v + w * high)
spells_completes v w [] high some small h = absurd h
spells_completes v w (b ∷ []) high some small h = (h.0, λ zero. elim some [ inl few ↦ few | inr more ↦ absurd (omega (arith, h.1)) ], ap (λ (x : ℕ). v + w * x) h.1)
spells_completes v w (b ∷ c ∷ bs) high some small (many, few, low, more, is, spells) =
    let e : high ≡ (b - 128) + 128 * low = omega arith in
    let small_too : w * ((b - 128) + 128 * low) < 2 ^ 49 = subst (λ (x : ℕ). w * x < 2 ^ 49) e small in
    let next : Completes (v + w * (b - 128)) (128 * w) (c ∷ bs) ((v + w * (b - 128)) + (128 * w) * low) = spells_completes (v + w * (b - 128)) (128 * w) (c ∷ bs) low (inr more) (carried w (b - 128) low small_too) spells in
    (many, few, fewer w high (omega arith) small, subst (Completes (v + w * (b - 128)) (128 * w) (c ∷ bs)) (spread v w (b - 128) low ∙ ap (λ (x : ℕ). v + w * x) (sym e)) next)

pub number_completes : (bytes : List ℕ) (n : ℕ) → n < 2 ^ 49 → SpellsNumber bytes n → Completes 0 1 bytes n
number_completes bytes n small h =
    let e : 0 + 1 * n ≡ n = omega arith in
    subst (Completes 0 1 bytes) e (spells_completes 0 1 bytes n (inl (omega arith)) (omega arith) h)

-- What a number of a step is.
use Rattle.std.proofs.Common.{◌≡◌, ◌⊎◌, ℕ, ◌+◌, ◌*◌, ◌/◌, ◌%◌, ◌≤◌, ◌==◌, Bool, false, cond, inl, inr, ap, ◌∙◌, arith}
use Rattle.std.proofs.lemmas.Bool.{cases_eq, ne_eqb, eq-eqb}
use Rattle.lrat_binary.specs.Parser.{token_of}
use Rattle.lrat_binary.specs.declared.token.Token.{Token}
use Rattle.lrat_binary.specs.declared.token.Token.TheVariants.{End, Plus, Minus, Other}

abbrev chosen : Bool → Bool → Bool → ℕ → Token
chosen zero one even half = cond zero End (cond one Other (cond even (Plus half) (Minus half)))

pub token_even : (k : ℕ) → 1 ≤ k → token_of (2 * k) ≡ Plus k
token_even k some =
    ap (λ (b : Bool). chosen b (2 * k == 1) ((2 * k) % 2 == 0) ((2 * k) / 2)) (ne_eqb (2 * k) 0 (λ e. omega arith))
    ∙ ap (λ (b : Bool). chosen false b ((2 * k) % 2 == 0) ((2 * k) / 2)) (ne_eqb (2 * k) 1 (λ e. omega arith))
    ∙ ap (λ (b : Bool). chosen false false b ((2 * k) / 2)) (eq-eqb ((2 * k) % 2) 0 (omega arith))
    ∙ ap (λ (n : ℕ). Plus n) (let h : (2 * k) / 2 ≡ k = omega arith in h)

pub token_odd : (k : ℕ) → 1 ≤ k → token_of (2 * k + 1) ≡ Minus k
token_odd k some =
    ap (λ (b : Bool). chosen b (2 * k + 1 == 1) ((2 * k + 1) % 2 == 0) ((2 * k + 1) / 2)) (ne_eqb (2 * k + 1) 0 (λ e. omega arith))
    ∙ ap (λ (b : Bool). chosen false b ((2 * k + 1) % 2 == 0) ((2 * k + 1) / 2)) (ne_eqb (2 * k + 1) 1 (λ e. omega arith))
    ∙ ap (λ (b : Bool). chosen false false b ((2 * k + 1) / 2)) (ne_eqb ((2 * k + 1) % 2) 0 (λ e. omega arith))
    ∙ ap (λ (n : ℕ). Minus n) (let h : (2 * k + 1) / 2 ≡ k = omega arith in h)

-- every number is 0, 1, twice one from 1 on, or one more
pub record Half (n k : ℕ) : Type 0 where
  pub some : 1 ≤ k
  pub whole : (n ≡ 2 * k) ⊎ (n ≡ 2 * k + 1)

halves : (n : ℕ) → (n ≡ 2 * (n / 2)) ⊎ (n ≡ 2 * (n / 2) + 1)
halves n = elim (cases_eq (n % 2) 0) [ inl e ↦ inl (omega arith) | inr other ↦ inr (omega arith) ]

pub token_cases : (n : ℕ) → (n ≡ 0) ⊎ ((n ≡ 1) ⊎ ((k : ℕ) × Half n k))
token_cases n =
    elim (cases_eq n 0) [
      | inl e ↦ inl e
      | inr other ↦ elim (cases_eq n 1) [ inl e ↦ inr (inl e) | inr many ↦ inr (inr (n / 2, record { some = omega arith; whole = halves n })) ]
    ]

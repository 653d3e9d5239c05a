-- The two watches of a clause: neighbouring places, one even and one odd.
use Rattle.std.proofs.Common.{◌≡◌, ◌≢◌, ℕ, zero, suc, ◌+◌, ◌-◌, ◌/◌, ◌%◌, ◌<◌, ◌≤◌, ◌⊎◌, inl, inr, cond, length, get_or, ap, sym, ◌∙◌, subst, arith}
use Rattle.std.specs.Int.{bit_at}
use Rattle.std.specs.Int.RustNames.{bit_xor}
use Rattle.std.proofs.lemmas.Bool.{cases_eq, ne_eqb, eq-eqb}
use Rattle.std.proofs.lemmas.Nat.Bits.{same_from_bits, bit_at_xor, bit_at_lowest, bit_at-suc, bit_at-zero, bit_at-lt}
use Rattle.clause_arena.specs.declared.reference.Ref.{Ref}
use Rattle.watches.specs.Watches.{Watches}
use Rattle.watches.specs.inner.WatchLists.{twin}
use Rattle.watches.specs.inner.WatchInvariants.{owner, no_clause, IsLong}

pub twin_even : (p : ℕ) → p % 2 ≡ 0 → twin p ≡ p + 1
twin_even p e = ap (λ b. cond b (p + 1) (p - 1)) (eq-eqb (p % 2) 0 e)

pub twin_odd : (p : ℕ) → p % 2 ≡ 1 → twin p ≡ p - 1
twin_odd p e = ap (λ b. cond b (p + 1) (p - 1)) (ne_eqb (p % 2) 0 (λ q. omega arith))

pub parity : (p : ℕ) → (p % 2 ≡ 0) ⊎ (p % 2 ≡ 1)
parity p = elim (cases_eq (p % 2) 0) [ inl e ↦ inl e | inr n ↦ inr (omega arith) ]

-- a place and its twin
pub record AreTwins (p q : ℕ) : Type 0 where
  pub apart : q ≢ p
  pub back : twin q ≡ p
  pub halves : p / 2 ≡ q / 2
  pub sides : p % 2 + q % 2 ≡ 1

pub twins_of : (p : ℕ) → AreTwins p (twin p)
twins_of p = elim (parity p) [
  | inl e ↦ let t = twin_even p e in let b = twin_odd (p + 1) (omega arith) in
      subst (AreTwins p) (sym t) (record { apart = λ x. omega arith; back = omega arith; halves = omega arith; sides = omega arith })
  | inr e ↦ let t = twin_odd p e in let b = twin_even (p - 1) (omega arith) in
      subst (AreTwins p) (sym t) (record { apart = λ x. omega arith; back = omega arith; halves = omega arith; sides = omega arith })
]

-- the clause of a place is its twin's
pub owner_twin : (W : Watches) (p : ℕ) → W.base % 2 ≡ 0 → owner W (twin p) ≡ owner W p
owner_twin W p e =
    let t = twins_of p in
    let h : (twin p - W.base) / 2 ≡ (p - W.base) / 2 = half p (twin p) t in
    ap (λ i. get_or W.clauses i no_clause) h
  where
    half : (p q : ℕ) → AreTwins p q → (q - W.base) / 2 ≡ (p - W.base) / 2
    half p q t = let a = t.halves in let b = t.sides in omega arith

pub long_twin : (W : Watches) (p : ℕ) → W.base % 2 ≡ 0 → length W.places % 2 ≡ 0 → IsLong W p → IsLong W (twin p)
long_twin W p e s h =
    let t = twins_of p in
    let q = within (twin p) t h.0 h.1 in
    (q.0, q.1, subst (λ (a : Ref). 2 ≤ a.len) (sym (owner_twin W p e)) h.2)
  where
    within : (q : ℕ) → AreTwins p q → W.base ≤ p → p < length W.places → (W.base ≤ q) × (q < length W.places)
    within q t a b = let x = t.halves in let y = t.sides in (omega arith, omega arith)

-- places of one clause are the same or twins
pub same_owner : (base p q : ℕ) → base % 2 ≡ 0 → base ≤ p → base ≤ q → (p - base) / 2 ≡ (q - base) / 2 → (q ≡ p) ⊎ (q ≡ twin p)
same_owner base p q e a b h = elim (cases_eq q p) [
  | inl x ↦ inl x
  | inr n ↦ inr (elim (parity p) [
    | inl z ↦ omega (arith, twin_even p z)
    | inr z ↦ omega (arith, twin_odd p z)
  ])
]

-- what the code computes
pub xor_one : (p : ℕ) → bit_xor p 1 ≡ twin p
xor_one p = same_from_bits (bit_xor p 1) (twin p) bits where
  low : (n : ℕ) → (q : ℕ) → p % 2 + q % 2 ≡ 1 → n ≡ (p % 2 + 1) % 2 → n ≡ q % 2
  low n q s e = omega arith

  bits : (i : ℕ) → bit_at (bit_xor p 1) i ≡ bit_at (twin p) i
  bits zero = low _ (twin p) (twins_of p).sides (bit_at_xor p 1 0 ∙ ap (λ x. (x + 1) % 2) (bit_at_lowest p)) ∙ sym (bit_at_lowest (twin p))
  bits (suc i) =
      let h = bit_at-suc p i in
      let z : bit_at 1 (suc i) ≡ 0 = bit_at-suc 1 i ∙ bit_at-zero i in
      let s = bit_at-lt (p / 2) i in
      let one : bit_at (bit_xor p 1) (suc i) ≡ (bit_at (p / 2) i + 0) % 2 = bit_at_xor p 1 (suc i) ∙ ap (λ x. (x + bit_at 1 (suc i)) % 2) h ∙ ap (λ x. (bit_at (p / 2) i + x) % 2) z in
      one ∙ small (bit_at (p / 2) i) s ∙ ap (λ n. bit_at n i) (twins_of p).halves ∙ sym (bit_at-suc (twin p) i)
    where
      small : (n : ℕ) → n < 2 → (n + 0) % 2 ≡ n
      small n l = omega arith

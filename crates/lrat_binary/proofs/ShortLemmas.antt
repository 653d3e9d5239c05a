-- Numbers of few bytes that lie whole in a piece.
use Rattle.std.proofs.Common.{◌≡◌, ℕ, ◌+◌, ◌-◌, ◌*◌, ◌<◌, ◌≤◌, List, [], ◌∷◌, ◌++◌, length, get_or, drop, ◌∙◌, arith}
use Rattle.lrat_binary.specs.inner.ShortNumber.{StartsWithNumber}
use Rattle.lrat_binary.proofs.SpelledLemmas.{number_at}

pub one_byte : (xs : List ℕ) (n : ℕ) → 4 ≤ length xs → n ≡ get_or xs 0 0 → n < 128 → StartsWithNumber xs n (drop 1 xs)
one_byte [] n long e few = absurd (omega arith)
one_byte (a ∷ xs) n long e few = λ part more. number_at part (a ∷ []) 0 1 n (xs ++ more) (omega (arith, e, few), λ z. omega arith, omega (arith, e))

pub two_bytes : (xs : List ℕ) (n a b : ℕ) → 4 ≤ length xs → a ≡ get_or xs 0 0 → b ≡ get_or xs 1 0 → 128 ≤ a → a < 256 → b < 128 → (b ≡ 0 → ⊥) → n ≡ a - 128 + 128 * b → StartsWithNumber xs n (drop 2 xs)
two_bytes [] n a b long ea eb many few last other e = absurd (omega arith)
two_bytes (x ∷ []) n a b long ea eb many few last other e = absurd (omega arith)
two_bytes (x ∷ y ∷ xs) n a b long ea eb many few last other e = λ part more.
    number_at part (x ∷ y ∷ []) 0 1 n (xs ++ more) (omega arith, omega arith, omega arith, (omega arith, λ z. absurd (other (eb ∙ z)), omega arith))

pub three_bytes : (xs : List ℕ) (n a b c : ℕ) → 4 ≤ length xs → a ≡ get_or xs 0 0 → b ≡ get_or xs 1 0 → c ≡ get_or xs 2 0 → 128 ≤ a → a < 256 → 128 ≤ b → b < 256 → c < 128 → (c ≡ 0 → ⊥)
    → n ≡ a - 128 + 128 * (b - 128) + 16384 * c → StartsWithNumber xs n (drop 3 xs)
three_bytes [] n a b c long ea eb ec ma fa mb fb last other e = absurd (omega arith)
three_bytes (x ∷ []) n a b c long ea eb ec ma fa mb fb last other e = absurd (omega arith)
three_bytes (x ∷ y ∷ []) n a b c long ea eb ec ma fa mb fb last other e = absurd (omega arith)
three_bytes (x ∷ y ∷ z ∷ xs) n a b c long ea eb ec ma fa mb fb last other e = λ part more.
    number_at part (x ∷ y ∷ z ∷ []) 0 1 n (xs ++ more) (omega arith, omega arith, omega arith, (omega arith, omega arith, omega arith, (omega arith, λ none. absurd (other (ec ∙ none)), omega arith)))

pub four_bytes : (xs : List ℕ) (n a b c d : ℕ) → 4 ≤ length xs → a ≡ get_or xs 0 0 → b ≡ get_or xs 1 0 → c ≡ get_or xs 2 0 → d ≡ get_or xs 3 0 → 128 ≤ a → a < 256 → 128 ≤ b → b < 256 → 128 ≤ c → c < 256 → d < 128 → (d ≡ 0 → ⊥)
    → n ≡ a - 128 + 128 * (b - 128) + 16384 * (c - 128) + 2097152 * d → StartsWithNumber xs n (drop 4 xs)
four_bytes [] n a b c d long ea eb ec ed ma fa mb fb mc fc last other e = absurd (omega arith)
four_bytes (x ∷ []) n a b c d long ea eb ec ed ma fa mb fb mc fc last other e = absurd (omega arith)
four_bytes (x ∷ y ∷ []) n a b c d long ea eb ec ed ma fa mb fb mc fc last other e = absurd (omega arith)
four_bytes (x ∷ y ∷ z ∷ []) n a b c d long ea eb ec ed ma fa mb fb mc fc last other e = absurd (omega arith)
four_bytes (x ∷ y ∷ z ∷ u ∷ xs) n a b c d long ea eb ec ed ma fa mb fb mc fc last other e = λ part more.
    number_at part (x ∷ y ∷ z ∷ u ∷ []) 0 1 n (xs ++ more)
    (omega arith, omega arith, omega arith, (omega arith, omega arith, omega arith, (omega arith, omega arith, omega arith, (omega arith, λ none. absurd (other (ed ∙ none)), omega arith))))

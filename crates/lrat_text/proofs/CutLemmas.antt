-- A line is cut off a text in one way.
use Rattle.std.proofs.Common.{◌≡◌, ℕ, false, ◌==◌, List, [], ◌∷◌, ◌++◌, Contains, refl, ◌∙◌, ap, subst, arith}
use Rattle.std.specs.Prelude.{nat_eq}
use Rattle.std.proofs.lemmas.Bool.{both_ways, eq-eqb}
use Rattle.std.proofs.lemmas.List.Elements.{All-head, All-tail, All-contains, Contains-append_right}
use Rattle.dimacs.proofs.Members.{Contains-head, Contains-cons}
use Rattle.lrat_text.specs.Lines.{IsOpen}

pub cut_same : (a c xs ys : List ℕ) → IsOpen a → ¬ (Contains c 10) → a ++ 10 ∷ xs ≡ c ++ 10 ∷ ys → (a ≡ c) × (xs ≡ ys)
cut_same [] [] xs ys h g e = (refl, (let t : xs ≡ ys = cc in t))
cut_same [] (y ∷ c) xs ys h g e = absurd (g (0, omega arith, (let f : y ≡ 10 = cc in f)))
cut_same (x ∷ a) [] xs ys h g e =
    let f : x ≡ 10 = cc in
    absurd (both_ways (nat_eq x 10) (All-head (λ n. (n == 10) ≡ false) x a h) (eq-eqb x 10 f))
cut_same (x ∷ a) (y ∷ c) xs ys h g e =
    let first : x ≡ y = cc in
    let more : a ++ 10 ∷ xs ≡ c ++ 10 ∷ ys = cc in
    let rest = cut_same a c xs ys (All-tail (λ n. (n == 10) ≡ false) x a h) (λ i. g (Contains-cons y 10 c i)) more in
    (ap (λ (n : ℕ). n ∷ a) first ∙ ap (λ (ns : List ℕ). y ∷ ns) rest.0, rest.1)

-- a text without an LF has no line
pub none_cut : (text line rest : List ℕ) → IsOpen text → ¬ (text ≡ line ++ 10 ∷ rest)
none_cut text line rest bare splits =
    let all : IsOpen (line ++ 10 ∷ rest) = subst IsOpen splits bare in
    both_ways (nat_eq 10 10) (All-contains (λ n. (n == 10) ≡ false) (line ++ 10 ∷ rest) 10 all (Contains-append_right line (10 ∷ rest) 10 (Contains-head 10 rest))) refl

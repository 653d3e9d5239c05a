-- Two parts of equal length in one array.
use Rattle.std.proofs.Common.{◌≡◌, ◌++◌, ◌+◌, ◌-◌, ◌≤◌, ℕ, List, length, take, drop, ap, refl, sym, ◌∙◌, arith}
use Rattle.std.proofs.lemmas.List.{append-nil, drop_at, length-append, length-take-le, take_at, take_all, drop_all}
use Rattle.std.proofs.lemmas.Slice.{put_mid-paste, take-put_mid}
use borrow.Rule.Slice.PartMut.{put_mid}

-- as many bytes after others, in the place of zeros
pub joined_halves : (n : ℕ) (a b zeros : List ℕ) → length a ≡ n → length b ≡ n → length zeros ≡ n → put_mid n n (a ++ zeros) b ≡ a ++ b
joined_halves n a b zeros long_a long_b long_zeros =
    put_mid-paste n n (a ++ zeros) b b n refl refl (sym long_b)
    ∙ (λ i. take_at a zeros n long_a i ++ take_all n b (omega arith) i ++ drop_all (n + n) (a ++ zeros) (omega (arith, length-append a zeros)) i)
    ∙ append-nil (a ++ b)

-- the place of the second part
pub back_half : (n : ℕ) (a zeros : List ℕ) → length a ≡ n → length zeros ≡ n → length (take n (drop n (a ++ zeros))) ≡ n
back_half n a zeros long_a long_zeros = ap (λ ys. length (take n ys)) (drop_at a zeros n long_a) ∙ ap length (take_all n zeros (omega arith)) ∙ long_zeros

-- what is written behind the first bytes
pub written_behind : (count n : ℕ) (heard part bytes : List ℕ) → count ≤ length heard → n ≤ length bytes → part ≡ take n bytes
    → take (count + n) (put_mid count (count + n - count) heard part) ≡ take count heard ++ take n bytes
written_behind count n heard part bytes within some e =
    let long : count + n ≡ count + length part = omega (arith, ap length e, length-take-le n bytes some) in
    take-put_mid count (count + n - count) heard part (count + n) long within ∙ ap (λ ys. take count heard ++ ys) e

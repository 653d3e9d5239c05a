use Rattle.std.proofs.Common.{◌≡◌, ◌≤◌, ◌+◌, ◌-◌, ◌*◌, ◌/◌, ◌%◌, ℕ, List, [], ◌∷◌, ◌++◌, length, drop, set, replicate, ap, append_assoc, refl, sym, ◌∙◌, arith}
use Rattle.std.proofs.lemmas.List.{set-append_right, drop-replicate, replicate_more, set_at, length-replicate, length-drop, take_rest}
use Rattle.sealed_links.specs.Numbers.{number8}
use Rattle.sealed_links.specs.SipHash.{last_word}
use Rattle.sealed_links.proofs.siphash.last_word_of.Goals as goal

-- n zeros and one more, the last of which is written
last_zero : (n x : ℕ) → set (replicate n 0 ++ 0 ∷ []) n x ≡ replicate n 0 ++ x ∷ []
last_zero n x = set_at (replicate n 0) 0 [] x n (length-replicate n 0)

-- bytes and n + 1 zeros, the last of which is written
last_set : (rest : List ℕ) (m n x : ℕ) → length rest ≡ m → m + n ≡ 7 → set (rest ++ drop m (replicate 8 0)) 7 x ≡ rest ++ replicate n 0 ++ x ∷ []
last_set rest m n x long short =
    let left : 8 - m ≡ n + 1 = omega arith in
    let within : m ≤ 7 = omega arith in
    let place : 7 - m ≡ n = omega arith in
    let zeros : drop m (replicate 8 0) ≡ replicate n 0 ++ 0 ∷ [] = drop-replicate m 8 0 ∙ ap (λ k. replicate k 0) left ∙ sym (replicate_more n 0) in
    ap (λ ys. set (rest ++ ys) 7 x) zeros
    ∙ set-append_right rest (replicate n 0 ++ 0 ∷ []) m 7 x long within
    ∙ ap (λ k. rest ++ set (replicate n 0 ++ 0 ∷ []) k x) place
    ∙ ap (λ ys. rest ++ ys) (last_zero n x)
    ∙ sym (append_assoc rest (replicate n 0) (x ∷ []))

pub returns : goal.returns
unfolding last_word
returns c =
    let text : List ℕ = c.args.text.now in
    let rest : List ℕ = drop (8 * (length text / 8)) text in
    let whole = take_rest text (8 * (length text / 8)) in
    let x : ℕ = length text % 256 in
    let F : List ℕ → List ℕ → List ℕ = λ front cut. set (front ++ drop (length cut) (replicate 8 0)) 7 x in
    c.number_of8.ensures
    ∙ ap number8 ((λ i. F ((c.copy_from_slice.ensures.after ∙ whole) i) (whole i)) ∙ last_set rest (length rest) (7 - length rest) x refl (omega (arith, length-drop (8 * (length text / 8)) text)))

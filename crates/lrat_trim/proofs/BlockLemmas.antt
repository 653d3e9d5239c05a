-- A text that is unpacked block by block.
use Rattle.std.proofs.Common.{◌≡◌, ℕ, ◌+◌, ◌-◌, ◌<◌, ◌≤◌, ◌==◌, List, [], ◌∷◌, ◌++◌, length, take, drop, min, refl, sym, ◌∙◌, ap, arith, length-append, append_assoc}
use Rattle.std.specs.List.{count_by}
use Rattle.std.proofs.lemmas.List.{drop-drop, length-drop, length-take, take-append-drop, drop_at}
use Rattle.std.proofs.lemmas.List.Sums.{count_by-le-length}
use Rattle.lrat_trim.proofs.LetterLemmas.{often, often_append}

-- what is left is a block and what is left after it
pub block_rest : (block text : List ℕ) (from n most : ℕ) → block ≡ take most (drop from text) → n ≡ length block → drop from text ≡ block ++ drop (from + n) text
block_rest block text from n most is len =
    let left : List ℕ = drop from text in
    let whole : left ≡ block ++ drop most left = sym (take-append-drop most left) ∙ ap (λ (b : List ℕ). b ++ drop most left) (sym is) in
    let behind : drop n left ≡ drop most left = ap (drop n) whole ∙ drop_at block (drop most left) n (sym len) in
    whole ∙ ap (λ (r : List ℕ). block ++ r) (sym behind ∙ drop-drop n from text)

pub block_fits : (block text : List ℕ) (from n most : ℕ) → block ≡ take most (drop from text) → n ≡ length block → from ≤ length text → from + n ≤ length text
block_fits block text from n most is len inside =
    omega (arith, len, ap length is, length-take most (drop from text), length-drop from text)

pub block_less : (block text : List ℕ) (from n most : ℕ) → block ≡ take most (drop from text) → n ≡ length block → from < length text → 0 < most
    → length (drop (from + n) text) < length (drop from text)
block_less block text from n most is len inside some =
    omega (arith, len, ap length is, length-take most (drop from text), length-drop from text, length-drop (from + n) text)

-- a byte of a block is counted
pub block_counted : (c n counted : ℕ) (left block rest text : List ℕ) → left ≡ block ++ rest → n ≡ often c block → counted + often c left ≡ often c text → counted + n + often c rest ≡ often c text
block_counted c n counted left block rest text splits is so_far =
    omega (arith, ap (often c) splits, often_append c block rest, is, so_far)

pub count_fits : (c n counted : ℕ) (left block rest text : List ℕ) → left ≡ block ++ rest → n ≡ often c block → counted + often c left ≡ often c text → counted + n ≤ length text
count_fits c n counted left block rest text splits is so_far =
    let few : often c text ≤ length text = count_by-le-length (λ b. b == c) text in
    omega (arith, block_counted c n counted left block rest text splits is so_far, few)

-- at the end all is counted
pub all_counted : (c counted : ℕ) (left text : List ℕ) → left ≡ [] → counted + often c left ≡ often c text → counted ≡ often c text
all_counted c counted left text none so_far = omega (arith, ap (often c) none, so_far)

-- a block more of a text has been taken
pub block_taken : (done left block rest fed text : List ℕ) → done ++ left ≡ text → left ≡ block ++ rest → fed ≡ block → done ++ fed ++ rest ≡ text
block_taken done left block rest fed text whole splits same =
    ap (λ (b : List ℕ). done ++ b ++ rest) same ∙ append_assoc done block rest ∙ ap (λ (r : List ℕ). done ++ r) (sym splits) ∙ whole

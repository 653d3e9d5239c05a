-- The text of a receipt, as it is written part by part.
use Rattle.std.proofs.Common.{◌≡◌, ℕ, ◌+◌, ◌<◌, List, [], ◌++◌, length, take, get_or, codes, decimal, sym, ◌∙◌, ap, append_assoc, arith}
use Rattle.std.specs.List.{flat_map}
use Rattle.std.proofs.lemmas.List.{append-nil, get_or-map, length-map}
use Rattle.dimacs.specs.text.Grammar.{Begins}
use Rattle.dimacs.proofs.WritingLemmas.{item_more}
use Rattle.hex.specs.Hex.{encode_lower}
use Rattle.receipts.specs.Receipts.{lemma_line}
use Rattle.receipts.specs.Contents.{lemma_of, lemmas_in}
use Rattle.receipts.specs.declared.head.Head.{Head}
use Rattle.receipts.specs.declared.lemma.ClosingLemma.{ClosingLemma}
use Rattle.receipts.specs.inner.Heads.{headed}

-- the lines of lemmas, one more
pub lines_more : (old items : List ℕ) (xs : List ClosingLemma) (i : ℕ) (x : ClosingLemma) → i < length xs → x ≡ get_or xs i x
    → items ≡ old ++ flat_map lemma_line (take i (lemmas_in xs)) → items ++ lemma_line (lemma_of x) ≡ old ++ flat_map lemma_line (take (i + 1) (lemmas_in xs))
lines_more old items xs i x below is e =
    let long : length (lemmas_in xs) ≡ length xs = length-map xs lemma_of in
    item_more lemma_line old items (lemmas_in xs) i (lemma_of x) (lemma_of x) (omega arith)
    (sym (get_or-map lemma_of xs i x (lemma_of x) below ∙ ap lemma_of (sym is))) e

-- ---- the first lines
-- what was written stays a prefix
pub begins_after : (old part mid new : List ℕ) → mid ≡ old ++ part → Begins mid new → Begins old new
begins_after old part mid new e (more, is) = (part ++ more, is ∙ ap (λ (x : List ℕ). x ++ more) e ∙ append_assoc old part more)

pub begins_with : (old part new : List ℕ) → new ≡ old ++ part → Begins old new
begins_with old part new e = (part, e)

-- nine parts
pub head_is : (old : List ℕ) (h : Head) (a b c d e f g i last : List ℕ)
    → a ≡ old ++ codes "satcluster receipt 1\nformula " → b ≡ a ++ encode_lower h.formula.bytes → c ≡ b ++ codes "\nlog " → d ≡ c ++ encode_lower h.log.bytes
    → e ≡ d ++ codes "\nlemmas " → f ≡ e ++ decimal h.lemmas → g ≡ f ++ codes "\nbytes " → i ≡ g ++ decimal h.bytes → last ≡ i ++ codes "\n" → last ≡ old ++ headed h []
head_is old h a b c d e f g i last pa pb pc pd pe pf pg pi pl =
    parts old (codes "satcluster receipt 1\nformula ") (encode_lower h.formula.bytes) (codes "\nlog ") (encode_lower h.log.bytes) (codes "\nlemmas ") (decimal h.lemmas) (codes "\nbytes ") (decimal h.bytes) (codes "\n") a b c d e f g i last pa pb pc pd pe pf pg pi pl
  where
    parts : (old p q r s t u v w x a b c d e f g i last : List ℕ) → a ≡ old ++ p → b ≡ a ++ q → c ≡ b ++ r → d ≡ c ++ s → e ≡ d ++ t → f ≡ e ++ u → g ≡ f ++ v → i ≡ g ++ w → last ≡ i ++ x
        → last ≡ old ++ (p ++ q ++ r ++ s ++ t ++ u ++ v ++ w ++ x ++ [])
    parts old p q r s t u v w x a b c d e f g i last pa pb pc pd pe pf pg pi pl = rw (pl, pi, pg, pf, pe, pd, pc, pb, pa) (simp (append_assoc, append-nil))

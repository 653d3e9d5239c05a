-- The head of a receipt, field by field: a text has at most one head.
use Rattle.std.proofs.Common.{◌≡◌, ◌≢◌, ◌==◌, ℕ, ◌+◌, ◌^◌, ◌<◌, true, false, bytes_eq, List, [], ◌∷◌, ◌++◌, length, length-append, take, drop, codes, decimal, Option, Some, None, refl, sym, ◌∙◌, ap, append_assoc, arith}
use Rattle.std.specs.Prelude.{MatchOption}
use Rattle.std.specs.List.{AllByRecursion}
use Rattle.std.specs.Str.Parse.{digits_value}
use Rattle.std.proofs.Math.Seq.{take-append_seam}
use Rattle.std.proofs.lemmas.Bool.{both_ways, ne_eqb}
use Rattle.std.proofs.lemmas.Fmt.{decimal_is_IsNumeral}
use Rattle.std.proofs.lemmas.List.{take-append-drop}
use Rattle.std.proofs.lemmas.List.Elements.{All-cons, All-nil}
use Rattle.std.proofs.lemmas.Slice.Eq.{bytes_eq-Decides}
use Rattle.hex.specs.Hex.{decode_sized, encode_lower}
use Rattle.lrat_check.proofs.Lines.{no_lf_to}
use Rattle.lrat_text.specs.Lines.{IsOpen}
use Rattle.lrat_text.proofs.CutLemmas.{cut_same}
use Rattle.lrat_text.proofs.NumberLemmas.{IsDigitByte, decimal_digits}
use Rattle.log_join.specs.ClosedLeaves.{Numbered}
use Rattle.receipts.specs.Receipts.{IsDigest, IsReceipt, ReceiptContents, closing_text, receipt_text}
use Rattle.receipts.specs.declared.head.Head.{Head}
use Rattle.receipts.specs.inner.Heads.{IsHead, parted}
use Rattle.receipts.proofs.FieldLemmas.{digest_decodes, digits_long, one_value}
use Rattle.receipts.proofs.TextLemmas.{same_front}

-- ---- a prefix
pub match_weaker : {A P Q : Type 0} (o : Option A) (R S : A → Type 0) → (P → Q) → ((x : A) → R x → S x) → MatchOption o P R → MatchOption o Q S
match_weaker None R S f g h = f h
match_weaker (Some x) R S f g h = g x h

pub no_front : (text front : List ℕ) → bytes_eq (take (length front) text) front ≡ false → (rest : List ℕ) → text ≢ front ++ rest
no_front text front none rest e =
    both_ways (bytes_eq (take (length front) text) front) none
    ((bytes_eq-Decides (take (length front) text) front).1 (ap (λ (x : List ℕ). take (length front) x) e ∙ take-append_seam front rest))

pub with_front : (text front rest : List ℕ) → bytes_eq (take (length front) text) front ≡ true → rest ≡ drop (length front) text → text ≡ front ++ rest
with_front text front rest same e =
    sym (take-append-drop (length front) text) ∙ ap (λ (x : List ℕ). x ++ drop (length front) text) ((bytes_eq-Decides (take (length front) text) front).0 same) ∙ ap (λ (x : List ℕ). front ++ x) (sym e)

pub behind_front : (front x y : List ℕ) → front ++ x ≡ front ++ y → x ≡ y
behind_front front x y e = (same_front front front x y refl e).1

-- ---- digits
abbrev not_lf : ℕ → Type 0
not_lf b = (b == 10) ≡ false

digits_open : (ds : List ℕ) → AllByRecursion IsDigitByte ds → IsOpen ds
digits_open [] h = All-nil not_lf
digits_open (d ∷ ds) h = All-cons not_lf d ds (ne_eqb d 10 (λ same. let a = h.0.0 in omega arith)) (digits_open ds h.1)

pub number_cut : (n : ℕ) (line rest more : List ℕ) → n < 2 ^ 64 → IsOpen line → line ++ 10 ∷ rest ≡ decimal n ++ 10 ∷ more → (line ≡ decimal n) × (rest ≡ more)
number_cut n line rest more low bare e = cut_same line (decimal n) rest more bare (no_lf_to (decimal n) (digits_open (decimal n) (decimal_digits n low))) e

pub too_short : (text d rest : List ℕ) → IsDigest d → length text < 64 → text ≡ encode_lower d ++ rest → ⊥
too_short text d rest h short e =
    let l : length (encode_lower d) ≡ 64 = digits_long d h in
    let a : length (encode_lower d ++ rest) ≡ length (encode_lower d) + length rest = length-append (encode_lower d) rest in
    let k : length text ≡ length (encode_lower d ++ rest) = ap length e in
    absurd (omega arith)

same_digest : (f g : List ℕ) → IsDigest f → IsDigest g → encode_lower f ≡ encode_lower g → f ≡ g
same_digest f g hf hg e = one_value (decode_sized (encode_lower g) 32) f g (digest_decodes (encode_lower g) f hf (sym e)) (digest_decodes (encode_lower g) g hg refl)

pub digest_step : (front f g r tail : List ℕ) → IsDigest f → IsDigest g → front ++ (encode_lower f ++ r) ≡ front ++ (encode_lower g ++ tail) → (f ≡ g) × (r ≡ tail)
digest_step front f g r tail hf hg e =
    let s = same_front (encode_lower f) (encode_lower g) r tail (digits_long f hf ∙ sym (digits_long g hg)) (behind_front front (encode_lower f ++ r) (encode_lower g ++ tail) e) in
    (same_digest f g hf hg s.0, s.1)

same_number : (n m : ℕ) → n < 2 ^ 64 → m < 2 ^ 64 → decimal n ≡ decimal m → n ≡ m
same_number n m a b e = sym (decimal_is_IsNumeral n a).1 ∙ ap (digits_value 10) e ∙ (decimal_is_IsNumeral m b).1

pub number_step : (front : List ℕ) (n m : ℕ) (r tail : List ℕ) → n < 2 ^ 64 → m < 2 ^ 64 → front ++ (decimal n ++ 10 ∷ r) ≡ front ++ (decimal m ++ 10 ∷ tail) → (n ≡ m) × (r ≡ tail)
number_step front n m r tail a b e =
    let s = number_cut m (decimal n) r tail b (digits_open (decimal n) (decimal_digits n a)) (behind_front front (decimal n ++ 10 ∷ r) (decimal m ++ 10 ∷ tail) e) in
    (same_number n m a b s.0, s.1)

-- ---- the lines
abbrev pub bytes_tail : Head → List ℕ → List ℕ
bytes_tail h rest = codes "bytes " ++ (decimal h.bytes ++ 10 ∷ rest)

abbrev pub lemmas_tail : Head → List ℕ → List ℕ
lemmas_tail h rest = codes "\nlemmas " ++ (decimal h.lemmas ++ 10 ∷ bytes_tail h rest)

abbrev pub log_tail : Head → List ℕ → List ℕ
log_tail h rest = codes "\nlog " ++ (encode_lower h.log.bytes ++ lemmas_tail h rest)

pub parts_are : (h : Head) (rest : List ℕ) → parted h rest ≡ codes "satcluster receipt 1\nformula " ++ (encode_lower h.formula.bytes ++ log_tail h rest)
parts_are h rest = refl

pub formula_step : (text f r : List ℕ) (h : Head) (rest : List ℕ) → text ≡ codes "satcluster receipt 1\nformula " ++ (encode_lower f ++ r) → IsDigest f → IsHead h → text ≡ parted h rest → (f ≡ h.formula.bytes) × (r ≡ log_tail h rest)
formula_step text f r h rest is small head e = digest_step (codes "satcluster receipt 1\nformula ") f h.formula.bytes r (log_tail h rest) small head.formula (sym is ∙ e ∙ parts_are h rest)

pub log_step : (text f r : List ℕ) (h : Head) (rest : List ℕ) → text ≡ codes "\nlog " ++ (encode_lower f ++ r) → IsDigest f → IsHead h → text ≡ log_tail h rest → (f ≡ h.log.bytes) × (r ≡ lemmas_tail h rest)
log_step text f r h rest is small head e = digest_step (codes "\nlog ") f h.log.bytes r (lemmas_tail h rest) small head.log (sym is ∙ e)

pub lemmas_step : (text : List ℕ) (n : ℕ) (r : List ℕ) (h : Head) (rest : List ℕ) → text ≡ codes "\nlemmas " ++ (decimal n ++ 10 ∷ r) → n < 2 ^ 64 → IsHead h → text ≡ lemmas_tail h rest → (n ≡ h.lemmas) × (r ≡ bytes_tail h rest)
lemmas_step text n r h rest is small head e = number_step (codes "\nlemmas ") n h.lemmas r (bytes_tail h rest) small head.lemmas (sym is ∙ e)

pub bytes_step : (text : List ℕ) (n : ℕ) (r : List ℕ) (h : Head) (rest : List ℕ) → text ≡ codes "bytes " ++ (decimal n ++ 10 ∷ r) → n < 2 ^ 64 → IsHead h → text ≡ bytes_tail h rest → (n ≡ h.bytes) × (r ≡ rest)
bytes_step text n r h rest is small head e = number_step (codes "bytes ") n h.bytes r rest small head.bytes (sym is ∙ e)

pub whole_head : (text f r1 g r2 : List ℕ) (n : ℕ) (r3 : List ℕ) (m : ℕ) (rest : List ℕ) → text ≡ codes "satcluster receipt 1\nformula " ++ (encode_lower f ++ r1) → r1 ≡ codes "\nlog " ++ (encode_lower g ++ r2)
    → r2 ≡ codes "\nlemmas " ++ (decimal n ++ 10 ∷ r3) → r3 ≡ codes "bytes " ++ (decimal m ++ 10 ∷ rest)
    → text ≡ parted (record { formula = record { bytes = f }; log = record { bytes = g }; lemmas = n; bytes = m }) rest
whole_head text f r1 g r2 n r3 m rest a b d e =
    a ∙ ap (λ (x : List ℕ). codes "satcluster receipt 1\nformula " ++ (encode_lower f ++ x)) (b ∙ ap (λ (x : List ℕ). codes "\nlog " ++ (encode_lower g ++ x)) (d ∙ ap (λ (x : List ℕ). codes "\nlemmas " ++ (decimal n ++ 10 ∷ x)) e))

-- ---- a receipt
abbrev pub head_of : ReceiptContents → Head
head_of r = record { formula = record { bytes = r.formula }; log = record { bytes = r.log }; lemmas = r.lemmas; bytes = r.bytes }

pub is_head : (r : ReceiptContents) → IsReceipt r → IsHead (head_of r)
is_head r h = record { formula = h.formula; log = h.log; lemmas = h.lemmas; bytes = h.bytes }

pub text_is : (r : ReceiptContents) → receipt_text r ≡ parted (head_of r) (closing_text r.closing)
text_is r = nested (codes "satcluster receipt 1\nformula ") (encode_lower r.formula) (codes "\nlog ") (encode_lower r.log) (codes "\nlemmas ") (decimal r.lemmas) (codes "\nbytes ") (decimal r.bytes) (codes "\n") (closing_text r.closing)
  where
    nested : (a b d e f g i j k l : List ℕ) → a ++ b ++ d ++ e ++ f ++ g ++ i ++ j ++ k ++ l ≡ a ++ (b ++ (d ++ (e ++ (f ++ (g ++ (i ++ (j ++ (k ++ l))))))))
    nested a b d e f g i j k l = simp append_assoc

pub record IsOneHead (h k : Head) (rest more : List ℕ) : Type 0 where
  pub formula : h.formula.bytes ≡ k.formula.bytes
  pub log : h.log.bytes ≡ k.log.bytes
  pub lemmas : h.lemmas ≡ k.lemmas
  pub bytes : h.bytes ≡ k.bytes
  pub same : rest ≡ more

pub one_head : (text : List ℕ) (h k : Head) (rest more : List ℕ) → IsHead h → IsHead k → text ≡ parted h rest → text ≡ parted k more → IsOneHead h k rest more
one_head text h k rest more hh hk e f =
    let a = formula_step text h.formula.bytes (log_tail h rest) k more (e ∙ parts_are h rest) hh.formula hk f in
    let b = log_step (log_tail h rest) h.log.bytes (lemmas_tail h rest) k more refl hh.log hk a.1 in
    let d = lemmas_step (lemmas_tail h rest) h.lemmas (bytes_tail h rest) k more refl hh.lemmas hk b.1 in
    let g = bytes_step (bytes_tail h rest) h.bytes rest k more refl hh.bytes hk d.1 in
    record { formula = a.0; log = b.0; lemmas = d.0; bytes = g.0; same = g.1 }

abbrev pub told_as : List ℕ → List ℕ → ℕ → ℕ → List Numbered → ReceiptContents
told_as f l n m lemmas = record { formula = f; log = l; lemmas = n; bytes = m; closing = lemmas }

pub one_told : (a b : ReceiptContents) → a.formula ≡ b.formula → a.log ≡ b.log → a.lemmas ≡ b.lemmas → a.bytes ≡ b.bytes → a.closing ≡ b.closing → a ≡ b
one_told a b p q r s t =
    ap (λ (x : List ℕ). told_as x a.log a.lemmas a.bytes a.closing) p ∙ ap (λ (x : List ℕ). told_as b.formula x a.lemmas a.bytes a.closing) q
    ∙ ap (λ (n : ℕ). told_as b.formula b.log n a.bytes a.closing) r ∙ ap (λ (n : ℕ). told_as b.formula b.log b.lemmas n a.closing) s ∙ ap (λ (x : List Numbered). told_as b.formula b.log b.lemmas b.bytes x) t

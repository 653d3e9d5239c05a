-- Headers: more bytes do not change a complete header or its fault; what a complete header tells of the bytes.
use Rattle.std.proofs.Common.{◌≡◌, ◌≢◌, ℕ, zero, suc, ◌<◌, ◌≤◌, Bool, true, false, cond, eqb, leb, ◌%◌, List, [], ◌∷◌, ◌++◌, length, get_or, take, drop, ◌-◌, Option, Some, None, refl, sym, ap, subst, ◌∙◌, arith}
use Rattle.std.specs.Int.{w16, to_be_bytes, from_be_bytes}
use Rattle.std.proofs.lemmas.Nat.{be_bytes_2}
use Rattle.std.specs.Prelude.{◌&&◌}
use Rattle.std.proofs.lemmas.Bool.{eq-eqb, eqb-true, leb-true}
use Rattle.std.proofs.lemmas.List.{take_all}
use Rattle.frames.specs.declared.fault.FrameFault.TheVariants.{BadMark, BadLength}
use Rattle.frames.specs.declared.frame.Kind.{Kind}
use Rattle.frames.specs.declared.frame.Kind.TheVariants as kinds
use Rattle.frames.specs.declared.header.Header.{Header}
use Rattle.frames.specs.declared.header.Header.TheVariants.{Short, Wrong, Whole}
use Rattle.frames.specs.WireFormat.{mark, kind_number, kind_from_number, allows_length}
use Rattle.frames.specs.Stream.{from_length, length_of_kind, from_kind, from_second_mark, header_of}
use Rattle.frames.proofs.FieldLemmas.{IsBytes}

-- ---- more bytes do not change a complete header or its fault

length_more : (k : Kind) (b x : List ℕ) → from_length k b ≢ Short → from_length k (b ++ x) ≡ from_length k b
length_more k [] x h = absurd (h refl)
length_more k (high ∷ []) x h = absurd (h refl)
length_more k (high ∷ low ∷ b) x h = refl

kind_more : (o : Option Kind) (b x : List ℕ) → length_of_kind o b ≢ Short → length_of_kind o (b ++ x) ≡ length_of_kind o b
kind_more None b x h = refl
kind_more (Some k) b x h = length_more k b x h

from_kind_more : (b x : List ℕ) → from_kind b ≢ Short → from_kind (b ++ x) ≡ from_kind b
from_kind_more [] x h = absurd (h refl)
from_kind_more (k ∷ b) x h = kind_more (kind_from_number k) b x h

marked_more : (t : Bool) (p q : Header) → (q ≢ Short → p ≡ q) → cond t q (Wrong BadMark) ≢ Short → cond t p (Wrong BadMark) ≡ cond t q (Wrong BadMark)
marked_more true p q f h = f h
marked_more false p q f h = refl

second_more : (b x : List ℕ) → from_second_mark b ≢ Short → from_second_mark (b ++ x) ≡ from_second_mark b
second_more [] x h = absurd (h refl)
second_more (m ∷ b) x h = marked_more (eqb m mark) (from_kind (b ++ x)) (from_kind b) (from_kind_more b x) h

pub head_more : (b x : List ℕ) → header_of b ≢ Short → header_of (b ++ x) ≡ header_of b
head_more [] x h = absurd (h refl)
head_more (m ∷ b) x h = marked_more (eqb m mark) (from_second_mark (b ++ x)) (from_second_mark b) (second_more b x) h

-- ---- an incomplete header has fewer than five bytes

settled : (t : Bool) (k : Kind) (n : ℕ) → cond t (Whole k n) (Wrong BadLength) ≢ Short
settled true k n e = cc
settled false k n e = cc

length_short : (k : Kind) (b : List ℕ) → from_length k b ≡ Short → length b < 2
length_short k [] e = omega arith
length_short k (high ∷ []) e = omega arith
length_short k (high ∷ low ∷ b) e = absurd (settled (allows_length k (from_be_bytes w16 (high ∷ low ∷ []))) k (from_be_bytes w16 (high ∷ low ∷ [])) e)

kind_short : (o : Option Kind) (b : List ℕ) → length_of_kind o b ≡ Short → length b < 2
kind_short None b e = absurd cc
kind_short (Some k) b e = length_short k b e

from_kind_short : (b : List ℕ) → from_kind b ≡ Short → length b < 3
from_kind_short [] e = omega arith
from_kind_short (k ∷ b) e = let h = kind_short (kind_from_number k) b e in omega (arith, h)

marked_short : (t : Bool) (q : Header) → cond t q (Wrong BadMark) ≡ Short → q ≡ Short
marked_short true q e = e
marked_short false q e = absurd cc

second_short : (b : List ℕ) → from_second_mark b ≡ Short → length b < 4
second_short [] e = omega arith
second_short (m ∷ b) e = let h = from_kind_short b (marked_short (eqb m mark) (from_kind b) e) in omega (arith, h)

pub head_short : (b : List ℕ) → header_of b ≡ Short → length b < 5
head_short [] e = omega arith
head_short (m ∷ b) e = let h = second_short b (marked_short (eqb m mark) (from_second_mark b) e) in omega (arith, h)

-- ---- what a complete header tells

one_kind : (c m : ℕ) (a : Kind) (others : Option Kind) (k : Kind) → kind_number a ≡ m → (others ≡ Some k → c ≡ kind_number k) → cond (eqb c m) (Some a) others ≡ Some k → c ≡ kind_number k
one_kind c m a others k number more e = by_test (eqb c m) refl e
  where
    by_test : (t : Bool) → eqb c m ≡ t → cond t (Some a) others ≡ Some k → c ≡ kind_number k
    by_test true t f = let s : a ≡ k = cc in eqb-true c m t ∙ sym number ∙ ap kind_number s
    by_test false t f = more f

kind_is : (c : ℕ) (k : Kind) → kind_from_number c ≡ Some k → c ≡ kind_number k
kind_is c k e =
    one_kind c 1 kinds.Task _ k refl (one_kind c 2 kinds.Done _ k refl (one_kind c 3 kinds.Fetch _ k refl (one_kind c 4 kinds.Piece _ k refl (one_kind c 5 kinds.Verdict _ k refl (one_kind c 6 kinds.Want _ k refl (one_kind c 7 kinds.Part _ k refl (one_kind c 8 kinds.Idle _ k refl (one_kind c 9 kinds.Rest None k refl (λ f. absurd cc))))))))) e

-- a complete header of this kind and length; the length is possible for the kind
pub record HasHead (b : List ℕ) (k : Kind) (n : ℕ) : Type 0 where
  pub bytes : b ≡ mark ∷ mark ∷ kind_number k ∷ to_be_bytes w16 n ++ drop 5 b
  pub length_is : allows_length k n ≡ true

record HasLength (b : List ℕ) (k : Kind) (n : ℕ) : Type 0 where
  pub bytes : b ≡ to_be_bytes w16 n ++ drop 2 b
  pub length_is : allows_length k n ≡ true

settled_whole : (t : Bool) (k k' : Kind) (m n : ℕ) → cond t (Whole k m) (Wrong BadLength) ≡ Whole k' n → (t ≡ true) × (k ≡ k') × (m ≡ n)
settled_whole true k k' m n e = (refl, cc, cc)
settled_whole false k k' m n e = absurd cc

IsBytes-tail : (x : ℕ) (b : List ℕ) → IsBytes (x ∷ b) → IsBytes b
IsBytes-tail x b h i = h (suc i)

two_bytes : (x y : ℕ) (b : List ℕ) → IsBytes (x ∷ y ∷ b) → IsBytes (x ∷ y ∷ [])
two_bytes x y b h zero = h 0
two_bytes x y b h (suc zero) = h 1
two_bytes x y b h (suc (suc i)) = omega arith

length_whole : (k k' : Kind) (b : List ℕ) (n : ℕ) → IsBytes b → from_length k b ≡ Whole k' n → (k ≡ k') × HasLength b k n
length_whole k k' [] n fits e = absurd cc
length_whole k k' (high ∷ []) n fits e = absurd cc
length_whole k k' (high ∷ low ∷ b) n fits e =
    let m = from_be_bytes w16 (high ∷ low ∷ []) in
    let s = settled_whole (allows_length k m) k k' m n e in
    let bytes : to_be_bytes w16 n ≡ high ∷ low ∷ [] = be_bytes_2 (high ∷ low ∷ []) n refl (two_bytes high low b fits) (sym s.2) in
    (s.1, record { bytes = ap (λ (x : List ℕ). x ++ b) (sym bytes); length_is = ap (allows_length k) (sym s.2) ∙ s.0 })

kind_whole : (o : Option Kind) (k : Kind) (b : List ℕ) (n : ℕ) → IsBytes b → length_of_kind o b ≡ Whole k n → (o ≡ Some k) × HasLength b k n
kind_whole None k b n fits e = absurd cc
kind_whole (Some k') k b n fits e =
    let s = length_whole k' k b n fits e in
    (ap Some s.0, subst (λ q. HasLength b q n) s.0 s.1)

marked_whole : (t : Bool) (q : Header) (k : Kind) (n : ℕ) → cond t q (Wrong BadMark) ≡ Whole k n → (t ≡ true) × (q ≡ Whole k n)
marked_whole true q k n e = (refl, e)
marked_whole false q k n e = absurd cc

pub head_whole : (b : List ℕ) (k : Kind) (n : ℕ) → IsBytes b → header_of b ≡ Whole k n → HasHead b k n
head_whole [] k n fits e = absurd cc
head_whole (x ∷ []) k n fits e = absurd (let s = marked_whole (eqb x mark) Short k n e in let f : Short ≡ Whole k n = s.1 in cc)
head_whole (x ∷ y ∷ []) k n fits e = absurd (let s = marked_whole (eqb x mark) (cond (eqb y mark) Short (Wrong BadMark)) k n e in let s' = marked_whole (eqb y mark) Short k n s.1 in let f : Short ≡ Whole k n = s'.1 in cc)
head_whole (x ∷ y ∷ c ∷ b) k n fits e =
    let s = marked_whole (eqb x mark) (cond (eqb y mark) (length_of_kind (kind_from_number c) b) (Wrong BadMark)) k n e in
    let s' = marked_whole (eqb y mark) (length_of_kind (kind_from_number c) b) k n s.1 in
    let l = kind_whole (kind_from_number c) k b n (IsBytes-tail c b (IsBytes-tail y (c ∷ b) (IsBytes-tail x (y ∷ c ∷ b) fits))) s'.1 in
    let first : x ≡ mark = eqb-true x mark s.0 in
    let second : y ≡ mark = eqb-true y mark s'.0 in
    let number : c ≡ kind_number k = kind_is c k l.0 in
    record {
      bytes = ap (λ z. z ∷ y ∷ c ∷ b) first ∙ ap (λ z. mark ∷ z ∷ c ∷ b) second ∙ ap (λ z. mark ∷ mark ∷ z ∷ b) number ∙ ap (λ (z : List ℕ). mark ∷ mark ∷ kind_number k ∷ z) l.1.bytes;
      length_is = l.1.length_is;
    }

-- ---- a complete header has five bytes, and a length that is possible for its kind

limit_length : (k k' : Kind) (b : List ℕ) (n : ℕ) → from_length k b ≡ Whole k' n → (allows_length k' n ≡ true) × (2 ≤ length b)
limit_length k k' [] n e = absurd cc
limit_length k k' (high ∷ []) n e = absurd cc
limit_length k k' (high ∷ low ∷ b) n e =
    let m = from_be_bytes w16 (high ∷ low ∷ []) in
    let s = settled_whole (allows_length k m) k k' m n e in
    (ap (λ q. allows_length q n) (sym s.1) ∙ ap (allows_length k) (sym s.2) ∙ s.0, omega arith)

limit_kind : (o : Option Kind) (k : Kind) (b : List ℕ) (n : ℕ) → length_of_kind o b ≡ Whole k n → (allows_length k n ≡ true) × (2 ≤ length b)
limit_kind None k b n e = absurd cc
limit_kind (Some k') k b n e = limit_length k' k b n e

limit_from_kind : (b : List ℕ) (k : Kind) (n : ℕ) → from_kind b ≡ Whole k n → (allows_length k n ≡ true) × (3 ≤ length b)
limit_from_kind [] k n e = absurd cc
limit_from_kind (c ∷ b) k n e = let h = limit_kind (kind_from_number c) k b n e in (h.0, omega (arith, h.1))

limit_second : (b : List ℕ) (k : Kind) (n : ℕ) → from_second_mark b ≡ Whole k n → (allows_length k n ≡ true) × (4 ≤ length b)
limit_second [] k n e = absurd cc
limit_second (m ∷ b) k n e = let h = limit_from_kind b k n (marked_whole (eqb m mark) (from_kind b) k n e).1 in (h.0, omega (arith, h.1))

pub head_limit : (b : List ℕ) (k : Kind) (n : ℕ) → header_of b ≡ Whole k n → (allows_length k n ≡ true) × (5 ≤ length b)
head_limit [] k n e = absurd cc
head_limit (m ∷ b) k n e = let h = limit_second b k n (marked_whole (eqb m mark) (from_second_mark b) k n e).1 in (h.0, omega (arith, h.1))

both : (a b : Bool) → (a && b) ≡ true → (a ≡ true) × (b ≡ true)
both true b e = (refl, e)
both false b e = absurd cc

-- no payload is longer
pub limit_of : (k : Kind) (n : ℕ) → allows_length k n ≡ true → n ≤ 4032
limit_of kinds.Task n e = let a = both (leb 24 n) (leb n 280 && eqb (n % 4) 0) e in let b = both (leb n 280) (eqb (n % 4) 0) a.1 in omega (arith, leb-true n 280 b.0)
limit_of kinds.Done n e = omega (arith, eqb-true n 33 e)
limit_of kinds.Fetch n e = omega (arith, eqb-true n 32 e)
limit_of kinds.Piece n e = omega (arith, leb-true n 4032 (both (leb 33 n) (leb n 4032) e).1)
limit_of kinds.Verdict n e = omega (arith, eqb-true n 13 e)
limit_of kinds.Want n e = omega (arith, eqb-true n 16 e)
limit_of kinds.Part n e = omega (arith, leb-true n 4013 (both (leb 14 n) (leb n 4013) e).1)
limit_of kinds.Idle n e = omega (arith, eqb-true n 12 e)
limit_of kinds.Rest n e = omega (arith, eqb-true n 0 e)

-- ---- the first byte, and what is read after it

behind_first : (b : ℕ) (bs : List ℕ) → bs ≡ take (length (b ∷ bs) - 1) bs
behind_first b bs = sym (take_all (length (b ∷ bs) - 1) bs (omega arith))

-- after a mark the second mark is read
pub first_is_mark : (bytes : List ℕ) → 1 ≤ length bytes → get_or bytes 0 0 ≡ 67 → header_of bytes ≡ from_second_mark (take (length bytes - 1) (drop 1 bytes))
first_is_mark [] some is = absurd (omega arith)
first_is_mark (b ∷ bs) some is = ap (λ t. cond t (from_second_mark bs) (Wrong BadMark)) (eq-eqb b 67 is) ∙ ap from_second_mark (behind_first b bs)

-- after the second mark the kind
pub second_is_mark : (bytes : List ℕ) → 1 ≤ length bytes → get_or bytes 0 0 ≡ 67 → from_second_mark bytes ≡ from_kind (take (length bytes - 1) (drop 1 bytes))
second_is_mark [] some is = absurd (omega arith)
second_is_mark (b ∷ bs) some is = ap (λ t. cond t (from_kind bs) (Wrong BadMark)) (eq-eqb b 67 is) ∙ ap from_kind (behind_first b bs)

-- after the kind the length
pub kind_read : (bytes : List ℕ) (kind : Option Kind) → 1 ≤ length bytes → kind ≡ kind_from_number (get_or bytes 0 0) → length_of_kind kind (take (length bytes - 1) (drop 1 bytes)) ≡ from_kind bytes
kind_read [] kind some is = absurd (omega arith)
kind_read (b ∷ bs) kind some is = ap (length_of_kind kind) (sym (behind_first b bs)) ∙ ap (λ (k : Option Kind). length_of_kind k bs) is

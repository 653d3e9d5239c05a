-- Writes one after the other are one write.
use Rattle.std.proofs.Common.{get_or, ◌≡◌, ℕ, ◌+◌, ◌*◌, ◌<◌, ◌≤◌, List, [], ◌∷◌, ◌++◌, length, take, drop, refl, sym, ap, subst, ◌∙◌, arith, length-append, length-take, length-drop, append_assoc}
use Rattle.std.proofs.lemmas.List.{take_at, drop_at, take-append-drop, drop-drop, take_more}
use Rattle.std.specs.List.{flat_map}
use Rattle.std.proofs.lemmas.List.Concat.{flat_map-cons}
use Rattle.std.proofs.lemmas.Grind.{flat_map-append}
use Rattle.dimacs.specs.logic.Literal.{Literal}
use Rattle.frames.specs.WireFormat.{literal_bytes}
use Rattle.frames.specs.inner.Puts.{Puts}

pub Puts-first : {a b : List ℕ} {i j : ℕ} (x y : List ℕ) → x ≡ y → Puts a i x b j → Puts a i y b j
Puts-first {a} {b} {i} {j} x y e p = subst (λ (z : List ℕ). Puts a i z b j) e p

pub length-front : (a x : List ℕ) (i : ℕ) → i + length x ≤ length a → length (take i a ++ x) ≡ i + length x
length-front a x i fits = omega (arith, length-append (take i a) x, length-take i a)

pub Puts-then : {a b c : List ℕ} {i j k : ℕ} (x y z : List ℕ) → Puts a i x b j → y ≡ z → Puts b j y c k → Puts a i (x ++ z) c k
Puts-then {a} {b} {c} {i} {j} {k} x y z p e q = subst (λ (w : List ℕ). Puts a i (x ++ w) c k) e (record {
  fits = omega (arith, q.fits, p.ends, lb, length-append x y);
  now = q.now ∙ ap (λ (w : List ℕ). w ++ (y ++ drop (j + length y) b)) front ∙ ap (λ (w : List ℕ). (take i a ++ x) ++ (y ++ w)) back ∙ regrouped;
  ends = omega (arith, q.ends, p.ends, length-append x y);
})
  where
    lb : length b ≡ length a
    lb = ap length p.now ∙ omega (arith, p.fits, length-append (take i a) (x ++ drop (i + length x) a), length-append x (drop (i + length x) a), length-take i a, length-drop (i + length x) a)

    len : length (take i a ++ x) ≡ j
    len = length-front a x i p.fits ∙ sym p.ends

    whole : b ≡ (take i a ++ x) ++ drop (i + length x) a
    whole = p.now ∙ sym (append_assoc (take i a) x (drop (i + length x) a))

    front : take j b ≡ take i a ++ x
    front = ap (take j) whole ∙ take_at (take i a ++ x) (drop (i + length x) a) j len

    behind : drop j b ≡ drop (i + length x) a
    behind = ap (drop j) whole ∙ drop_at (take i a ++ x) (drop (i + length x) a) j len

    back : drop (j + length y) b ≡ drop (i + length (x ++ y)) a
    back = sym (drop-drop (length y) j b) ∙ ap (drop (length y)) behind ∙ drop-drop (length y) (i + length x) a ∙ ap (λ n. drop n a) (omega (arith, length-append x y))

    regrouped : (take i a ++ x) ++ (y ++ drop (i + length (x ++ y)) a) ≡ take i a ++ ((x ++ y) ++ drop (i + length (x ++ y)) a)
    regrouped = append_assoc (take i a) x _ ∙ ap (λ (w : List ℕ). take i a ++ w) (sym (append_assoc x y _))

-- nothing is written
pub Puts-none : (a : List ℕ) (i : ℕ) → i ≤ length a → Puts a i [] a i
Puts-none a i fits = record { fits = omega arith; now = sym (take-append-drop i a) ∙ ap (λ n. take i a ++ drop n a) (omega arith); ends = omega arith }

-- a literal has four bytes
pub length-literals : (ls : List Literal) → length (flat_map literal_bytes ls) ≡ 4 * length ls
length-literals [] = refl
length-literals (l ∷ ls) = ap length (flat_map-cons literal_bytes l ls) ∙ omega (arith, length-literals ls)

-- the bytes of one literal more
pub literals_more : (ls : List Literal) (i : ℕ) (l : Literal) → i < length ls → l ≡ get_or ls i l → flat_map literal_bytes (take (i + 1) ls) ≡ flat_map literal_bytes (take i ls) ++ literal_bytes l
literals_more ls i l lt e = ap (flat_map literal_bytes) (take_more ls i l lt ∙ ap (λ x. take i ls ++ x ∷ []) (sym e)) ∙ flat_map-append literal_bytes (take i ls) (l ∷ []) ∙ ap (λ (bytes : List ℕ). flat_map literal_bytes (take i ls) ++ bytes) (flat_map-cons literal_bytes l [])

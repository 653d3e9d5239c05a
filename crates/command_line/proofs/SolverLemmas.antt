-- Texts that are cut at marks.
use Rattle.std.specs.Prelude.{◌==◌}
use Rattle.std.proofs.Common.{◌≡◌, ℕ, ◌<◌, Bool, false, true, List, [], ◌∷◌, ◌++◌, length, All, Option, Some, None, unwrap_or, MatchOption, Bor, if◌then◌else◌, refl, sym, ◌∙◌, ap, subst, arith}
use Rattle.std.specs.List.{slice_split, before_first, after_first, position_or_len}
use Rattle.std.proofs.lemmas.List.Splits.{slice_split_first, slice_split_none, length-slice_split}
use Rattle.std.proofs.lemmas.List.Sums.{fails_before_first}
use Rattle.std.proofs.lemmas.Bool.{eqb-true}
use Rattle.std.proofs.lemmas.List.Folds.{list_any_none}
use Rattle.command_line.specs.SolverTable.{behind}
use Rattle.clap.specs.Words.{Text}
use Rattle.command_line.specs.SolverWords.{last_or, value_of}

-- no byte of a text is a mark
lacks : (mark : ℕ) (text : Text) → position_or_len (λ (b : ℕ). b == mark) text ≡ length text → All (λ (b : ℕ). (b == mark) ≡ false) text
lacks mark text e k d m = fails_before_first (λ (b : ℕ). b == mark) text k d (omega (arith, e, m))

-- a text without a mark is its only part
uncut : (mark : ℕ) (text : Text) → position_or_len (λ (b : ℕ). b == mark) text ≡ length text → slice_split (λ (b : ℕ). b == mark) text ≡ text ∷ []
uncut mark text e = slice_split_none (λ (b : ℕ). b == mark) text (lacks mark text e)

-- a word without `=` has no value
pub no_value : (word : Text) → position_or_len (λ (b : ℕ). b == 61) word ≡ length word → None ≡ value_of word
no_value word e =
    let P : Bool → Type 0 = λ has. None ≡ (if has then Some (after_first (λ (b : ℕ). b == 61) word) else None) in
    subst P (sym (list_any_none (λ (b : ℕ). b == 61) word (lacks 61 word e))) refl

-- the parts of a text that is cut at its first mark
pub cut_parts : (mark : ℕ) (text : Text) (r : Option (Bor Text × Bor Text))
    → MatchOption r (position_or_len (λ (b : ℕ). b == mark) text ≡ length text) (λ x. (position_or_len (λ (b : ℕ). b == mark) text < length text) × (x.0.now ≡ before_first (λ (b : ℕ). b == mark) text) × (x.1.now ≡ after_first (λ (b : ℕ). b == mark) text))
    → MatchOption r (slice_split (λ (b : ℕ). b == mark) text ≡ text ∷ []) (λ x. slice_split (λ (b : ℕ). b == mark) text ≡ x.0.now ∷ slice_split (λ (b : ℕ). b == mark) x.1.now)
cut_parts mark text None e = uncut mark text e
cut_parts mark text (Some x) (less, front, back) =
    let P : Text → Text → Type 0 = λ first more. slice_split (λ (b : ℕ). b == mark) text ≡ first ∷ slice_split (λ (b : ℕ). b == mark) more in
    subst (λ (t : Text). P t x.1.now) (sym front) (subst (λ (t : Text). P (before_first (λ (b : ℕ). b == mark) text) t) (sym back) (slice_split_first (λ (b : ℕ). b == mark) text 0 less))

-- a default of a list with some part is not its last part
last_is : (d e : Text) (parts : List Text) → 0 < length parts → last_or d parts ≡ last_or e parts
last_is d e [] some = absurd (omega (arith, some))
last_is d e (part ∷ parts) some = refl

pub last_more : (d first : Text) (mark : ℕ) (more : Text) → last_or d (first ∷ slice_split (λ (b : ℕ). b == mark) more) ≡ last_or d (slice_split (λ (b : ℕ). b == mark) more)
last_more d first mark more =
    let e = length-slice_split (λ (b : ℕ). b == mark) more in
    last_is first d (slice_split (λ (b : ℕ). b == mark) more) (omega (arith, e))

-- ---- what stands at the front of a word
equal_to_itself : (n : ℕ) → (n == n) ≡ true
equal_to_itself n = grind arith

at_front : (front rest : Text) → behind front (front ++ rest) ≡ Some rest
at_front [] rest = refl
at_front (byte ∷ front) rest =
    let P : Bool → Type 0 = λ b. (if b then behind front (front ++ rest) else None) ≡ Some rest in
    subst P (sym (equal_to_itself byte)) (at_front front rest)

behind_byte : (b : Bool) (byte first : ℕ) (front word rest : Text) → (b ≡ true → byte ≡ first) → (behind front word ≡ Some rest → word ≡ front ++ rest)
    → (if b then behind front word else None) ≡ Some rest → first ∷ word ≡ byte ∷ (front ++ rest)
behind_byte true byte first front word rest same later e =
    let P : ℕ → Type 0 = λ n. n ∷ word ≡ byte ∷ (front ++ rest) in
    subst P (same refl) (ap (λ (t : Text). byte ∷ t) (later e))
behind_byte false byte first front word rest same later e = absurd (cc e)

behind_is : (front word rest : Text) → behind front word ≡ Some rest → word ≡ front ++ rest
behind_is [] word rest e = ap (λ (found : Option Text). unwrap_or found []) e
behind_is (byte ∷ front) [] rest e = absurd (cc e)
behind_is (byte ∷ front) (first ∷ word) rest e = behind_byte (byte == first) byte first front word rest (eqb-true byte first) (behind_is front word rest) e

none_if : (found : Option Text) (front word : Text) → behind front word ≡ found → ((rest : Text) → word ≡ front ++ rest → ⊥) → found ≡ None
none_if None front word e none = refl
none_if (Some rest) front word e none = absurd (none rest (behind_is front word rest e))

-- a word that does not begin so has nothing behind it
pub behind_none : (front word : Text) → ((rest : Text) → word ≡ front ++ rest → ⊥) → behind front word ≡ None
behind_none front word none = none_if (behind front word) front word refl none

pub behind_some : (front word rest : Text) → word ≡ front ++ rest → behind front word ≡ Some rest
behind_some front word rest e = ap (behind front) e ∙ at_front front rest

-- ---- a word that is none of two
pub neither : {A : Type 0} (one other : Bool) (x y z : A) → one ≡ false → other ≡ false → (if one then x else if other then y else z) ≡ z
neither false false x y z e f = refl
neither false true x y z e f = absurd (cc f)
neither true other x y z e f = absurd (cc e)

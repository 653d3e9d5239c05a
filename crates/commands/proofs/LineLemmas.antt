-- A line that is read of a source.
use Rattle.std.proofs.Common.{◌≡◌, ◌≢◌, inl, inr, ℕ, ◌+◌, ◌-◌, ◌<◌, true, false, Bool, eqb, eq-eqb, List, [], ◌∷◌, ◌++◌, length, take, get_or, Option, Some, None, refl, sym, ◌∙◌, ap, subst, arith, append_assoc, append-nil, take_all, IfSome, cond}
use Rattle.std.specs.Prelude.{if◌then◌else◌}
use Rattle.std.specs.List.{All}
use Rattle.std.specs.Io.{StopsAt, appended_bytes}
use Rattle.std.specs.Io.BufRead.{DropsThrough, drop_through, ends_with_byte, strip_last, take_through}
use Rattle.std.proofs.Transfers.{All-of_StopsAt}
use Rattle.std.proofs.lemmas.Bool.{both_ways, cases_Bool, eqb-true, lt-ltb, ne_eqb}
use Rattle.std.proofs.lemmas.List.{get_or_default, take_more}
use Rattle.std.proofs.lemmas.List.Elements.{All-head, All-nil, All-tail, All-weaker}
use Rattle.lrat_text.specs.Lines.{IsOpen}
use Rattle.commands.specs.inner.EventSource.{TakesLine}

is_open : (bytes : List ℕ) → All (λ b. b ≢ 10) bytes → IsOpen bytes
is_open bytes h = All-weaker (λ b. b ≢ 10) (λ b. eqb b 10 ≡ false) (λ b other. ne_eqb b 10 other) bytes h

-- ---- the first line of known bytes
through : (xs : List ℕ) → xs ≡ take_through 10 xs ++ drop_through 10 xs
through [] = refl
through (x ∷ xs) = elim (cases_Bool (eqb x 10)) [
  | inl is ↦ rw is refl
  | inr not ↦ rw not (ap (λ (ys : List ℕ). x ∷ ys) (through xs))
]

-- if none of what is taken is an LF nothing is left
nothing_by : (b : Bool) (x : ℕ) (xs : List ℕ) → eqb x 10 ≡ b → All (λ y. y ≢ 10) (cond b (x ∷ []) (x ∷ take_through 10 xs)) → (All (λ y. y ≢ 10) (take_through 10 xs) → drop_through 10 xs ≡ []) → cond b xs (drop_through 10 xs) ≡ []
nothing_by true x xs is h later = absurd (All-head (λ y. y ≢ 10) x [] h (eqb-true x 10 is))
nothing_by false x xs is h later = later (All-tail (λ y. y ≢ 10) x (take_through 10 xs) h)

nothing_left : (xs : List ℕ) → All (λ b. b ≢ 10) (take_through 10 xs) → drop_through 10 xs ≡ []
nothing_left [] h = refl
nothing_left (x ∷ xs) h = nothing_by (eqb x 10) x xs refl h (λ k. nothing_left xs k)

-- ---- its end
ends_by : (read : List ℕ) → 0 < length read → ends_with_byte 10 read ≡ eqb (get_or read (length read - 1) 0) 10
ends_by read some = rw (lt-ltb 0 (length read) some) refl

some_read : (read : List ℕ) → ends_with_byte 10 read ≡ true → 0 < length read
some_read [] h = absurd (cc)
some_read (b ∷ read) h = omega arith

-- a line with its LF
with_end : (read : List ℕ) → ends_with_byte 10 read ≡ true → read ≡ take (length read - 1) read ++ 10 ∷ []
with_end read h =
    let some : 0 < length read = some_read read h in
    let last : get_or read (length read - 1) 0 ≡ 10 = eqb-true (get_or read (length read - 1) 0) 10 (sym (ends_by read some) ∙ h) in
    sym (take_all (length read - 1 + 1) read (omega arith)) ∙ take_more read (length read - 1) 0 (omega arith) ∙ ap (λ (y : ℕ). take (length read - 1) read ++ y ∷ []) last

-- one without
without_end : (read : List ℕ) → StopsAt read 10 → ends_with_byte 10 read ≡ false → All (λ b. b ≢ 10) read
without_end [] stops h = All-nil (λ b. b ≢ 10)
without_end (b ∷ read) stops h =
    let some : 0 < length (b ∷ read) = omega arith in
    let n : ℕ = length (b ∷ read) in
    let last : get_or (b ∷ read) (n - 1) 0 ≢ 10 = λ e. both_ways (eqb (get_or (b ∷ read) (n - 1) 0) 10) (sym (ends_by (b ∷ read) some) ∙ h) (eq-eqb (get_or (b ∷ read) (n - 1) 0) 10 e) in
    All-of_StopsAt (b ∷ read) 10 n (get_or (b ∷ read) (n - 1) 0) refl (λ e. absurd (omega arith)) (get_or_default (b ∷ read) (n - 1) 0 (get_or (b ∷ read) (n - 1) 0) (omega arith)) last stops

module _ (read : List ℕ) (stops : StopsAt read 10) (left : Option (List ℕ)) where
  by_end : (old : Option (List ℕ)) (b : Bool) → ends_with_byte 10 read ≡ b → IfSome old (λ xs. read ≡ take_through 10 xs) → DropsThrough old left 10
      → TakesLine old left (if b then false else true) (if b then take (length read - 1) read else read)
  by_end None true h is drops = is_open (take (length read - 1) read) stops
  by_end None false h is drops = is_open read (without_end read stops h)
  by_end (Some xs) true h is drops =
      let front : List ℕ = take (length read - 1) read in
      let whole : xs ≡ front ++ 10 ∷ drop_through 10 xs =
      through xs ∙ ap (λ (ys : List ℕ). ys ++ drop_through 10 xs) (sym is ∙ with_end read h) ∙ append_assoc front (10 ∷ []) (drop_through 10 xs) in
      subst (λ (o : Option (List ℕ)). TakesLine (Some xs) o false front) (sym drops) (is_open front stops, whole)
  by_end (Some xs) false h is drops =
      let plain : All (λ b. b ≢ 10) read = without_end read stops h in
      let none : drop_through 10 xs ≡ [] = nothing_left xs (subst (λ (ys : List ℕ). All (λ b. b ≢ 10) ys) is plain) in
      let whole : xs ≡ read = through xs ∙ ap (λ (ys : List ℕ). take_through 10 xs ++ ys) none ∙ append-nil (take_through 10 xs) ∙ sym is in
      subst (λ (o : Option (List ℕ)). TakesLine (Some xs) o true read) (sym drops) (is_open read plain, whole, none)

-- what is read from an empty line on
pub takes_line : (old left : Option (List ℕ)) (begun read line : List ℕ) (was ended : Bool) → begun ≡ [] → was ≡ false → StopsAt (appended_bytes begun read) 10 → IfSome old (λ xs. read ≡ begun ++ take_through 10 xs)
    → DropsThrough old left 10 → line ≡ strip_last 10 read → ended ≡ (if ends_with_byte 10 read then was else true) → TakesLine old left ended line
takes_line old left begun read line was ended empty open_ stops is drops line_is ended_is =
    let stops_so : StopsAt read 10 = subst (λ (b : List ℕ). StopsAt (appended_bytes b read) 10) empty stops in
    let is_so : IfSome old (λ xs. read ≡ take_through 10 xs) = subst (λ (b : List ℕ). IfSome old (λ xs. read ≡ b ++ take_through 10 xs)) empty is in
    let last : ended ≡ (if ends_with_byte 10 read then false else true) = ended_is ∙ ap (λ (w : Bool). if ends_with_byte 10 read then w else true) open_ in
    subst (λ (b : Bool). TakesLine old left b line) (sym last)
    (subst (λ (l : List ℕ). TakesLine old left (if ends_with_byte 10 read then false else true) l) (sym line_is) (by_end read stops_so left old (ends_with_byte 10 read) refl is_so drops))

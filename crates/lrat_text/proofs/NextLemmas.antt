-- The line at a place of a text.
use Rattle.std.proofs.Common.{◌≡◌, ℕ, ◌+◌, ◌-◌, ◌<◌, Bool, true, false, ◌==◌, nat_lt, nat_le, cond, List, [], ◌∷◌, ◌++◌, Option, Some, None, Result, Ok, Err, length, take, drop, get_or, refl, sym, ap, ◌∙◌, arith, subst, append_assoc, length-append, length-drop, length-take, IfOk, IfSome}
use Rattle.std.specs.List.{slice_range, position, position_or_len}
use Rattle.std.proofs.lemmas.Bool.{ne_eqb}
use Rattle.std.proofs.lemmas.Bool.Decides.{nat_tests}
use Rattle.std.proofs.lemmas.List.{take_all, take_more, take-append-drop, get_or-take, get_or_append_left}
use Rattle.std.proofs.lemmas.List.Elements.{All-get_or, All-from_get_or}
use Rattle.std.proofs.lemmas.List.Sums.{passes_at_first, fails_before_first, position_or_len_is}
use Rattle.std.proofs.Math.Seq.{get_or-append_seam, take-append_seam}
use Rattle.lrat_text.specs.declared.fault.TextFault.{TextFault}
use Rattle.lrat_text.specs.declared.fault.TextFault.TheVariants.{BadToken, LineNotEnded, MissingZero, NumberTooLarge, NoMemory}
use Rattle.lrat_text.specs.declared.step.Step.{Step}
use Rattle.lrat_text.specs.Lines.{IsCut, IsLineBetween, IsOpen}
use Rattle.lrat_text.specs.Parser.{step_in, next_of, line_at, with_place, Fails, Gives}
use Rattle.lrat_text.proofs.SpellingLemmas.{found_spells, spelled_found}

is_end : (b : ℕ) → (b == 10) ≡ true → b ≡ 10
is_end b h = grind (arith, nat_tests)

not_end : (b : ℕ) → (b == 10) ≡ false → b ≡ 10 → ⊥
not_end b h e = grind (arith, nat_tests)

at_most : (a b : ℕ) → nat_le a b ≡ false → b < a
at_most a b h = grind (arith, nat_tests)

below : (a b : ℕ) → nat_lt a b ≡ true → a < b
below a b h = grind (arith, nat_tests)

-- ---- what is read is a line

position_by : (t : Bool) (m n : ℕ) → cond t (Some m) None ≡ Some n → (t ≡ true) × (m ≡ n)
position_by true m n h = (refl, cc)
position_by false m n h = absurd (cc)

-- the line before the first end
line_is : (bytes : List ℕ) (at n : ℕ) (step : Step) → at < length bytes → position (λ b. b == 10) (drop at bytes) ≡ Some n → step_in (slice_range bytes at (at + n)) ≡ Ok step
    → IsLineBetween bytes at (at + n + 1) step
line_is bytes at n step some first read =
    let p = position_by (nat_lt (position_or_len (λ b. b == 10) (drop at bytes)) (length (drop at bytes))) (position_or_len (λ b. b == 10) (drop at bytes)) n first in
    let lt : n < length (drop at bytes) = omega (arith, below (position_or_len (λ b. b == 10) (drop at bytes)) (length (drop at bytes)) p.0, p.1) in
    let short : at + n - at ≡ n = omega arith in
    let long : at + n + 1 - at ≡ n + 1 = omega arith in
    let end : get_or (drop at bytes) n 0 ≡ 10 =
    is_end (get_or (drop at bytes) n 0) (ap (λ i. get_or (drop at bytes) i 0 == 10) (sym p.1) ∙ passes_at_first (λ b. b == 10) (drop at bytes) 0 (omega (arith, lt, p.1))) in
    record {
      line = take n (drop at bytes);
      rises = omega arith;
      inside = omega (arith, lt, length-drop at bytes);
      splits = ap (λ k. take k (drop at bytes)) long ∙ take_more (drop at bytes) n 0 lt ∙ ap (λ (b : ℕ). take n (drop at bytes) ++ b ∷ []) end;
      one_line = λ c.
          let inside : c.0 < n = omega (arith, c.1, length-take n (drop at bytes)) in
          let e : get_or (drop at bytes) c.0 10 ≡ 10 = sym (get_or-take n (drop at bytes) c.0 10 inside) ∙ c.2 in
          not_end (get_or (drop at bytes) c.0 10) (fails_before_first (λ b. b == 10) (drop at bytes) c.0 10 (omega (arith, inside, p.1))) e;
      spells = found_spells (take n (drop at bytes)) step (ap (λ k. step_in (take k (drop at bytes))) (sym short) ∙ read);
    }

place_by : (bytes : List ℕ) (at n : ℕ) (p : Step × ℕ) (r : Result Step TextFault) → at < length bytes → position (λ b. b == 10) (drop at bytes) ≡ Some n → step_in (slice_range bytes at (at + n)) ≡ r
    → with_place (at + n + 1) r ≡ Ok (Some p) → IsLineBetween bytes at p.1 p.0
place_by bytes at n p (Ok step) some first read h =
    let e : (step, at + n + 1) ≡ p = cc in
    let P : Step × ℕ → Type 0 = λ q. IsLineBetween bytes at q.1 q.0 in
    subst P e (line_is bytes at n step some first read)
place_by bytes at n p (Err f) some first read h = absurd (cc)

line_by : (bytes : List ℕ) (at : ℕ) (p : Step × ℕ) (o : Option ℕ) → at < length bytes → position (λ b. b == 10) (drop at bytes) ≡ o → line_at bytes at o ≡ Ok (Some p) → IsLineBetween bytes at p.1 p.0
line_by bytes at p None some first h = absurd (cc)
line_by bytes at p (Some n) some first h = place_by bytes at n p (step_in (slice_range bytes at (at + n))) some first refl h

next_found : (bytes : List ℕ) (at : ℕ) (p : Step × ℕ) → next_of bytes at ≡ Ok (Some p) → IsLineBetween bytes at p.1 p.0
next_found bytes at p h = by_end (nat_le (length bytes) at) refl h
  where
    by_end : (t : Bool) → nat_le (length bytes) at ≡ t → cond t (Ok None) (line_at bytes at (position (λ b. b == 10) (drop at bytes))) ≡ Ok (Some p) → IsLineBetween bytes at p.1 p.0
    by_end true e q = absurd (cc)
    by_end false e q = line_by bytes at p (position (λ b. b == 10) (drop at bytes)) (at_most (length bytes) at e) refl q

pub found_is_line : (bytes : List ℕ) (at : ℕ) (r : Result (Option (Step × ℕ)) TextFault) → Gives r (next_of bytes at) → IfOk r (λ o. IfSome o (λ p. IsLineBetween bytes at p.1 p.0))
found_is_line bytes at (Ok None) h = tt
found_is_line bytes at (Ok (Some p)) h = next_found bytes at p h
found_is_line bytes at (Err f) h = tt

-- ---- a line is read

some_by : (k n : ℕ) → k < n → cond (nat_lt k n) (Some k) None ≡ Some k
some_by k n lt = grind (arith, nat_tests)

none_by : (n : ℕ) → ◌≡◌ {A = Option ℕ} (cond (nat_lt n n) (Some n) None) None
none_by n = grind (arith, nat_tests)

first_end : (line rest : List ℕ) → IsOpen line → position (λ b. b == 10) (line ++ 10 ∷ rest) ≡ Some (length line)
first_end line rest no_lf =
    let before : (k : ℕ) → k < length line → (get_or (line ++ 10 ∷ rest) k 10 == 10) ≡ false =
    λ k lt. ap (λ (b : ℕ). b == 10) (get_or_append_left line (10 ∷ rest) 10 k lt) ∙ All-get_or (λ b. (b == 10) ≡ false) line k 10 lt no_lf in
    let long : length line < length (line ++ 10 ∷ rest) = omega (arith, length-append line (10 ∷ rest)) in
    let is : position_or_len (λ b. b == 10) (line ++ 10 ∷ rest) ≡ length line =
    position_or_len_is (λ b. b == 10) (line ++ 10 ∷ rest) (length line) 10 (omega arith) before (λ _. ap (λ (b : ℕ). b == 10) (get_or-append_seam line 10 rest 10)) in
    let P : ℕ → Type 0 = λ n. cond (nat_lt n (length (line ++ 10 ∷ rest))) (Some n) None ≡ Some (length line) in
    subst P (sym is) (some_by (length line) (length (line ++ 10 ∷ rest)) long)

no_end : (text : List ℕ) → IsOpen text → position (λ b. b == 10) text ≡ None
no_end text no_lf =
    let is : position_or_len (λ b. b == 10) text ≡ length text =
    position_or_len_is (λ b. b == 10) text (length text) 0 (omega arith) (λ k lt. All-get_or (λ b. (b == 10) ≡ false) text k 0 lt no_lf) (λ h. absurd (omega arith)) in
    let P : ℕ → Type 0 = λ n. cond (nat_lt n (length text)) (Some n) None ≡ None in
    subst P (sym is) (none_by (length text))

more_than : (a b : ℕ) → b < a → nat_le a b ≡ false
more_than a b h = grind (arith, nat_tests)

-- where a line is cut off at the place, it is read; if none is, no LF follows
next_cut : (bytes : List ℕ) (at : ℕ) (line later : List ℕ) → at < length bytes → IsCut (drop at bytes) line later → next_of bytes at ≡ with_place (at + length line + 1) (step_in line)
next_cut bytes at line later some cut =
    let short : at + length line - at ≡ length line = omega arith in
    let part : slice_range bytes at (at + length line) ≡ line =
    ap (λ k. take k (drop at bytes)) short ∙ ap (take (length line)) cut.0 ∙ take-append_seam line (10 ∷ later) in
    ap (λ (t : Bool). cond t (Ok None) (line_at bytes at (position (λ b. b == 10) (drop at bytes)))) (more_than (length bytes) at some)
    ∙ ap (λ (text : List ℕ). line_at bytes at (position (λ b. b == 10) text)) cut.0
    ∙ ap (line_at bytes at) (first_end line later cut.1)
    ∙ ap (λ (l : List ℕ). with_place (at + length line + 1) (step_in l)) part

-- the bytes from a place on
rest_is : (bytes : List ℕ) (at : ℕ) → slice_range bytes at (length bytes) ≡ drop at bytes
rest_is bytes at = take_all (length bytes - at) (drop at bytes) (omega (arith, length-drop at bytes))

pub next_open : (bytes : List ℕ) (at : ℕ) → at < length bytes → IsOpen (slice_range bytes at (length bytes)) → next_of bytes at ≡ Err LineNotEnded
next_open bytes at some no_lf =
    ap (λ (t : Bool). cond t (Ok None) (line_at bytes at (position (λ b. b == 10) (drop at bytes)))) (more_than (length bytes) at some)
    ∙ ap (line_at bytes at) (no_end (drop at bytes) (subst (λ (text : List ℕ). IsOpen text) (rest_is bytes at) no_lf))

fails_there : (place : ℕ) (f : TextFault) (r : Result Step TextFault) → Fails f r → Fails f (with_place place r)
fails_there place BadToken r is = ap (with_place place) is
fails_there place LineNotEnded r is = ap (with_place place) is
fails_there place MissingZero r is = ap (with_place place) is
fails_there place NumberTooLarge r is = ap (with_place place) is
fails_there place NoMemory r is = tt

-- what is read of the line is given with the place after it
pub gives_next : (bytes : List ℕ) (at : ℕ) (line later : List ℕ) (r : Result Step TextFault) → at < length bytes → IsCut (slice_range bytes at (length bytes)) line later → Gives r (step_in line)
    → Gives (with_place (at + length line + 1) r) (next_of bytes at)
gives_next bytes at line later r some cut gives = by_result r gives
  where
    is : next_of bytes at ≡ with_place (at + length line + 1) (step_in line)
    is = next_cut bytes at line later some (subst (λ (text : List ℕ). IsCut text line later) (rest_is bytes at) cut)

    by_result : (r : Result Step TextFault) → Gives r (step_in line) → Gives (with_place (at + length line + 1) r) (next_of bytes at)
    by_result (Ok step) h = is ∙ ap (with_place (at + length line + 1)) h
    by_result (Err f) h = subst (Fails f) (sym is) (fails_there (at + length line + 1) f (step_in line) h)

-- so is the step of a line
next_only : (bytes : List ℕ) (at place : ℕ) (step : Step) → IsLineBetween bytes at place step → next_of bytes at ≡ Ok (Some (step, place))
next_only bytes at place step h =
    let some : at < length bytes = omega (arith, h.rises, h.inside) in
    let behind = drop (place - at) (drop at bytes) in
    let xs : drop at bytes ≡ (h.line ++ 10 ∷ []) ++ behind = sym (take-append-drop (place - at) (drop at bytes)) ∙ ap (λ (ys : List ℕ). ys ++ behind) h.splits in
    let whole : drop at bytes ≡ h.line ++ 10 ∷ behind = xs ∙ append_assoc h.line (10 ∷ []) behind in
    let no_lf : IsOpen h.line = All-from_get_or (λ b. (b == 10) ≡ false) h.line 10 (λ k lt. ne_eqb (get_or h.line k 10) 10 (λ e. h.one_line (k, lt, e))) in
    let size : place - at ≡ length h.line + 1 = omega (arith, h.inside, h.rises, length-drop at bytes, length-take (place - at) (drop at bytes), ap length h.splits, length-append h.line (10 ∷ [])) in
    let end : at + length h.line + 1 ≡ place = omega (arith, size, h.rises) in
    next_cut bytes at h.line behind some (whole, no_lf)
    ∙ ap (with_place (at + length h.line + 1)) (spelled_found h.line step h.spells)
    ∙ ap (λ (n : ℕ). Ok (Some (step, n))) end

pub line_is_found : (bytes : List ℕ) (at : ℕ) (r : Result (Option (Step × ℕ)) TextFault) → Gives r (next_of bytes at) → (step : Step) (place : ℕ) → IsLineBetween bytes at place step → Gives r (Ok (Some (step, place)))
line_is_found bytes at r h step place line =
    let P : Result (Option (Step × ℕ)) TextFault → Type 0 = λ x. Gives r x in
    subst P (next_only bytes at place step line) h

-- What a text spells is read so.
use Rattle.std.proofs.Common.{◌≡◌, ◌≢◌, ℕ, ◌+◌, ◌-◌, ◌*◌, ◌/◌, ◌≤◌, ◌==◌, nat_le, Bool, true, false, cond, List, [], ◌∷◌, ◌++◌, map, Option, Some, None, Ok, Err, refl, sym, ap, subst, ◌∙◌, arith, append_assoc, append-nil}
use Rattle.std.specs.Char.{is_ascii_digit}
use Rattle.std.specs.List.{AllByRecursion}
use Rattle.std.proofs.lemmas.Bool.{le-leb, ne_eqb, cond-true, cond-false}
use Rattle.std.proofs.lemmas.Bool.Decides.{nat_tests}
use Rattle.std.proofs.lemmas.List.Elements.{recursion_from_All}
use Rattle.dimacs.specs.logic.Literal.{Literal, Pos, Neg, IsWithin, index_of}
use Rattle.dimacs.specs.text.Numbers.{digits_from}
use Rattle.dimacs.specs.text.Words.{is_white}
use Rattle.drat_forms.specs.Grammar.{DratStep, Add, Delete, IsGap, nothing, white, comment, FirstWord, IsNumber, IsLiteralWord, TextLiterals, words_of}
use Rattle.drat_forms.specs.Moves.{goes_to, with_literal, literal_read, zero_read, number_read, letter_read}
use Rattle.drat_forms.specs.Reading.{Reading, reads, with_word}
use Rattle.drat_forms.specs.declared.fault.DratFault.TheVariants.{BadByte, VariableTooLarge}
use Rattle.drat_forms.specs.declared.form.Form.{Form}
use Rattle.drat_forms.specs.declared.moves.Moved.{Moved}
use Rattle.drat_forms.specs.declared.place.Begun.{Begun}
use Rattle.drat_forms.specs.declared.place.Begun.TheVariants.{Nothing, Addition, Deletion}
use Rattle.drat_forms.specs.declared.place.Place.{Place}
use Rattle.drat_forms.specs.declared.place.Place.TheVariants.{Gap, Letter, Comment, Minus, Digits, Refuted}
use Rattle.drat_forms.proofs.ReadingLemmas.{reads-nil}
use Rattle.drat_forms.proofs.FoundLemmas.{at_place}
use Rattle.drat_forms.proofs.PassLemmas.{byte_passes, Passed, passed_end, passed_step, refuted_passes}
use Rattle.drat_forms.proofs.SpelledSoFar.{TextSteps, signed, end_word}

-- ---- digits and white space

some_value : Option ℕ → ℕ
some_value None = 0
some_value (Some n) = n

same_some : (m n : ℕ) → ◌≡◌ {A = Option ℕ} (Some m) (Some n) → m ≡ n
unfolding some_value
same_some m n e = ap some_value e

digit_ink : (b : ℕ) → is_ascii_digit b ≡ true → is_white b ≡ false
digit_ink b h = grind (arith, nat_tests)

white_digit : (b : ℕ) → is_white b ≡ true → is_ascii_digit b ≡ false
white_digit b h = grind (arith, nat_tests)

-- a digit that is read, and the digits behind it
digits_parts : (v d : ℕ) (digits : List ℕ) (n : ℕ) → digits_from v (d ∷ digits) ≡ Some n → (is_ascii_digit d ≡ true) × (digits_from (10 * v + (d - 48)) digits ≡ Some n)
digits_parts v d digits n e = at (is_ascii_digit d) e
  where
    at : (c : Bool) → cond c (digits_from (10 * v + (d - 48)) digits) None ≡ Some n → (c ≡ true) × (digits_from (10 * v + (d - 48)) digits ≡ Some n)
    at true k = (refl, k)
    at false k = absurd cc

digits_rise : (digits : List ℕ) (v n : ℕ) → digits_from v digits ≡ Some n → v ≤ n
digits_rise [] v n e = omega (arith, same_some v n e)
digits_rise (d ∷ digits) v n e = let h : 10 * v + (d - 48) ≤ n = digits_rise digits (10 * v + (d - 48)) n (digits_parts v d digits n e).1 in omega (arith, h)

module _ (most : ℕ) (form : Form) where
  abbrev at : Begun → Place → List ℕ → Reading
  at begun place words = at_place most form begun place words

  -- ---- gaps

  line_passes : (begun : Begun) (words line more : List ℕ) → AllByRecursion (λ b. b ≢ 10) line → reads (at begun Comment words) (line ++ 10 ∷ more) ≡ reads (at begun Gap words) more
  line_passes begun words [] more h = byte_passes most form begun Comment words 10 more (record { begun = begun; place = Gap; word = None }) refl
  line_passes begun words (b ∷ line) more h =
      byte_passes most form begun Comment words b (line ++ 10 ∷ more) (record { begun = begun; place = Comment; word = None }) (cond-false (b == 10) (goes_to begun Gap) (goes_to begun Comment) (ne_eqb b 10 h.0))
      ∙ line_passes begun words line more h.1

  gap_passes : (begun : Begun) (words gap more : List ℕ) → IsGap gap → reads (at begun Gap words) (gap ++ more) ≡ reads (at begun Gap words) more
  gap_passes begun words gap more nothing = refl
  gap_passes begun words gap more (white b left is g) =
      byte_passes most form begun Gap words b (left ++ more) (record { begun = begun; place = Gap; word = None })
      (cond-true (is_white b) (goes_to begun Gap) (cond (is_ascii_digit b) (goes_to begun (Digits false (b - 48))) (cond (b == 45) (goes_to begun Minus) (cond (b == 99) (goes_to begun Comment) (cond (b == 100) (letter_read begun) (Err BadByte))))) is)
      ∙ gap_passes begun words left more g
  gap_passes begun words gap more (comment line left is g) =
      ap (λ (xs : List ℕ). reads (at begun Gap words) (99 ∷ xs)) (append_assoc line (10 ∷ left) more)
      ∙ byte_passes most form begun Gap words 99 (line ++ 10 ∷ (left ++ more)) (record { begun = begun; place = Comment; word = None }) refl
      ∙ line_passes begun words line (left ++ more) (recursion_from_All (λ b. b ≢ 10) line is) ∙ gap_passes begun words left more g

  -- ---- numbers

  digits_pass : (begun : Begun) (negative : Bool) (words digits : List ℕ) (v n b : ℕ) (more : List ℕ) (m : Moved) → digits_from v digits ≡ Some n → n ≤ most → is_white b ≡ true → number_read most begun negative n ≡ Ok m
      → reads (at begun (Digits negative v) words) (digits ++ b ∷ more) ≡ reads (at m.begun m.place (with_word words m.word)) more
  digits_pass begun negative words [] v n b more m e few is read =
      let same : v ≡ n = same_some v n e in
      byte_passes most form begun (Digits negative v) words b more m (
      cond-true (nat_le v most) (cond (is_ascii_digit b) (goes_to begun (Digits negative (10 * v + (b - 48)))) (cond (is_white b) (number_read most begun negative v) (Err BadByte))) (Err VariableTooLarge) (le-leb v most (omega (arith, same, few)))
      ∙ cond-false (is_ascii_digit b) (goes_to begun (Digits negative (10 * v + (b - 48)))) (cond (is_white b) (number_read most begun negative v) (Err BadByte)) (white_digit b is)
      ∙ cond-true (is_white b) (number_read most begun negative v) (Err BadByte) is ∙ ap (number_read most begun negative) same ∙ read)
  digits_pass begun negative words (d ∷ digits) v n b more m e few is read =
      let parts = digits_parts v d digits n e in
      let rise : v ≤ n = digits_rise (d ∷ digits) v n e in
      byte_passes most form begun (Digits negative v) words d (digits ++ b ∷ more) (record { begun = begun; place = Digits negative (10 * v + (d - 48)); word = None }) (
      cond-true (nat_le v most) (cond (is_ascii_digit d) (goes_to begun (Digits negative (10 * v + (d - 48)))) (cond (is_white d) (number_read most begun negative v) (Err BadByte))) (Err VariableTooLarge) (le-leb v most (omega (arith, rise, few)))
      ∙ cond-true (is_ascii_digit d) (goes_to begun (Digits negative (10 * v + (d - 48)))) (cond (is_white d) (number_read most begun negative v) (Err BadByte)) parts.0)
      ∙ digits_pass begun negative words digits (10 * v + (d - 48)) n b more m parts.1 few is read

  -- the first digit of a number
  first_digit : (digits : List ℕ) (d n : ℕ) → IsNumber (d ∷ digits) n → (is_ascii_digit d ≡ true) × (digits_from (d - 48) digits ≡ Some n)
  first_digit digits d n e = let parts = digits_parts 0 d digits n e in (parts.0, subst (λ (v : ℕ). digits_from v digits ≡ Some n) (let h : 10 * 0 + (d - 48) ≡ d - 48 = omega arith in h) parts.1)

  number_passes : (begun : Begun) (negative : Bool) (words word : List ℕ) (n b : ℕ) (more : List ℕ) (m : Moved) → IsLiteralWord word (signed negative n) → n ≤ most → is_white b ≡ true → number_read most begun negative n ≡ Ok m
      → reads (at begun Gap words) (word ++ b ∷ more) ≡ reads (at m.begun m.place (with_word words m.word)) more
  number_passes begun false words [] n b more m spelled few is read = absurd spelled
  number_passes begun false words (d ∷ digits) n b more m spelled few is read =
      let parts = first_digit digits d n spelled in
      byte_passes most form begun Gap words d (digits ++ b ∷ more) (record { begun = begun; place = Digits false (d - 48); word = None }) (
      cond-false (is_white d) (goes_to begun Gap) (cond (is_ascii_digit d) (goes_to begun (Digits false (d - 48))) (cond (d == 45) (goes_to begun Minus) (cond (d == 99) (goes_to begun Comment) (cond (d == 100) (letter_read begun) (Err BadByte))))) (digit_ink d parts.0)
      ∙ cond-true (is_ascii_digit d) (goes_to begun (Digits false (d - 48))) (cond (d == 45) (goes_to begun Minus) (cond (d == 99) (goes_to begun Comment) (cond (d == 100) (letter_read begun) (Err BadByte)))) parts.0)
      ∙ digits_pass begun false words digits (d - 48) n b more m parts.1 few is read
  number_passes begun true words word n b more m (digits, e, spelled) few is read = ap (λ (xs : List ℕ). reads (at begun Gap words) (xs ++ b ∷ more)) e ∙ behind_minus digits spelled
    where
      behind_minus : (ds : List ℕ) → IsNumber ds n → reads (at begun Gap words) (45 ∷ ds ++ b ∷ more) ≡ reads (at m.begun m.place (with_word words m.word)) more
      behind_minus [] s = absurd s
      behind_minus (d ∷ ds) s =
          let parts = first_digit ds d n s in
          byte_passes most form begun Gap words 45 (d ∷ ds ++ b ∷ more) (record { begun = begun; place = Minus; word = None }) refl
          ∙ byte_passes most form begun Minus words d (ds ++ b ∷ more) (record { begun = begun; place = Digits true (d - 48); word = None }) (cond-true (is_ascii_digit d) (goes_to begun (Digits true (d - 48))) (Err BadByte) parts.0)
          ∙ digits_pass begun true words ds (d - 48) n b more m parts.1 few is read

  word_passes : (begun : Begun) (negative : Bool) (words bytes word : List ℕ) (n : ℕ) (more : List ℕ) (m : Moved) → FirstWord bytes word more → IsLiteralWord word (signed negative n) → n ≤ most → number_read most begun negative n ≡ Ok m
      → reads (at begun Gap words) bytes ≡ reads (at m.begun m.place (with_word words m.word)) more
  word_passes begun negative words bytes word n more m first spelled few read =
      ap (reads (at begun Gap words)) first.split ∙ gap_passes begun words first.gap (word ++ first.behind ∷ more) first.between
      ∙ number_passes begun negative words word n first.behind more m spelled few first.ended read

  -- ---- literals

  literal_is_read : (begun : Begun) (l : Literal) → IsWithin most l → literal_read most begun (index_of l) Gap ≡ Ok (record { begun = with_literal begun; place = Gap; word = Some (index_of l) })
  literal_is_read begun (Pos v) h = cond-true (nat_le ((2 * v) / 2) most) (Ok (record { begun = with_literal begun; place = Gap; word = Some (2 * v) })) (Err VariableTooLarge) (le-leb ((2 * v) / 2) most (omega (arith, h.1)))
  literal_is_read begun (Neg v) h = cond-true (nat_le ((2 * v + 1) / 2) most) (Ok (record { begun = with_literal begun; place = Gap; word = Some (2 * v + 1) })) (Err VariableTooLarge) (le-leb ((2 * v + 1) / 2) most (omega (arith, h.1)))

  literal_passes : (begun : Begun) (l : Literal) (words bytes word more : List ℕ) → FirstWord bytes word more → IsLiteralWord word l → IsWithin most l → reads (at begun Gap words) bytes ≡ reads (at (with_literal begun) Gap (words ++ index_of l ∷ [])) more
  literal_passes begun (Pos v) words bytes word more first spelled within =
      word_passes begun false words bytes word v more (record { begun = with_literal begun; place = Gap; word = Some (2 * v) }) first spelled within.1
      (cond-false (v == 0) (zero_read begun Gap) (literal_read most begun (2 * v) Gap) (ne_eqb v 0 (λ e. omega (arith, within.0, e))) ∙ literal_is_read begun (Pos v) within)
  literal_passes begun (Neg v) words bytes word more first spelled within =
      word_passes begun true words bytes word v more (record { begun = with_literal begun; place = Gap; word = Some (2 * v + 1) }) first spelled within.1
      (cond-false (v == 0) (Err BadByte) (literal_read most begun (2 * v + 1) Gap) (ne_eqb v 0 (λ e. omega (arith, within.0, e))) ∙ literal_is_read begun (Neg v) within)

  zero_passes : (begun : Begun) (words bytes word more : List ℕ) (m : Moved) → FirstWord bytes word more → IsNumber word 0 → zero_read begun Gap ≡ Ok m → reads (at begun Gap words) bytes ≡ reads (at m.begun m.place (with_word words m.word)) more
  zero_passes begun words bytes word more m first spelled e = word_passes begun false words bytes word 0 more m first spelled (omega arith) e

  -- a step that has a literal, or is a deletion
  is_begun : (begun : Begun) → with_literal begun ≡ begun → zero_read begun Gap ≡ Ok (record { begun = Nothing; place = Gap; word = Some (end_word begun) })
  is_begun Nothing e = absurd cc
  is_begun Addition e = refl
  is_begun Deletion e = refl

  literals_pass : (begun : Begun) → with_literal begun ≡ begun → (literals : List Literal) (words bytes rest : List ℕ) → TextLiterals most bytes literals rest
      → reads (at begun Gap words) bytes ≡ reads (at Nothing Gap (words ++ (map index_of literals ++ end_word begun ∷ []))) rest
  literals_pass begun is [] words bytes rest (word, first, spelled) = zero_passes begun words bytes word rest (record { begun = Nothing; place = Gap; word = Some (end_word begun) }) first spelled (is_begun begun is)
  literals_pass begun is (l ∷ literals) words bytes rest (word, more, first, spelled, within, later) =
      literal_passes begun l words bytes word more first spelled within
      ∙ ap (λ (x : Begun). reads (at x Gap (words ++ index_of l ∷ [])) more) is
      ∙ literals_pass begun is literals (words ++ index_of l ∷ []) more rest later
      ∙ ap (λ (xs : List ℕ). reads (at Nothing Gap xs) rest) (append_assoc words (index_of l ∷ []) (map index_of literals ++ end_word begun ∷ []))

  -- ---- steps

  addition_passes : (l : Literal) (literals : List Literal) (words bytes rest : List ℕ) → TextLiterals most bytes (l ∷ literals) rest
      → reads (at Nothing Gap words) bytes ≡ reads (at Nothing Gap (words ++ (map index_of (l ∷ literals) ++ 0 ∷ []))) rest
  addition_passes l literals words bytes rest (word, more, first, spelled, within, later) =
      literal_passes Nothing l words bytes word more first spelled within
      ∙ literals_pass Addition refl literals (words ++ index_of l ∷ []) more rest later
      ∙ ap (λ (xs : List ℕ). reads (at Nothing Gap xs) rest) (append_assoc words (index_of l ∷ []) (map index_of literals ++ 0 ∷ []))

  letter_passes : (words bytes more : List ℕ) → FirstWord bytes (100 ∷ []) more → reads (at Nothing Gap words) bytes ≡ reads (at Deletion Gap words) more
  letter_passes words bytes more first =
      ap (reads (at Nothing Gap words)) first.split ∙ gap_passes Nothing words first.gap (100 ∷ first.behind ∷ more) first.between
      ∙ byte_passes most form Nothing Gap words 100 (first.behind ∷ more) (record { begun = Deletion; place = Letter; word = None }) refl
      ∙ byte_passes most form Deletion Letter words first.behind more (record { begun = Deletion; place = Gap; word = None }) (cond-true (is_white first.behind) (goes_to Deletion Gap) (Err BadByte) first.ended)

  pub text_passes : (steps : List DratStep) (words bytes : List ℕ) → TextSteps most bytes steps → Passed (at Nothing Gap words) bytes (words ++ words_of steps)
  text_passes [] words bytes h =
      passed_end (at Nothing Gap words) bytes (at Nothing Gap words) (words ++ []) (ap (reads (at Nothing Gap words)) (sym (append-nil bytes)) ∙ gap_passes Nothing words bytes [] h ∙ reads-nil (at Nothing Gap words)) refl (sym (append-nil words))
  text_passes (Add [] ∷ steps) words bytes (rest, (word, first, spelled), none) =
      passed_end (at Nothing Gap words) bytes (at Nothing Refuted (words ++ 0 ∷ [])) (words ++ words_of (Add [] ∷ steps))
      (zero_passes Nothing words bytes word rest (record { begun = Nothing; place = Refuted; word = Some 0 }) first spelled refl ∙ refuted_passes most form Nothing (words ++ 0 ∷ []) rest) refl
      (ap (λ (ss : List DratStep). words ++ 0 ∷ words_of ss) (sym none))
  text_passes (Add (l ∷ literals) ∷ steps) words bytes (rest, spelled, later) =
      passed_step most form Gap 0 words (map index_of (l ∷ literals)) (words_of steps) bytes rest (addition_passes l literals words bytes rest spelled) (text_passes steps (words ++ (map index_of (l ∷ literals) ++ 0 ∷ [])) rest later)
  text_passes (Delete literals ∷ steps) words bytes (rest, (more, first, spelled), later) =
      passed_step most form Gap 1 words (map index_of literals) (words_of steps) bytes rest (letter_passes words bytes more first ∙ literals_pass Deletion refl literals words more rest spelled)
      (text_passes steps (words ++ (map index_of literals ++ 1 ∷ [])) rest later)

-- What is read of a text is spelled by it, byte by byte.
use Rattle.std.proofs.Common.{◌≡◌, ◌≢◌, ℕ, ◌+◌, ◌-◌, ◌*◌, ◌/◌, ◌≤◌, ◌==◌, nat_le, Bool, true, false, cond, List, [], ◌∷◌, ◌++◌, Some, None, Ok, Err, inl, inr, refl, sym, ap, subst, ◌∙◌, arith, append_assoc, true≢false}
use Rattle.std.specs.Char.{is_ascii_digit}
use Rattle.std.proofs.lemmas.Bool.{leb-true, eqb-true, eqb-false, cond-true}
use Rattle.std.proofs.lemmas.List.Elements.{All-nil, All-cons}
use Rattle.dimacs.specs.logic.Literal.{Literal, Pos, Neg}
use Rattle.dimacs.specs.text.Numbers.{digits_from}
use Rattle.dimacs.specs.text.Words.{is_white}
use Rattle.drat_forms.specs.Grammar.{DratStep, Add, Delete, IsGap, nothing, white, comment, FirstWord, IsNumber, IsLiteralWord, TextLiterals}
use Rattle.drat_forms.specs.Moves.{goes_to, with_literal, literal_read, zero_read, code_of, number_read, letter_read, after_gap, after_letter, in_comment, after_minus, after_digit}
use Rattle.drat_forms.specs.declared.fault.DratFault.TheVariants.{BadByte, VariableTooLarge}
use Rattle.drat_forms.specs.declared.place.Begun.{Begun}
use Rattle.drat_forms.specs.declared.place.Begun.TheVariants.{Nothing, Addition, Deletion}
use Rattle.drat_forms.specs.declared.place.Place.TheVariants.{Gap, Comment, Minus, Digits}
use Rattle.drat_forms.proofs.StepLemmas.{ends_here, literal_here, by_test}
use Rattle.drat_forms.proofs.SpelledSoFar.{TextSteps, GoesOn, StepEnds, LiteralCame, StepsCome, TextGoesOn, AtGap, signed, NumberCame, AtLetter, InComment, InNumber, FromMove}

-- ---- gaps

gap-append : (xs ys : List ℕ) → IsGap xs → IsGap ys → IsGap (xs ++ ys)
gap-append xs ys nothing h = h
gap-append xs ys (white b gap is g) h = white b (gap ++ ys) is (gap-append gap ys g h)
gap-append xs ys (comment line gap is g) h = subst IsGap (ap (λ (zs : List ℕ). 99 ∷ zs) (sym (append_assoc line (10 ∷ gap) ys))) (comment line (gap ++ ys) is (gap-append gap ys g h))

module _ (most : ℕ) (front : List ℕ) (is : IsGap front) where
  word_behind : (bytes word rest : List ℕ) → FirstWord bytes word rest → FirstWord (front ++ bytes) word rest
  word_behind bytes word rest h = record {
    gap = front ++ h.gap;
    behind = h.behind;
    between = gap-append front h.gap is h.between;
    ended = h.ended;
    split = ap (λ (xs : List ℕ). front ++ xs) h.split ∙ sym (append_assoc front h.gap (word ++ h.behind ∷ rest));
  }

  literals_behind : (literals : List Literal) (bytes rest : List ℕ) → TextLiterals most bytes literals rest → TextLiterals most (front ++ bytes) literals rest
  literals_behind [] bytes rest h = (h.0, word_behind bytes h.0 rest h.1, h.2)
  literals_behind (l ∷ literals) bytes rest h = (h.0, h.1, word_behind bytes h.0 h.1 h.2, h.3, h.4, h.5)

  steps_behind : (steps : List DratStep) (bytes : List ℕ) → TextSteps most bytes steps → TextSteps most (front ++ bytes) steps
  steps_behind [] bytes h = gap-append front bytes is h
  steps_behind (Add [] ∷ steps) bytes h = (h.0, literals_behind [] bytes h.0 h.1, h.2)
  steps_behind (Add (l ∷ literals) ∷ steps) bytes h = (h.0, literals_behind (l ∷ literals) bytes h.0 h.1, h.2)
  steps_behind (Delete literals ∷ steps) bytes h = (h.0, (h.1.0, word_behind bytes (100 ∷ []) h.1.0 h.1.1, h.1.2), h.2)

  goes_behind : (begun : Begun) (bytes words : List ℕ) → TextGoesOn most begun bytes words → TextGoesOn most begun (front ++ bytes) words
  goes_behind begun bytes words h = record { literals = h.literals; rest = h.rest; steps = h.steps; spelled = literals_behind h.literals bytes h.rest h.spelled; later = h.later; is = h.is }

  gap_behind : (begun : Begun) (bytes words : List ℕ) → AtGap most begun bytes words → AtGap most begun (front ++ bytes) words
  gap_behind Nothing bytes words h = record { steps = h.steps; spelled = steps_behind h.steps bytes h.spelled; is = h.is }
  gap_behind Addition bytes words h = goes_behind Addition bytes words h
  gap_behind Deletion bytes words h = goes_behind Deletion bytes words h

-- ---- words

module _ (most : ℕ) where
  addition_spelled : (literals : List Literal) (steps : List DratStep) (bytes rest : List ℕ) → TextLiterals most bytes literals rest → GoesOn (TextSteps most) Nothing literals rest steps → TextSteps most bytes (Add literals ∷ steps)
  addition_spelled [] steps bytes rest h later = (rest, h, later)
  addition_spelled (l ∷ literals) steps bytes rest h later = (rest, h, later)

  to_gap : (begun : Begun) (bytes words : List ℕ) → TextGoesOn most begun bytes words → AtGap most begun bytes words
  to_gap Nothing bytes words h = record { steps = Add h.literals ∷ h.steps; spelled = addition_spelled h.literals h.steps bytes h.rest h.spelled h.later; is = h.is }
  to_gap Addition bytes words h = h
  to_gap Deletion bytes words h = h

  number_first : (begun : Begun) (negative : Bool) (n : ℕ) (bytes word more words : List ℕ) → FirstWord bytes word more → IsLiteralWord word (signed negative n) → NumberCame most begun negative n more words → AtGap most begun bytes words
  number_first begun negative n bytes word more words first is (inl (sign, e, h)) = to_gap begun bytes words (ends_here (TextLiterals most) (TextSteps most) begun bytes more words (word, first, zero_word negative n sign e is) h)
    where
      zero_word : (s : Bool) (m : ℕ) → s ≡ false → m ≡ 0 → IsLiteralWord word (signed s m) → IsNumber word 0
      zero_word true m wrong e2 w = absurd (true≢false wrong)
      zero_word false m right e2 w = subst (IsNumber word) e2 w
  number_first begun negative n bytes word more words first is (inr h) =
      to_gap begun bytes words (literal_here (TextLiterals most) (TextSteps most) begun most (signed negative n) bytes more words (λ literals rest spelled. (word, more, first, is, h.within, spelled)) h)

  -- ---- a number ends

  zero_came : (begun : Begun) (bytes words : List ℕ) → FromMove most (zero_read begun Gap) bytes words → StepEnds (TextSteps most) begun bytes words
  zero_came Nothing bytes words h = record { steps = []; later = refl; is = h.1 ∙ ap (λ (xs : List ℕ). 0 ∷ xs) h.2 }
  zero_came Addition bytes words h = record { steps = h.2.steps; later = h.2.spelled; is = h.1 ∙ ap (λ (xs : List ℕ). 0 ∷ xs) h.2.is }
  zero_came Deletion bytes words h = record { steps = h.2.steps; later = h.2.spelled; is = h.1 ∙ ap (λ (xs : List ℕ). 1 ∷ xs) h.2.is }

  gap_goes_on : (begun : Begun) (bytes words : List ℕ) → AtGap most (with_literal begun) bytes words → TextGoesOn most (with_literal begun) bytes words
  gap_goes_on Nothing bytes words h = h
  gap_goes_on Addition bytes words h = h
  gap_goes_on Deletion bytes words h = h

  literal_came : (begun : Begun) (negative : Bool) (n : ℕ) (bytes words : List ℕ) → (n ≡ 0 → ⊥) → FromMove most (literal_read most begun (code_of negative n) Gap) bytes words
      → LiteralCame (TextLiterals most) (TextSteps most) most (with_literal begun) (signed negative n) bytes words
  literal_came begun true n bytes words some h =
      by_test most P bytes words (nat_le ((2 * n + 1) / 2) most) (Ok (record { begun = with_literal begun; place = Gap; word = Some (2 * n + 1) })) (Err VariableTooLarge) h
      (λ few g. let fits : (2 * n + 1) / 2 ≤ most = leb-true ((2 * n + 1) / 2) most few in record { later = g.0; within = (omega (arith, some), omega (arith, fits)); goes_on = gap_goes_on begun bytes g.0 g.2; is = g.1 }) (λ many g. absurd g)
    where
      P : Type 0
      P = LiteralCame (TextLiterals most) (TextSteps most) most (with_literal begun) (Neg n) bytes words
  literal_came begun false n bytes words some h =
      by_test most P bytes words (nat_le ((2 * n) / 2) most) (Ok (record { begun = with_literal begun; place = Gap; word = Some (2 * n) })) (Err VariableTooLarge) h
      (λ few g. let fits : (2 * n) / 2 ≤ most = leb-true ((2 * n) / 2) most few in record { later = g.0; within = (omega (arith, some), omega (arith, fits)); goes_on = gap_goes_on begun bytes g.0 g.2; is = g.1 }) (λ many g. absurd g)
    where
      P : Type 0
      P = LiteralCame (TextLiterals most) (TextSteps most) most (with_literal begun) (Pos n) bytes words

  number_came : (begun : Begun) (negative : Bool) (n : ℕ) (bytes words : List ℕ) → FromMove most (number_read most begun negative n) bytes words → NumberCame most begun negative n bytes words
  number_came begun negative n bytes words h =
      by_test most (NumberCame most begun negative n bytes words) bytes words (n == 0) (cond negative (Err BadByte) (zero_read begun Gap)) (literal_read most begun (code_of negative n) Gap) h
      (λ e g. by_test most (NumberCame most begun negative n bytes words) bytes words negative (Err BadByte) (zero_read begun Gap) g (λ minus k. absurd k) (λ sign k. inl (sign, eqb-true n 0 e, zero_came begun bytes words k)))
      (λ e g. inr (literal_came begun negative n bytes words (eqb-false n 0 e) g))

  -- ---- a byte of a text

  -- a word that begins here
  word_here : (bytes word : List ℕ) (b : ℕ) (more : List ℕ) → is_white b ≡ true → bytes ≡ word ++ b ∷ more → FirstWord bytes word more
  word_here bytes word b more is e = record { gap = []; behind = b; between = nothing; ended = is; split = e }

  -- a digit before others
  digit_before : (v b : ℕ) (digits : List ℕ) (n : ℕ) → is_ascii_digit b ≡ true → digits_from (10 * v + (b - 48)) digits ≡ Some n → digits_from v (b ∷ digits) ≡ Some n
  digit_before v b digits n is e = cond-true (is_ascii_digit b) (digits_from (10 * v + (b - 48)) digits) None is ∙ e

  first_digit : (b : ℕ) (digits : List ℕ) (n : ℕ) → is_ascii_digit b ≡ true → digits_from (b - 48) digits ≡ Some n → IsNumber (b ∷ digits) n
  first_digit b digits n is e = digit_before 0 b digits n is (subst (λ (v : ℕ). digits_from v digits ≡ Some n) (let h : b - 48 ≡ 10 * 0 + (b - 48) = omega arith in h) e)

  abbrev InDigits : Begun → Bool → ℕ → List ℕ → List ℕ → Type 0
  InDigits begun negative v bytes words = InNumber (λ digits n. digits_from v digits ≡ Some n) most begun negative bytes words

  at_digit : (begun : Begun) (b : ℕ) (bytes words : List ℕ) → is_ascii_digit b ≡ true → FromMove most (goes_to begun (Digits false (b - 48))) bytes words → AtGap most begun (b ∷ bytes) words
  at_digit begun b bytes words is h =
      let i = h.2 in
      number_first begun false i.number (b ∷ bytes) (b ∷ i.digits) i.more words (word_here (b ∷ bytes) (b ∷ i.digits) i.behind i.more i.ended (ap (λ (xs : List ℕ). b ∷ xs) i.split))
      (first_digit b i.digits i.number is i.is) (subst (NumberCame most begun false i.number i.more) (sym h.1) i.next)

  at_minus : (begun : Begun) (b : ℕ) (bytes words : List ℕ) → b ≡ 45 → FromMove most (goes_to begun Minus) bytes words → AtGap most begun (b ∷ bytes) words
  at_minus begun b bytes words e h =
      let i = h.2 in
      number_first begun true i.number (b ∷ bytes) (b ∷ i.digits) i.more words (word_here (b ∷ bytes) (b ∷ i.digits) i.behind i.more i.ended (ap (λ (xs : List ℕ). b ∷ xs) i.split))
      (i.digits, ap (λ (x : ℕ). x ∷ i.digits) e, i.is) (subst (NumberCame most begun true i.number i.more) (sym h.1) i.next)

  at_white : (begun : Begun) (b : ℕ) (bytes words : List ℕ) → is_white b ≡ true → FromMove most (goes_to begun Gap) bytes words → AtGap most begun (b ∷ bytes) words
  at_white begun b bytes words is h = gap_behind most (b ∷ []) (white b [] is nothing) begun bytes words (subst (AtGap most begun bytes) (sym h.1) h.2)

  at_comment : (begun : Begun) (b : ℕ) (bytes words : List ℕ) → b ≡ 99 → FromMove most (goes_to begun Comment) bytes words → AtGap most begun (b ∷ bytes) words
  at_comment begun b bytes words e h =
      let i = h.2 in
      subst (λ (xs : List ℕ). AtGap most begun xs words) (split i.line i.more i.split)
      (gap_behind most (99 ∷ i.line ++ 10 ∷ []) (comment i.line [] i.one_line nothing) begun i.more words (subst (AtGap most begun i.more) (sym h.1) i.next))
    where
      split : (line more : List ℕ) → bytes ≡ line ++ 10 ∷ more → (99 ∷ line ++ 10 ∷ []) ++ more ≡ b ∷ bytes
      split line more s = ap (λ (xs : List ℕ). 99 ∷ xs) (append_assoc line (10 ∷ []) more ∙ sym s) ∙ ap (λ (x : ℕ). x ∷ bytes) (sym e)

  deletion_here : (b : ℕ) (bytes : List ℕ) (later : List ℕ) → b ≡ 100 → AtLetter most Deletion bytes later → StepsCome (TextSteps most) (b ∷ bytes) later
  deletion_here b bytes later e i = record {
    steps = Delete i.next.literals ∷ i.next.steps;
    spelled = (i.next.rest, (i.more, word_here (b ∷ bytes) (100 ∷ []) i.behind i.more i.ended (ap (λ (x : ℕ). x ∷ bytes) e ∙ ap (λ (xs : List ℕ). 100 ∷ xs) i.split), i.next.spelled), i.next.later);
    is = i.next.is;
  }

  at_letter : (begun : Begun) (b : ℕ) (bytes words : List ℕ) → b ≡ 100 → FromMove most (letter_read begun) bytes words → AtGap most begun (b ∷ bytes) words
  at_letter Nothing b bytes words e h = subst (StepsCome (TextSteps most) (b ∷ bytes)) (sym h.1) (deletion_here b bytes h.0 e h.2)
  at_letter Addition b bytes words e h = absurd h
  at_letter Deletion b bytes words e h = absurd h

  pub found_gap : (begun : Begun) (b : ℕ) (bytes words : List ℕ) → FromMove most (after_gap begun b) bytes words → AtGap most begun (b ∷ bytes) words
  found_gap begun b bytes words h =
      by_test most P bytes words (is_white b) (goes_to begun Gap) (cond (is_ascii_digit b) (goes_to begun (Digits false (b - 48))) (cond (b == 45) (goes_to begun Minus) (cond (b == 99) (goes_to begun Comment) (cond (b == 100) (letter_read begun) (Err BadByte))))) h
      (λ e g. at_white begun b bytes words e g) λ none g.
      by_test most P bytes words (is_ascii_digit b) (goes_to begun (Digits false (b - 48))) (cond (b == 45) (goes_to begun Minus) (cond (b == 99) (goes_to begun Comment) (cond (b == 100) (letter_read begun) (Err BadByte)))) g
      (λ e k. at_digit begun b bytes words e k) λ none2 k.
      by_test most P bytes words (b == 45) (goes_to begun Minus) (cond (b == 99) (goes_to begun Comment) (cond (b == 100) (letter_read begun) (Err BadByte))) k
      (λ e l. at_minus begun b bytes words (eqb-true b 45 e) l) λ none3 l.
      by_test most P bytes words (b == 99) (goes_to begun Comment) (cond (b == 100) (letter_read begun) (Err BadByte)) l
      (λ e m. at_comment begun b bytes words (eqb-true b 99 e) m) λ none4 m.
      by_test most P bytes words (b == 100) (letter_read begun) (Err BadByte) m
      (λ e n. at_letter begun b bytes words (eqb-true b 100 e) n) λ none5 n. absurd n
    where
      P : Type 0
      P = AtGap most begun (b ∷ bytes) words

  pub found_letter : (begun : Begun) (b : ℕ) (bytes words : List ℕ) → FromMove most (after_letter begun b) bytes words → AtLetter most begun (b ∷ bytes) words
  found_letter begun b bytes words h =
      by_test most (AtLetter most begun (b ∷ bytes) words) bytes words (is_white b) (goes_to begun Gap) (Err BadByte) h
      (λ e g. record { behind = b; more = bytes; ended = e; split = refl; next = subst (AtGap most begun bytes) (sym g.1) g.2 }) (λ none g. absurd g)

  pub found_comment : (begun : Begun) (b : ℕ) (bytes words : List ℕ) → FromMove most (in_comment begun b) bytes words → InComment most begun (b ∷ bytes) words
  found_comment begun b bytes words h =
      by_test most (InComment most begun (b ∷ bytes) words) bytes words (b == 10) (goes_to begun Gap) (goes_to begun Comment) h
      (λ e g. record { line = []; more = bytes; one_line = All-nil (λ x. x ≢ 10); split = ap (λ (x : ℕ). x ∷ bytes) (eqb-true b 10 e); next = subst (AtGap most begun bytes) (sym g.1) g.2 })
      (λ e g. record {
        line = b ∷ g.2.line;
        more = g.2.more;
        one_line = All-cons (λ x. x ≢ 10) b g.2.line (eqb-false b 10 e) g.2.one_line;
        split = ap (λ (xs : List ℕ). b ∷ xs) g.2.split;
        next = subst (AtGap most begun g.2.more) (sym g.1) g.2.next;
      })

  pub found_minus : (begun : Begun) (b : ℕ) (bytes words : List ℕ) → FromMove most (after_minus begun b) bytes words → InNumber IsNumber most begun true (b ∷ bytes) words
  found_minus begun b bytes words h =
      by_test most (InNumber IsNumber most begun true (b ∷ bytes) words) bytes words (is_ascii_digit b) (goes_to begun (Digits true (b - 48))) (Err BadByte) h
      (λ e g. record {
        digits = b ∷ g.2.digits;
        behind = g.2.behind;
        more = g.2.more;
        number = g.2.number;
        is = first_digit b g.2.digits g.2.number e g.2.is;
        ended = g.2.ended;
        split = ap (λ (xs : List ℕ). b ∷ xs) g.2.split;
        next = subst (NumberCame most begun true g.2.number g.2.more) (sym g.1) g.2.next;
      })
      (λ none g. absurd g)

  pub found_digits : (begun : Begun) (negative : Bool) (v b : ℕ) (bytes words : List ℕ) → FromMove most (after_digit most begun negative v b) bytes words → InDigits begun negative v (b ∷ bytes) words
  found_digits begun negative v b bytes words h =
      by_test most P bytes words (nat_le v most) (cond (is_ascii_digit b) (goes_to begun (Digits negative (10 * v + (b - 48)))) (cond (is_white b) (number_read most begun negative v) (Err BadByte))) (Err VariableTooLarge) h
      (λ few g. by_test most P bytes words (is_ascii_digit b) (goes_to begun (Digits negative (10 * v + (b - 48)))) (cond (is_white b) (number_read most begun negative v) (Err BadByte)) g
      (λ e k. record {
        digits = b ∷ k.2.digits;
        behind = k.2.behind;
        more = k.2.more;
        number = k.2.number;
        is = digit_before v b k.2.digits k.2.number e k.2.is;
        ended = k.2.ended;
        split = ap (λ (xs : List ℕ). b ∷ xs) k.2.split;
        next = subst (NumberCame most begun negative k.2.number k.2.more) (sym k.1) k.2.next;
      })
      (λ none k. by_test most P bytes words (is_white b) (number_read most begun negative v) (Err BadByte) k
      (λ e l. record { digits = []; behind = b; more = bytes; number = v; is = refl; ended = e; split = refl; next = number_came begun negative v bytes words l })
      (λ none2 l. absurd l)))
      (λ many g. absurd g)
    where
      P : Type 0
      P = InDigits begun negative v (b ∷ bytes) words

-- What a proof in binary form spells is read so.
use Rattle.std.proofs.Common.{◌≡◌, ◌⊎◌, ℕ, ◌+◌, ◌-◌, ◌*◌, ◌/◌, ◌^◌, ◌<◌, ◌≤◌, ◌==◌, ◌&&◌, nat_lt, nat_le, true, cond, List, [], ◌∷◌, ◌++◌, map, Some, None, Ok, Err, inl, inr, refl, sym, ap, ◌∙◌, arith, append_assoc, append-nil, mul-le-mul_left}
use Rattle.std.proofs.lemmas.Bool.{le-leb, lt-leb, le-ltb, ne_eqb, and_from, and_left, and_right, cond-true, cond-false}
use Rattle.dimacs.specs.logic.Literal.{Literal, Pos, Neg, IsWithin, index_of}
use Rattle.drat_forms.specs.Grammar.{DratStep, Add, Delete, SpellsNumber, BinaryLiterals, words_of}
use Rattle.drat_forms.specs.Moves.{goes_to, with_literal, literal_read, zero_read, code_read, after_bits, after_step}
use Rattle.drat_forms.specs.Reading.{Reading, reads, with_word}
use Rattle.drat_forms.specs.declared.fault.DratFault.TheVariants.{BadByte, VariableTooLarge}
use Rattle.drat_forms.specs.declared.form.Form.{Form}
use Rattle.drat_forms.specs.declared.moves.Moved.{Moved}
use Rattle.drat_forms.specs.declared.place.Begun.{Begun}
use Rattle.drat_forms.specs.declared.place.Begun.TheVariants.{Nothing, Addition, Deletion}
use Rattle.drat_forms.specs.declared.place.Place.{Place}
use Rattle.drat_forms.specs.declared.place.Place.TheVariants.{Step, Bits, Refuted}
use Rattle.drat_forms.proofs.ReadingLemmas.{reads-nil}
use Rattle.drat_forms.proofs.FoundLemmas.{at_place}
use Rattle.drat_forms.proofs.PassLemmas.{byte_passes, Passed, passed_end, passed_step, refuted_passes}
use Rattle.drat_forms.proofs.SpelledSoFar.{BinarySteps, end_word}

-- ---- weights

-- how many times a byte may count
abbrev IsWeight : ℕ → Type 0
IsWeight w = (w ≡ 1) ⊎ ((w ≡ 2 ^ 7) ⊎ ((w ≡ 2 ^ 14) ⊎ ((w ≡ 2 ^ 21) ⊎ (w ≡ 2 ^ 28))))

next_weight : (w : ℕ) → 128 * w ≤ 399999999 → IsWeight w → IsWeight (128 * w)
next_weight w few (inl e) = inr (inl (omega arith))
next_weight w few (inr (inl e)) = inr (inr (inl (omega arith)))
next_weight w few (inr (inr (inl e))) = inr (inr (inr (inl (omega arith))))
next_weight w few (inr (inr (inr (inl e)))) = inr (inr (inr (inr (omega arith))))
next_weight w few (inr (inr (inr (inr e)))) = absurd (omega arith)

weight_most : (w : ℕ) → IsWeight w → w ≤ 2 ^ 28
weight_most w (inl e) = omega arith
weight_most w (inr (inl e)) = omega arith
weight_most w (inr (inr (inl e))) = omega arith
weight_most w (inr (inr (inr (inl e)))) = omega arith
weight_most w (inr (inr (inr (inr e)))) = omega arith

spread : (v w x y : ℕ) → (v + w * x) + (128 * w) * y ≡ v + w * (x + 128 * y)
spread v w x y = omega arith

-- a byte counts at least once
counts_once : (v w low n : ℕ) → 0 < low → n ≡ v + w * low → w ≤ n
counts_once v w low n some e = omega (arith, e, mul-le-mul_left w some)

module _ (most : ℕ) (form : Form) where
  abbrev at : Begun → Place → List ℕ → Reading
  at begun place words = at_place most form begun place words

  -- ---- numbers

  fits : (v w n : ℕ) → v ≤ n → n / 2 ≤ most → IsWeight w → (nat_le (v / 2) most && nat_le w (2 ^ 28)) ≡ true
  fits v w n less few is = and_from (nat_le (v / 2) most) (nat_le w (2 ^ 28)) (le-leb (v / 2) most (omega (arith, less, few))) (le-leb w (2 ^ 28) (weight_most w is))

  last_byte : (begun : Begun) (v w b n : ℕ) → b < 128 → (w ≡ 1) ⊎ (0 < b) → n ≡ v + w * b → n / 2 ≤ most → IsWeight w → after_bits most begun v w b ≡ code_read most begun n
  last_byte begun v w b n small needed e few is =
      let less : v ≤ n = omega (arith, e) in
      cond-true (nat_le (v / 2) most && nat_le w (2 ^ 28)) (cond (nat_le 128 b) (goes_to begun (Bits (v + w * (b - 128)) (128 * w))) (cond (b == 0 && nat_lt 1 w) (Err BadByte) (code_read most begun (v + w * b)))) (Err VariableTooLarge) (fits v w n less few is)
      ∙ cond-false (nat_le 128 b) (goes_to begun (Bits (v + w * (b - 128)) (128 * w))) (cond (b == 0 && nat_lt 1 w) (Err BadByte) (code_read most begun (v + w * b))) (lt-leb 128 b small)
      ∙ cond-false (b == 0 && nat_lt 1 w) (Err BadByte) (code_read most begun (v + w * b)) (
      elim needed [ inl one ↦ and_right (b == 0) (nat_lt 1 w) (le-ltb 1 w (omega (arith, one))) | inr some ↦ and_left (b == 0) (nat_lt 1 w) (ne_eqb b 0 (λ z. omega (arith, some, z))) ])
      ∙ ap (code_read most begun) (sym e)

  other_byte : (begun : Begun) (v w b n : ℕ) → 128 ≤ b → v ≤ n → n / 2 ≤ most → IsWeight w → after_bits most begun v w b ≡ goes_to begun (Bits (v + w * (b - 128)) (128 * w))
  other_byte begun v w b n many less few is =
      cond-true (nat_le (v / 2) most && nat_le w (2 ^ 28)) (cond (nat_le 128 b) (goes_to begun (Bits (v + w * (b - 128)) (128 * w))) (cond (b == 0 && nat_lt 1 w) (Err BadByte) (code_read most begun (v + w * b)))) (Err VariableTooLarge) (fits v w n less few is)
      ∙ cond-true (nat_le 128 b) (goes_to begun (Bits (v + w * (b - 128)) (128 * w))) (cond (b == 0 && nat_lt 1 w) (Err BadByte) (code_read most begun (v + w * b))) (le-leb 128 b many)

  module _ (bounded : most ≤ 199999999) where
    number_passes : (begun : Begun) (words bytes : List ℕ) (v w high n : ℕ) (more : List ℕ) (m : Moved) → SpellsNumber bytes high → n ≡ v + w * high → (w ≡ 1) ⊎ (0 < high) → n / 2 ≤ most → IsWeight w → code_read most begun n ≡ Ok m
        → reads (at begun (Bits v w) words) (bytes ++ more) ≡ reads (at m.begun m.place (with_word words m.word)) more
    number_passes begun words [] v w high n more m spelled e needed few is read = absurd spelled
    number_passes begun words (b ∷ []) v w high n more m (small, same) e needed few is read =
        byte_passes most form begun (Bits v w) words b more m
        (last_byte begun v w b n small (elim needed [ inl one ↦ inl one | inr some ↦ inr (omega (arith, some, same)) ]) (e ∙ ap (λ (x : ℕ). v + w * x) same) few is ∙ read)
    number_passes begun words (b ∷ c ∷ bytes) v w high n more m (many, low, some, same, spelled) e needed few is read =
        let split : high ≡ (b - 128) + 128 * low = omega (arith, many, same) in
        let whole : n ≡ (v + w * (b - 128)) + (128 * w) * low = e ∙ ap (λ (x : ℕ). v + w * x) split ∙ sym (spread v w (b - 128) low) in
        let weight : 128 * w ≤ n = counts_once (v + w * (b - 128)) (128 * w) low n some whole in
        byte_passes most form begun (Bits v w) words b (c ∷ bytes ++ more) (record { begun = begun; place = Bits (v + w * (b - 128)) (128 * w); word = None }) (other_byte begun v w b n many (omega (arith, e)) few is)
        ∙ number_passes begun words (c ∷ bytes) (v + w * (b - 128)) (128 * w) low n more m spelled whole (inr some) few (next_weight w (omega (arith, weight, few, bounded)) is) read

    -- ---- literals

    code_half : (l : Literal) → IsWithin most l → index_of l / 2 ≤ most
    code_half (Pos v) h = omega (arith, h.1)
    code_half (Neg v) h = omega (arith, h.1)

    code_some : (l : Literal) → IsWithin most l → 2 ≤ index_of l
    code_some (Pos v) h = omega (arith, h.0)
    code_some (Neg v) h = omega (arith, h.0)

    literal_is_read : (begun : Begun) (n : ℕ) → 2 ≤ n → n / 2 ≤ most → code_read most begun n ≡ Ok (record { begun = with_literal begun; place = Bits 0 1; word = Some n })
    literal_is_read begun n some few =
        cond-false (n == 0) (zero_read begun Step) (cond (n == 1) (Err BadByte) (literal_read most begun n (Bits 0 1))) (ne_eqb n 0 (λ e. omega (arith, some, e)))
        ∙ cond-false (n == 1) (Err BadByte) (literal_read most begun n (Bits 0 1)) (ne_eqb n 1 (λ e. omega (arith, some, e)))
        ∙ cond-true (nat_le (n / 2) most) (Ok (record { begun = with_literal begun; place = Bits 0 1; word = Some n })) (Err VariableTooLarge) (le-leb (n / 2) most few)

    literal_passes : (begun : Begun) (l : Literal) (words bytes front more : List ℕ) → bytes ≡ front ++ more → SpellsNumber front (index_of l) → IsWithin most l
        → reads (at begun (Bits 0 1) words) bytes ≡ reads (at (with_literal begun) (Bits 0 1) (words ++ index_of l ∷ [])) more
    literal_passes begun l words bytes front more split spelled within =
        ap (reads (at begun (Bits 0 1) words)) split
        ∙ number_passes begun words front 0 1 (index_of l) (index_of l) more (record { begun = with_literal begun; place = Bits 0 1; word = Some (index_of l) }) spelled (omega arith) (inl refl) (code_half l within) (inl refl)
        (literal_is_read begun (index_of l) (code_some l within) (code_half l within))

    zero_passes : (begun : Begun) (words bytes more : List ℕ) (m : Moved) → bytes ≡ 0 ∷ more → zero_read begun Step ≡ Ok m → reads (at begun (Bits 0 1) words) bytes ≡ reads (at m.begun m.place (with_word words m.word)) more
    zero_passes begun words bytes more m split read =
        ap (reads (at begun (Bits 0 1) words)) split ∙ byte_passes most form begun (Bits 0 1) words 0 more m (last_byte begun 0 1 0 0 (omega arith) (inl refl) (omega arith) (omega arith) (inl refl) ∙ read)

    -- a step that has a literal, or is a deletion
    is_begun : (begun : Begun) → with_literal begun ≡ begun → zero_read begun Step ≡ Ok (record { begun = Nothing; place = Step; word = Some (end_word begun) })
    is_begun Nothing e = absurd cc
    is_begun Addition e = refl
    is_begun Deletion e = refl

    literals_pass : (begun : Begun) → with_literal begun ≡ begun → (literals : List Literal) (words bytes rest : List ℕ) → BinaryLiterals most bytes literals rest
        → reads (at begun (Bits 0 1) words) bytes ≡ reads (at Nothing Step (words ++ (map index_of literals ++ end_word begun ∷ []))) rest
    literals_pass begun is [] words bytes rest split = zero_passes begun words bytes rest (record { begun = Nothing; place = Step; word = Some (end_word begun) }) split (is_begun begun is)
    literals_pass begun is (l ∷ literals) words bytes rest (front, more, split, spelled, within, later) =
        literal_passes begun l words bytes front more split spelled within
        ∙ ap (λ (x : Begun). reads (at x (Bits 0 1) (words ++ index_of l ∷ [])) more) is
        ∙ literals_pass begun is literals (words ++ index_of l ∷ []) more rest later
        ∙ ap (λ (xs : List ℕ). reads (at Nothing Step xs) rest) (append_assoc words (index_of l ∷ []) (map index_of literals ++ end_word begun ∷ []))

    -- ---- steps

    letter_passes : (b : ℕ) (begun : Begun) (words bytes more : List ℕ) → bytes ≡ b ∷ more → after_step b ≡ goes_to begun (Bits 0 1) → reads (at Nothing Step words) bytes ≡ reads (at begun (Bits 0 1) words) more
    letter_passes b begun words bytes more split e = ap (reads (at Nothing Step words)) split ∙ byte_passes most form Nothing Step words b more (record { begun = begun; place = Bits 0 1; word = None }) e

    addition_passes : (l : Literal) (literals : List Literal) (words bytes rest : List ℕ) → BinaryLiterals most bytes (l ∷ literals) rest
        → reads (at Nothing (Bits 0 1) words) bytes ≡ reads (at Nothing Step (words ++ (map index_of (l ∷ literals) ++ 0 ∷ []))) rest
    addition_passes l literals words bytes rest (front, more, split, spelled, within, later) =
        literal_passes Nothing l words bytes front more split spelled within
        ∙ literals_pass Addition refl literals (words ++ index_of l ∷ []) more rest later
        ∙ ap (λ (xs : List ℕ). reads (at Nothing Step xs) rest) (append_assoc words (index_of l ∷ []) (map index_of literals ++ 0 ∷ []))

    pub binary_passes : (steps : List DratStep) (words bytes : List ℕ) → BinarySteps most bytes steps → Passed (at Nothing Step words) bytes (words ++ words_of steps)
    binary_passes [] words bytes h =
        passed_end (at Nothing Step words) bytes (at Nothing Step words) (words ++ []) (ap (reads (at Nothing Step words)) h ∙ reads-nil (at Nothing Step words)) refl (sym (append-nil words))
    binary_passes (Add [] ∷ steps) words bytes (rest, (more, split, spelled), none) =
        passed_end (at Nothing Step words) bytes (at Nothing Refuted (words ++ 0 ∷ [])) (words ++ words_of (Add [] ∷ steps))
        (letter_passes 97 Nothing words bytes more split refl ∙ zero_passes Nothing words more rest (record { begun = Nothing; place = Refuted; word = Some 0 }) spelled refl ∙ refuted_passes most form Nothing (words ++ 0 ∷ []) rest) refl
        (ap (λ (ss : List DratStep). words ++ 0 ∷ words_of ss) (sym none))
    binary_passes (Add (l ∷ literals) ∷ steps) words bytes (rest, (more, split, spelled), later) =
        passed_step most form Step 0 words (map index_of (l ∷ literals)) (words_of steps) bytes rest (letter_passes 97 Nothing words bytes more split refl ∙ addition_passes l literals words more rest spelled)
        (binary_passes steps (words ++ (map index_of (l ∷ literals) ++ 0 ∷ [])) rest later)
    binary_passes (Delete literals ∷ steps) words bytes (rest, (more, split, spelled), later) =
        passed_step most form Step 1 words (map index_of literals) (words_of steps) bytes rest (letter_passes 100 Deletion words bytes more split refl ∙ literals_pass Deletion refl literals words more rest spelled)
        (binary_passes steps (words ++ (map index_of literals ++ 1 ∷ [])) rest later)

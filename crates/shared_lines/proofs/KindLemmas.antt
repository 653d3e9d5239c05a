-- Lines of different kinds are different, so that a text spells one line.
use Rattle.std.proofs.Common.{◌≡◌, ◌==◌, ℕ, ◌^◌, ◌<◌, ◌≤◌, false, List, [], ◌∷◌, ◌++◌, codes, decimal, length, slice_index, Result, Ok, Err, refl, sym, ◌∙◌, ap, subst, append_assoc, arith}
use Rattle.std.specs.List.{AllByRecursion, filter, slice_split}
use Rattle.std.proofs.lemmas.List.Splits.{slice_split_at}
use Rattle.dimacs.specs.text.Words.{is_some_byte}
use Rattle.std.proofs.lemmas.List.Elements.{All-cons, All-nil}
use Rattle.dimacs.specs.logic.Literal.{Clause}
use Rattle.lrat_text.specs.Grammar.{IsClauseNumber, IsStepWithin, SpellsStepWithin, step_tokens, tokens}
use Rattle.lrat_text.specs.Parser.{GivesStep}
use Rattle.lrat_text.specs.declared.fault.TextFault.{TextFault}
use Rattle.lrat_text.specs.declared.fault.TextFault.TheVariants.{BadToken, LineNotEnded, MissingZero, NumberTooLarge, NoMemory}
use Rattle.lrat_text.specs.declared.step.Step.{Step}
use Rattle.lrat_text.specs.declared.step.Step.TheVariants.{Add, Delete}
use Rattle.lrat_text.specs.inner.Tokens.{is_space}
use Rattle.lrat_text.proofs.FirstByteLemmas.{line_digit}
use Rattle.lrat_text.proofs.LineLemmas.{step_has}
use Rattle.lrat_text.proofs.NumberLemmas.{IsDigitByte, decimal_digits}
use Rattle.lrat_text.proofs.TokenLemmas.{front_more}
use Rattle.shared_logs.specs.SharedText.{SpellsClock, SpellsImport, SpellsName}
use Rattle.shared_lines.specs.Lines.{Line, Lemma, Deletion, Name, Import, Clock, SpellsLine, Gives}
use Rattle.shared_lines.specs.declared.line_buffer.Kind.TheVariants as kind
use Rattle.shared_lines.specs.Buffers.{line_held}
use Rattle.shared_lines.specs.inner.Steps.{GivesTwo, HasTwoHints}
use Rattle.shared_lines.specs.inner.Words.{IsWord}
use Rattle.shared_lines.proofs.ByteLemmas.{word_same}
use Rattle.shared_lines.proofs.FieldLemmas.{clocks_once, name_parts, names_once}

-- ---- first bytes
no_letter : (most b : ℕ) (bs : List ℕ) (step : Step) → 58 ≤ b → ¬ (SpellsStepWithin most (b ∷ bs) step)
no_letter most b bs step letter s = let d = line_digit most b bs step s in absurd (omega (arith, d.0, d.1))

no_letter_import : (most b : ℕ) (bs : List ℕ) (n : ℕ) (C : Clause) (log there : ℕ) → 58 ≤ b → ¬ (SpellsImport most (b ∷ bs) n C log there)
no_letter_import most b bs n C log there letter s = at s.front s.splits s.addition
  where
    at : (front : List ℕ) → b ∷ bs ≡ front ++ codes " i " ++ s.rest → SpellsStepWithin most (front ++ codes " " ++ s.rest) (Add n C (log ∷ there ∷ []) []) → ⊥
    at [] e a = let f : b ≡ 32 = cc in absurd (omega arith)
    at (c ∷ front) e a = let f : b ≡ c = cc in no_letter most c (front ++ codes " " ++ s.rest) (Add n C (log ∷ there ∷ []) []) (omega arith) a

name_begins : (line : List ℕ) (n : ℕ) (name : List ℕ) → SpellsName line n name → (rest : List ℕ) × (line ≡ 119 ∷ rest)
name_begins line n name s = (32 ∷ (decimal n ++ 32 ∷ (name ++ codes " 0")), s.spelled ∙ name_parts n name)

clock_begins : (line : List ℕ) (time : ℕ) → SpellsClock line time → (rest : List ℕ) × (line ≡ 101 ∷ rest)
clock_begins line time s = (32 ∷ (decimal time ++ codes " 0"), s.spelled ∙ append_assoc (codes "e ") (decimal time) (codes " 0"))

two_letters : (line xs ys : List ℕ) → line ≡ 119 ∷ xs → line ≡ 101 ∷ ys → ⊥
two_letters line xs ys e f = omega (arith, ap (λ (l : List ℕ). slice_index l 0) (sym e ∙ f))

pub only_name : (most : ℕ) (line : List ℕ) (n : ℕ) (name : List ℕ) → SpellsName line n name → (x : Line) → SpellsLine most line x → Name n name ≡ x
only_name most line n name s (Lemma number C hints) t =
    let b = name_begins line n name s in
    absurd (no_letter most 119 b.0 (Add number C hints []) (omega arith) (subst (λ (l : List ℕ). SpellsStepWithin most l (Add number C hints [])) b.1 t))
only_name most line n name s (Deletion numbers) t =
    let b = name_begins line n name s in
    absurd (no_letter most 119 b.0 (Delete numbers) (omega arith) (subst (λ (l : List ℕ). SpellsStepWithin most l (Delete numbers)) b.1 t))
only_name most line n name s (Name number other) t = let e = names_once line n name number other s t in rw (e.0, e.1) refl
only_name most line n name s (Import number C log there) t =
    let b = name_begins line n name s in
    absurd (no_letter_import most 119 b.0 number C log there (omega arith) (subst (λ (l : List ℕ). SpellsImport most l number C log there) b.1 t))
only_name most line n name s (Clock time) t = absurd (two_letters line _ _ (name_begins line n name s).1 (clock_begins line time t).1)

pub only_clock : (most : ℕ) (line : List ℕ) (time : ℕ) → SpellsClock line time → (x : Line) → SpellsLine most line x → Clock time ≡ x
only_clock most line time s (Lemma number C hints) t =
    let b = clock_begins line time s in
    absurd (no_letter most 101 b.0 (Add number C hints []) (omega arith) (subst (λ (l : List ℕ). SpellsStepWithin most l (Add number C hints [])) b.1 t))
only_clock most line time s (Deletion numbers) t =
    let b = clock_begins line time s in
    absurd (no_letter most 101 b.0 (Delete numbers) (omega arith) (subst (λ (l : List ℕ). SpellsStepWithin most l (Delete numbers)) b.1 t))
only_clock most line time s (Name number other) t = absurd (two_letters line _ _ (name_begins line number other t).1 (clock_begins line time s).1)
only_clock most line time s (Import number C log there) t =
    let b = clock_begins line time s in
    absurd (no_letter_import most 101 b.0 number C log there (omega arith) (subst (λ (l : List ℕ). SpellsImport most l number C log there) b.1 t))
only_clock most line time s (Clock other) t = ap (λ (n : ℕ). Clock n) (clocks_once line time other s t)

-- ---- second words
abbrev IsOther : List ℕ → Type 0
IsOther w = w ≡ 105 ∷ [] → ⊥

other_digits : (w : List ℕ) → AllByRecursion IsDigitByte w → IsOther w
other_digits w h e = let all : AllByRecursion IsDigitByte (105 ∷ []) = subst (AllByRecursion IsDigitByte) e h in absurd (omega (arith, all.0.0, all.0.1))

other_minus : (w : List ℕ) → IsOther (45 ∷ w)
other_minus w e = omega (arith, ap (λ (l : List ℕ). slice_index l 0) e)

other_byte : (b : ℕ) → b < 105 → IsOther (b ∷ [])
other_byte b small e = omega (arith, small, ap (λ (l : List ℕ). slice_index l 0) e)

words_other : (most top : ℕ) (step : Step) → most < 2 ^ 48 → IsClauseNumber top → IsStepWithin most step → AllByRecursion IsOther (step_tokens top step)
words_other most top step few =
    step_has most few IsOther
    (record {
      number = λ n h. other_digits (decimal n) (decimal_digits n (omega (arith, h.1)));
      minus = λ n h. other_minus (decimal n);
      zero = other_byte 48 (omega arith);
      letter = other_byte 100 (omega arith);
    })
    top step

word_first : (word rest : List ℕ) → 0 < length word → IsWord word → tokens (word ++ 32 ∷ rest) ≡ word ∷ tokens rest
word_first word rest some one =
    ap (filter is_some_byte) (slice_split_at is_space word 32 rest one refl) ∙ front_more word (slice_split is_space rest) some

letter_is_word : IsWord (105 ∷ [])
letter_is_word = All-cons (λ b. (b == 32) ≡ false) 105 [] refl (All-nil (λ b. (b == 32) ≡ false))

second_word : (word rest : List ℕ) → 0 < length word → IsWord word → tokens (word ++ 32 ∷ (105 ∷ 32 ∷ rest)) ≡ word ∷ (105 ∷ []) ∷ tokens rest
second_word word rest some one = word_first word (105 ∷ 32 ∷ rest) some one ∙ ap (λ (ws : List (List ℕ)). word ∷ ws) (word_first (105 ∷ []) rest (omega arith) letter_is_word)

second_other : (words : List (List ℕ)) (word : List ℕ) (rest : List (List ℕ)) → AllByRecursion IsOther words → words ≡ word ∷ (105 ∷ []) ∷ rest → ⊥
second_other words word rest h e = let all : AllByRecursion IsOther (word ∷ (105 ∷ []) ∷ rest) = subst (AllByRecursion IsOther) e h in all.1.0 refl

pub import_parts : (front rest : List ℕ) → front ++ codes " i " ++ rest ≡ front ++ 32 ∷ (105 ∷ 32 ∷ rest)
import_parts front rest = append_assoc front (codes " i ") rest

-- the line of a step has no ` i ` after its first word
pub step_is_no_import : (most : ℕ) (line front rest : List ℕ) (step : Step) → most < 2 ^ 48 → line ≡ front ++ codes " i " ++ rest → IsWord front → ¬ (SpellsStepWithin most line step)
step_is_no_import most line [] rest step few is one s = s.trimmed.first (ap (λ (l : List ℕ). slice_index l 0) is)
step_is_no_import most line (b ∷ front) rest step few is one s =
    second_other (step_tokens s.top step) (b ∷ front) (tokens rest) (words_other most s.top step few s.numbered s.limits)
    (sym s.spelled ∙ ap tokens (is ∙ import_parts (b ∷ front) rest) ∙ second_word (b ∷ front) rest (omega arith) one)

-- ---- calls that read a step
pub gives_step : (x new : Step) (r : Result (Unit {0}) TextFault) → GivesStep new r (Ok x) → Gives x new r
gives_step x new (Ok u) h = sym (let e : x ≡ new = cc in e)
gives_step x new (Err NoMemory) h = refl
gives_step x new (Err BadToken) h = absurd cc
gives_step x new (Err LineNotEnded) h = absurd cc
gives_step x new (Err MissingZero) h = absurd cc
gives_step x new (Err NumberTooLarge) h = absurd cc

-- two hints are read in one way
pub same_hints : (x new : Step) (p found : ℕ × ℕ) → new ≡ x → HasTwoHints x p → HasTwoHints new found → found ≡ p
same_hints x new p found e h k = both x p found h (subst (λ (s : Step). HasTwoHints s found) e k)
  where
    both : (x : Step) (p found : ℕ × ℕ) → HasTwoHints x p → HasTwoHints x found → found ≡ p
    both (Add id C hints groups) (a, b) (c, d) h k =
        let e : c ∷ d ∷ [] ≡ a ∷ b ∷ [] = sym k.0 ∙ h.0 in
        let f : c ≡ a = cc in
        let g : d ≡ b = cc in
        rw (f, g) refl
    both (Delete ids) p found h k = absurd h

-- ---- what a line is that is neither a name's nor the clock's
-- the line is an import, which is read
pub record IsImported (x : Line) (name : List ℕ) (new : Step) (r : Result (ℕ × ℕ) TextFault) : Type 0 where
  pub well : (p : ℕ × ℕ) → r ≡ Ok p → line_held (kind.Import p.0 p.1) new name ≡ x
  pub wanting : (fault : TextFault) → r ≡ Err fault → fault ≡ NoMemory

import_read : (n : ℕ) (C : Clause) (log there : ℕ) (name : List ℕ) (new : Step) (r : Result (ℕ × ℕ) TextFault) → GivesTwo (Add n C (log ∷ there ∷ []) []) (log, there) new r → IsImported (Import n C log there) name new r
import_read n C log there name new (Ok found) h = record {
  well = λ p e. let same : found ≡ p = cc in rw (sym same, h.1, h.0) refl;
  wanting = λ fault e. absurd cc;
}
import_read n C log there name new (Err f) h = record { well = λ p e. absurd cc; wanting = λ fault e. let same : f ≡ fault = cc in sym same ∙ h }

pub only_import : (most : ℕ) (line front rest name : List ℕ) (new : Step) (r : Result (ℕ × ℕ) TextFault) → most < 2 ^ 48 → line ≡ front ++ codes " i " ++ rest → IsWord front
    → ((n : ℕ) (a : List ℕ) → ¬ (SpellsName line n a)) → ((time : ℕ) → ¬ (SpellsClock line time))
    → ((x : Step) (p : ℕ × ℕ) → HasTwoHints x p → SpellsStepWithin most (front ++ codes " " ++ rest) x → GivesTwo x p new r)
    → (x : Line) → SpellsLine most line x → IsImported x name new r
only_import most line front rest name new r few is one no_name no_clock reads (Lemma number C hints) t = absurd (step_is_no_import most line front rest (Add number C hints []) few is one t)
only_import most line front rest name new r few is one no_name no_clock reads (Deletion numbers) t = absurd (step_is_no_import most line front rest (Delete numbers) few is one t)
only_import most line front rest name new r few is one no_name no_clock reads (Name number other) t = absurd (no_name number other t)
only_import most line front rest name new r few is one no_name no_clock reads (Clock time) t = absurd (no_clock time t)
only_import most line front rest name new r few is one no_name no_clock reads (Import n C log there) t =
    let same = word_same front t.front (105 ∷ 32 ∷ rest) (105 ∷ 32 ∷ t.rest) one t.one_word (sym (import_parts front rest) ∙ sym is ∙ t.splits ∙ import_parts t.front t.rest) in
    let later : rest ≡ t.rest = let e : 105 ∷ 32 ∷ rest ≡ 105 ∷ 32 ∷ t.rest = same.1 in cc in
    let text : t.front ++ codes " " ++ t.rest ≡ front ++ codes " " ++ rest = rw (same.0, later) refl in
    import_read n C log there name new r
    (reads (Add n C (log ∷ there ∷ []) []) (log, there) (refl, refl) (subst (λ (l : List ℕ). SpellsStepWithin most l (Add n C (log ∷ there ∷ []) [])) text t.addition))

-- Lines of texts.
use Rattle.std.proofs.Common.{◌≡◌, ℕ, suc, ◌-◌, ◌<◌, ◌≤◌, ◌^◌, Bool, true, false, ◌==◌, cond, List, [], ◌∷◌, ◌++◌, Ok, map, length, get_or, refl, sym, ap, ◌∙◌, arith, subst, codes, decimal, All, Contains, length-append}
use Rattle.std.specs.List.{AllByRecursion, flat_map, filter, slice_split, onto_first, join_with_byte}
use Rattle.std.proofs.lemmas.Bool.{ne_eqb}
use Rattle.std.proofs.lemmas.List.{append-nil}
use Rattle.std.proofs.lemmas.List.Elements.{All-from_recursion, recursion_from_All, All-contains, All-from_get_or, All-weaker}
use Rattle.std.proofs.lemmas.List.Splits.{slice_split_at, slice_split_none, join_with_byte-slice_split}
use Rattle.std.proofs.Math.Seq.{get_or-append_right}
use Rattle.std.proofs.lemmas.Fmt.{decimal_nonempty}
use Rattle.dimacs.specs.logic.Literal.{Literal, Pos, Neg, IsWithin}
use Rattle.dimacs.specs.logic.Rat.{Group}
use Rattle.dimacs.specs.text.Words.{is_some_byte, lines}
use Rattle.lrat_text.specs.declared.step.Step.{Step}
use Rattle.lrat_text.specs.declared.step.Step.TheVariants.{Add, Delete}
use Rattle.lrat_text.specs.Grammar.{tokens, IsTrimmed, IsClauseNumber, IsGroup, IsStep, IsStepWithin, literal_token, group_tokens, step_tokens, SpellsStep, SpellsStepWithin, LineSpells, LineSpellsWithin}
use Rattle.lrat_text.specs.inner.Tokens.{is_space}
use Rattle.lrat_text.specs.WrittenLine.{line_text}
use Rattle.lrat_text.specs.Lines.{AllRead, AllReadWithin}
use Rattle.lrat_text.specs.Parser.{step_within}
use Rattle.lrat_text.proofs.NumberLemmas.{IsDigitByte, decimal_digits, negative_token}
use Rattle.lrat_text.proofs.TokenLemmas.{front_more}
use Rattle.lrat_text.proofs.SpellingLemmas.{found_spells_within, spelled_found_within}

-- ---- words without spaces and LF

abbrev pub IsInk : ℕ → Type 0
IsInk b = 45 ≤ b

abbrev pub IsWord : List ℕ → Type 0
IsWord w = (0 < length w) × AllByRecursion IsInk w

digits_ink : (ds : List ℕ) → AllByRecursion IsDigitByte ds → AllByRecursion IsInk ds
digits_ink [] h = tt
digits_ink (d ∷ ds) h = (omega (arith, h.0.0), digits_ink ds h.1)

pub decimal_word : (n : ℕ) → IsClauseNumber n → IsWord (decimal n)
decimal_word n h = (decimal_nonempty n (omega (arith, h.1)), digits_ink (decimal n) (decimal_digits n (omega (arith, h.1))))

pub minus_word : (n : ℕ) → IsClauseNumber n → IsWord (45 ∷ decimal n)
minus_word n h = (omega arith, (omega arith, (decimal_word n h).1))

zero_word : IsWord (codes "0")
zero_word = (omega arith, (omega arith, tt))

letter_word : IsWord (codes "d")
letter_word = (omega arith, (omega arith, tt))

pub all_append : {X : Type 0} (P : X → Type 0) (xs ys : List X) → AllByRecursion P xs → AllByRecursion P ys → AllByRecursion P (xs ++ ys)
all_append P [] ys h k = k
all_append P (x ∷ xs) ys h k = (h.0, all_append P xs ys h.1 k)

-- what is so of each token of a step
pub record IsOfTokens (W : List ℕ → Type 0) : Type 0 where
  pub number : (n : ℕ) → IsClauseNumber n → W (decimal n)
  pub minus : (n : ℕ) → IsClauseNumber n → W (45 ∷ decimal n)
  pub zero : W (codes "0")
  pub letter : W (codes "d")

literal_has : (most : ℕ) → most < 2 ^ 48 → (W : List ℕ → Type 0) → IsOfTokens W → (l : Literal) → IsWithin most l → W (literal_token l)
literal_has most few W w (Pos v) h = w.number v (omega (arith, h.0), omega (arith, h.1))
literal_has most few W w (Neg v) h = subst W (sym (negative_token v (omega (arith, h.0)))) (w.minus v (omega (arith, h.0), omega (arith, h.1)))

all_map : {X : Type 0} (W : List ℕ → Type 0) (P : X → Type 0) (f : X → List ℕ) (xs : List X) → ((x : X) → P x → W (f x)) → AllByRecursion P xs → AllByRecursion W (map f xs)
all_map W P f [] g h = tt
all_map W P f (x ∷ xs) g h = (g x h.0, all_map W P f xs g h.1)

groups_have : (W : List ℕ → Type 0) → IsOfTokens W → (gs : List Group) → AllByRecursion IsGroup gs → AllByRecursion W (flat_map group_tokens gs)
groups_have W w [] h = tt
groups_have W w (g ∷ gs) h =
    all_append W (group_tokens g) (flat_map group_tokens gs)
    (w.minus g.0 h.0.0, all_map W IsClauseNumber decimal g.1 w.number (recursion_from_All IsClauseNumber g.1 h.0.1))
    (groups_have W w gs h.1)

pub step_has : (most : ℕ) → most < 2 ^ 48 → (W : List ℕ → Type 0) → IsOfTokens W → (top : ℕ) (step : Step) → IsClauseNumber top → IsStepWithin most step → AllByRecursion W (step_tokens top step)
step_has most few W w top (Add id lits hints groups) n h = (
  w.number id h.0,
  all_append W (map literal_token lits) (codes "0" ∷ (map decimal hints ++ flat_map group_tokens groups ++ codes "0" ∷ []))
      (all_map W (IsWithin most) literal_token lits (literal_has most few W w) (recursion_from_All (IsWithin most) lits h.1)) (
        w.zero,
        all_append W (map decimal hints ++ flat_map group_tokens groups) (codes "0" ∷ [])
            (all_append W (map decimal hints) (flat_map group_tokens groups)
            (all_map W IsClauseNumber decimal hints w.number (recursion_from_All IsClauseNumber hints h.2))
            (groups_have W w groups (recursion_from_All IsGroup groups h.3)))
            (w.zero, tt),
      ),
)
step_has most few W w top (Delete ids) n h = (
  w.number top n,
  (
    w.letter,
    all_append W (map decimal ids) (codes "0" ∷ [])
        (all_map W IsClauseNumber decimal ids w.number (recursion_from_All IsClauseNumber ids h)) (w.zero, tt),
  ),
)

pub step_words_within : (most : ℕ) → most < 2 ^ 48 → (top : ℕ) (step : Step) → IsClauseNumber top → IsStepWithin most step → AllByRecursion IsWord (step_tokens top step)
step_words_within most few = step_has most few IsWord (record { number = decimal_word; minus = minus_word; zero = zero_word; letter = letter_word })

-- ---- words with single spaces between them

ink_is_no : (c : ℕ) (w : List ℕ) → c < 45 → AllByRecursion IsInk w → AllByRecursion (λ b. (b == c) ≡ false) w
ink_is_no c [] lt h = tt
ink_is_no c (b ∷ bs) lt h = (ne_eqb b c (λ same. omega (arith, h.0, same)), ink_is_no c bs lt h.1)

pub joined_tokens : (w : List ℕ) (ws : List (List ℕ)) → AllByRecursion IsWord (w ∷ ws) → tokens (join_with_byte 32 (w ∷ ws)) ≡ w ∷ ws
joined_tokens w [] h =
    ap (filter is_some_byte) (slice_split_none is_space w (All-from_recursion (λ b. (b == 32) ≡ false) w (ink_is_no 32 w (omega arith) h.0.1)))
    ∙ front_more w [] h.0.0
joined_tokens w (v ∷ ws) h =
    ap (filter is_some_byte) (slice_split_at is_space w 32 (join_with_byte 32 (v ∷ ws)) (All-from_recursion (λ b. (b == 32) ≡ false) w (ink_is_no 32 w (omega arith) h.0.1)) refl)
    ∙ front_more w (slice_split is_space (join_with_byte 32 (v ∷ ws))) h.0.0
    ∙ ap (λ (xs : List (List ℕ)). w ∷ xs) (joined_tokens v ws h.1)

joined_some : (w : List ℕ) (ws : List (List ℕ)) → AllByRecursion IsWord (w ∷ ws) → 0 < length (join_with_byte 32 (w ∷ ws))
joined_some w [] h = h.0.0
joined_some w (v ∷ ws) h = omega (arith, h.0.0, length-append w (32 ∷ join_with_byte 32 (v ∷ ws)))

first_ink : (w more : List ℕ) → 0 < length w → AllByRecursion IsInk w → 45 ≤ get_or (w ++ more) 0 0
first_ink [] more some h = absurd (omega arith)
first_ink (b ∷ bs) more some h = h.0

joined_first : (w : List ℕ) (ws : List (List ℕ)) → AllByRecursion IsWord (w ∷ ws) → 45 ≤ get_or (join_with_byte 32 (w ∷ ws)) 0 0
joined_first w [] h = let P : List ℕ → Type 0 = λ xs. 45 ≤ get_or xs 0 0 in subst P (append-nil w) (first_ink w [] h.0.0 h.0.1)
joined_first w (v ∷ ws) h = first_ink w (32 ∷ join_with_byte 32 (v ∷ ws)) h.0.0 h.0.1

last_ink : (w : List ℕ) → 0 < length w → AllByRecursion IsInk w → 45 ≤ get_or w (length w - 1) 0
last_ink [] some h = absurd (omega arith)
last_ink (b ∷ []) some h = h.0
last_ink (b ∷ d ∷ ds) some h =
    let at : length (b ∷ d ∷ ds) - 1 ≡ suc (length (d ∷ ds) - 1) = omega arith in
    rw at (last_ink (d ∷ ds) (omega arith) h.1)

last_behind : (xs : List ℕ) (y : ℕ) (ys : List ℕ) → 0 < length ys → get_or (xs ++ y ∷ ys) (length (xs ++ y ∷ ys) - 1) 0 ≡ get_or ys (length ys - 1) 0
last_behind xs y ys some =
    let at : length (xs ++ y ∷ ys) - 1 - length xs ≡ suc (length ys - 1) = omega (arith, length-append xs (y ∷ ys)) in
    get_or-append_right xs (y ∷ ys) (length (xs ++ y ∷ ys) - 1) 0 (omega (arith, length-append xs (y ∷ ys))) ∙ ap (λ i. get_or (y ∷ ys) i 0) at

joined_last : (w : List ℕ) (ws : List (List ℕ)) → AllByRecursion IsWord (w ∷ ws) → 45 ≤ get_or (join_with_byte 32 (w ∷ ws)) (length (join_with_byte 32 (w ∷ ws)) - 1) 0
joined_last w [] h = last_ink w h.0.0 h.0.1
joined_last w (v ∷ ws) h =
    let P : ℕ → Type 0 = λ b. 45 ≤ b in
    subst P (sym (last_behind w 32 (join_with_byte 32 (v ∷ ws)) (joined_some v ws h.1))) (joined_last v ws h.1)

joined_trimmed : (w : List ℕ) (ws : List (List ℕ)) → AllByRecursion IsWord (w ∷ ws) → IsTrimmed (join_with_byte 32 (w ∷ ws))
joined_trimmed w ws h = record {
  some = joined_some w ws h;
  first = λ e. omega (arith, joined_first w ws h, e);
  last = λ e. omega (arith, joined_last w ws h, e);
}

joined_one_line : (w : List ℕ) (ws : List (List ℕ)) → AllByRecursion IsWord (w ∷ ws) → AllByRecursion (λ b. (b == 10) ≡ false) (join_with_byte 32 (w ∷ ws))
joined_one_line w [] h = ink_is_no 10 w (omega arith) h.0.1
joined_one_line w (v ∷ ws) h = all_append (λ b. (b == 10) ≡ false) w (32 ∷ join_with_byte 32 (v ∷ ws)) (ink_is_no 10 w (omega arith) h.0.1) (refl, joined_one_line v ws h.1)

words_trimmed : (ws : List (List ℕ)) → 0 < length ws → AllByRecursion IsWord ws → IsTrimmed (join_with_byte 32 ws) × (tokens (join_with_byte 32 ws) ≡ ws) × AllByRecursion (λ b. (b == 10) ≡ false) (join_with_byte 32 ws)
words_trimmed [] some h = absurd (omega arith)
words_trimmed (w ∷ ws) some h = (joined_trimmed w ws h, joined_tokens w ws h, joined_one_line w ws h)

some_tokens : (top : ℕ) (step : Step) → 0 < length (step_tokens top step)
some_tokens top (Add id lits hints groups) = omega arith
some_tokens top (Delete ids) = omega arith

-- what is written spells the step
pub written_spells_within : (most : ℕ) → most < 2 ^ 48 → (top : ℕ) (step : Step) → IsClauseNumber top → IsStepWithin most step → SpellsStepWithin most (line_text top step) step
written_spells_within most few top step n h =
    let p = words_trimmed (step_tokens top step) (some_tokens top step) (step_words_within most few top step n h) in
    record { top = top; trimmed = p.0; limits = h; numbered = n; spelled = p.1 }

no_end : (line : List ℕ) → AllByRecursion (λ b. (b == 10) ≡ false) line → ¬ (Contains line 10)
no_end line h c = differ (All-contains (λ b. (b == 10) ≡ false) line 10 (All-from_recursion (λ b. (b == 10) ≡ false) line h) c)
  where
    differ : true ≡ false → ⊥
    differ e = cc

pub written_one_line_within : (most : ℕ) → most < 2 ^ 48 → (top : ℕ) (step : Step) → IsClauseNumber top → IsStepWithin most step → ¬ (Contains (line_text top step) 10)
written_one_line_within most few top step n h =
    no_end (line_text top step) (words_trimmed (step_tokens top step) (some_tokens top step) (step_words_within most few top step n h)).2

-- ---- a greater limit

literals_more : (a b : ℕ) → a ≤ b → (lits : List Literal) → All (IsWithin a) lits → All (IsWithin b) lits
literals_more a b le lits h = All-weaker (IsWithin a) (IsWithin b) (λ l w. (w.0, omega (arith, le, w.1))) lits h

pub step_more : (a b : ℕ) → a ≤ b → (step : Step) → IsStepWithin a step → IsStepWithin b step
step_more a b le (Add id lits hints groups) h = (h.0, literals_more a b le lits h.1, h.2, h.3)
step_more a b le (Delete ids) h = h

pub spells_step_more : (a b : ℕ) → a ≤ b → (line : List ℕ) (step : Step) → SpellsStepWithin a line step → SpellsStepWithin b line step
spells_step_more a b le line step s = record { top = s.top; trimmed = s.trimmed; limits = step_more a b le step s.limits; numbered = s.numbered; spelled = s.spelled }

pub spells_more : (a b : ℕ) → a ≤ b → (text : List ℕ) (steps : List Step) → LineSpellsWithin a text steps → LineSpellsWithin b text steps
spells_more a b le text [] h = h
spells_more a b le text (step ∷ steps) (line, rest, whole, one, s, later) =
    (line, rest, whole, one, spells_step_more a b le line step s, spells_more a b le rest steps later)

-- ---- within the written limits

pub step_words : (top : ℕ) (step : Step) → IsClauseNumber top → IsStep step → AllByRecursion IsWord (step_tokens top step)
step_words = step_words_within 2000000 (omega arith)

pub written_spells : (top : ℕ) (step : Step) → IsClauseNumber top → IsStep step → SpellsStep (line_text top step) step
written_spells = written_spells_within 2000000 (omega arith)

pub written_one_line : (top : ℕ) (step : Step) → IsClauseNumber top → IsStep step → ¬ (Contains (line_text top step) 10)
written_one_line = written_one_line_within 2000000 (omega arith)

-- ---- pieces between LFs

no_end_back : (line : List ℕ) → ¬ (Contains line 10) → All (λ b. (b == 10) ≡ false) line
no_end_back line h = All-from_get_or (λ b. (b == 10) ≡ false) line 10 (λ i lt. ne_eqb (get_or line i 10) 10 (λ e. h (i, lt, e)))

lines_first : (line rest : List ℕ) → ¬ (Contains line 10) → lines (line ++ 10 ∷ rest) ≡ line ∷ lines rest
lines_first line rest h = slice_split_at (λ b. b == 10) line 10 rest (no_end_back line h) refl

abbrev IsPiece : List ℕ → Type 0
IsPiece piece = AllByRecursion (λ b. (b == 10) ≡ false) piece

onto_some : (x : ℕ) (parts : List (List ℕ)) → 0 < length (onto_first x parts)
onto_some x [] = omega arith
onto_some x (part ∷ parts) = omega arith

lines_some : (text : List ℕ) → 0 < length (lines text)
lines_some [] = omega arith
lines_some (b ∷ bs) = by_end (b == 10)
  where
    by_end : (t : Bool) → 0 < length (cond t ([] ∷ lines bs) (onto_first b (lines bs)))
    by_end true = omega arith
    by_end false = onto_some b (lines bs)

onto_pieces : (b : ℕ) (parts : List (List ℕ)) → (b == 10) ≡ false → AllByRecursion IsPiece parts → AllByRecursion IsPiece (onto_first b parts)
onto_pieces b [] e h = ((e, tt), tt)
onto_pieces b (part ∷ parts) e h = ((e, h.0), h.1)

lines_pieces : (text : List ℕ) → AllByRecursion IsPiece (lines text)
lines_pieces [] = (tt, tt)
lines_pieces (b ∷ bs) = by_end (b == 10) refl (lines_pieces bs)
  where
    by_end : (t : Bool) → (b == 10) ≡ t → AllByRecursion IsPiece (lines bs) → AllByRecursion IsPiece (cond t ([] ∷ lines bs) (onto_first b (lines bs)))
    by_end true e h = (tt, h)
    by_end false e h = onto_pieces b (lines bs) e h

read_more : (most : ℕ) (line : List ℕ) (step : Step) (pieces : List (List ℕ)) (steps : List Step) → 0 < length pieces → step_within most line ≡ Ok step → AllReadWithin most pieces steps
    → AllReadWithin most (line ∷ pieces) (step ∷ steps)
read_more most line step [] steps some e h = absurd (omega arith)
read_more most line step (piece ∷ pieces) steps some e h = (e, h)

-- a text of lines is read piece by piece
pub spelled_read_within : (most : ℕ) → most < 2 ^ 48 → (text : List ℕ) (steps : List Step) → LineSpellsWithin most text steps → AllReadWithin most (lines text) steps
spelled_read_within most few text [] h = let P : List ℕ → Type 0 = λ t. AllReadWithin most (lines t) [] in subst P (sym h) (refl, refl)
spelled_read_within most few text (step ∷ steps) h =
    let e : lines text ≡ h.0 ∷ lines h.1 = ap lines h.2 ∙ lines_first h.0 h.1 h.3 in
    let P : List (List ℕ) → Type 0 = λ pieces. AllReadWithin most pieces (step ∷ steps) in
    subst P (sym e) (read_more most h.0 step (lines h.1) steps (lines_some h.1) (spelled_found_within most h.0 step few h.4) (spelled_read_within most few h.1 steps h.5))

pieces_spell : (most : ℕ) (pieces : List (List ℕ)) (steps : List Step) → AllByRecursion IsPiece pieces → AllReadWithin most pieces steps → LineSpellsWithin most (join_with_byte 10 pieces) steps
pieces_spell most [] steps p h = absurd h
pieces_spell most (last ∷ []) [] p h = h.0
pieces_spell most (last ∷ []) (step ∷ steps) p h = absurd (cc (h.1))
pieces_spell most (piece ∷ next ∷ pieces) [] p h = absurd h
pieces_spell most (piece ∷ next ∷ pieces) (step ∷ steps) p h =
    (piece, join_with_byte 10 (next ∷ pieces), refl, no_end piece p.0, found_spells_within most piece step h.0, pieces_spell most (next ∷ pieces) steps p.1 h.1)

pub read_spelled_within : (most : ℕ) (text : List ℕ) (steps : List Step) → AllReadWithin most (lines text) steps → LineSpellsWithin most text steps
read_spelled_within most text steps h =
    let P : List ℕ → Type 0 = λ t. LineSpellsWithin most t steps in
    subst P (join_with_byte-slice_split 10 text) (pieces_spell most (lines text) steps (lines_pieces text) h)

-- the same within the written limits
pub spelled_read : (text : List ℕ) (steps : List Step) → LineSpells text steps → AllRead (lines text) steps
spelled_read text steps h = spelled_read_within 2000000 (omega arith) text steps h

pub read_spelled : (text : List ℕ) (steps : List Step) → AllRead (lines text) steps → LineSpells text steps
read_spelled text steps h = read_spelled_within 2000000 text steps h

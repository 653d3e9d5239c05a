-- A line apart from its literals.
use Rattle.std.proofs.Common.{◌≡◌, ℕ, suc, ◌+◌, ◌-◌, ◌<◌, ◌≤◌, ◌^◌, Bool, true, false, ◌&&◌, ◌||◌, ◌==◌, cond, List, [], ◌∷◌, ◌++◌, length, map, take, drop, get_or, bytes_eq, codes, decimal, Some, None, Result, Ok, inl, inr, refl, sym, ap, ◌∙◌, arith, subst, append_assoc, length-append, drop-cons, get_or-drop, add-one, add-zero}
use Rattle.std.specs.List.{AllByRecursion, flat_map, position_or_len}
use Rattle.std.proofs.Math.Seq.{drop-append_seam, take-append_seam}
use Rattle.std.proofs.lemmas.Bool.{cases_lt, ne_eqb}
use Rattle.std.proofs.lemmas.Fmt.{first_decimal}
use Rattle.std.proofs.lemmas.Grind.{flat_map-append}
use Rattle.std.proofs.lemmas.List.{drop_all}
use Rattle.std.proofs.lemmas.List.Folds.{flat_map-map}
use Rattle.std.proofs.lemmas.List.Elements.{recursion_from_All}
use Rattle.std.proofs.lemmas.Slice.Eq.{bytes_eq-Decides}
use Rattle.dimacs.specs.logic.Literal.{Literal, Pos, Neg, IsWithin}
use Rattle.dimacs.specs.logic.Rat.{Group}
use Rattle.lrat_text.specs.declared.fault.TextFault.{TextFault}
use Rattle.lrat_text.specs.declared.fault.TextFault.TheVariants.{BadToken, LineNotEnded, MissingZero, NumberTooLarge, NoMemory}
use Rattle.lrat_text.specs.declared.step.Step.{Step}
use Rattle.lrat_text.specs.declared.step.Step.TheVariants.{Add, Delete}
use Rattle.lrat_text.specs.Grammar.{tokens, IsClauseNumber, IsGroup, SpellsStepWithin, literal_token}
use Rattle.lrat_text.specs.Parser.{token_of, line_tokens, hints_in, Fails}
use Rattle.lrat_text.specs.WrittenLine.{line_of, line_text, literals_text, canonical_id, canonical_parts}
use Rattle.lrat_text.specs.inner.Tokens.{is_space}
use Rattle.lrat_text.specs.inner.LineParts.{literal_text, reasons_text, zero_at}
use Rattle.lrat_text.proofs.LineLemmas.{IsInk, IsWord, decimal_word, minus_word, joined_tokens, step_words_within}
use Rattle.lrat_text.proofs.NumberLemmas.{negative_token}
use Rattle.lrat_text.proofs.SpelledStepLemmas.{reasons_back, rest_tokens}
use Rattle.lrat_text.proofs.TokenLemmas.{tokens_blank}
use Rattle.lrat_text.proofs.WrittenLineLemmas.{joined, line_addition, spaced}

-- ---- byte by byte

next_byte : (line : List ℕ) (k : ℕ) → get_or (drop (suc k) line) 0 0 ≡ get_or line (k + 1) 0
next_byte line k = rw (get_or-drop, add-zero, add-one) refl

zero_later : (line : List ℕ) (k : ℕ) → k + 1 < length line → (get_or line k 0 == 32) && (get_or line (k + 1) 0 == 48) ≡ false → zero_at (drop k line) ≡ suc (zero_at (drop (k + 1) line))
zero_later line k lt h =
    ap zero_at (drop-cons line k 0 (omega arith))
    ∙ ap (λ b. cond ((get_or line k 0 == 32) && (b == 48)) 0 (suc (zero_at (drop (suc k) line)))) (next_byte line k)
    ∙ ap (λ t. cond t 0 (suc (zero_at (drop (suc k) line)))) h
    ∙ ap (λ n. suc (zero_at (drop n line))) (sym (add-one k))

neither : (a b : Bool) → a || b ≡ false → (a ≡ false) × (b ≡ false)
neither true b h = absurd (cc)
neither false b h = (refl, h)

-- none stands at one place more
pub zero_more : (line : List ℕ) (from k : ℕ) (found : Bool) → from + k + 1 < length line → (found ≡ false → zero_at (drop from line) ≡ k + zero_at (drop (from + k) line))
    → found || ((get_or line (from + k) 0 == 32) && (get_or line (from + k + 1) 0 == 48)) ≡ false → zero_at (drop from line) ≡ k + 1 + zero_at (drop (from + (k + 1)) line)
zero_more line from k found lt so_far h =
    let n = neither found ((get_or line (from + k) 0 == 32) && (get_or line (from + k + 1) 0 == 48)) h in
    let e : from + k + 1 ≡ from + (k + 1) = omega arith in
    let later : zero_at (drop (from + k) line) ≡ suc (zero_at (drop (from + (k + 1)) line)) = zero_later line (from + k) lt n.1 ∙ ap (λ m. suc (zero_at (drop m line))) e in
    omega (arith, so_far n.0, later)

one_byte : (b : ℕ) → zero_at (b ∷ []) ≡ 1
one_byte b = by (b == 32)
  where
    by : (t : Bool) → ◌≡◌ {A = ℕ} (cond (t && false) 0 1) 1
    by true = refl
    by false = refl

pub zero_none : (line : List ℕ) (k : ℕ) → k ≤ length line → length line ≤ k + 1 → length line ≡ k + zero_at (drop k line)
zero_none line k low high = elim (cases_lt k (length line)) [
  | inl lt ↦
      let e : zero_at (drop k line) ≡ 1 =
      ap zero_at (drop-cons line k 0 lt) ∙ ap (λ (x : List ℕ). zero_at (get_or line k 0 ∷ x)) (drop_all (suc k) line (omega (arith, high))) ∙ one_byte (get_or line k 0) in
      omega (arith, e, lt, high)
  | inr ge ↦
      let e : zero_at (drop k line) ≡ 0 = ap zero_at (drop_all k line ge) in
      omega (arith, e, ge, low)
]

-- ---- the first space, and the first one with a 0 after it

no_space : (b : ℕ) → 45 ≤ b → (b == 32) ≡ false
no_space b h = ne_eqb b 32 (λ e. omega (arith, h, e))

word_space : (w more : List ℕ) → AllByRecursion IsInk w → position_or_len is_space (w ++ more) ≡ length w + position_or_len is_space more
word_space [] more h = omega arith
word_space (b ∷ bs) more h = rw (no_space b h.0) (omega (arith, word_space bs more h.1))

word_zero : (w more : List ℕ) → AllByRecursion IsInk w → zero_at (w ++ more) ≡ length w + zero_at more
word_zero [] more h = omega arith
word_zero (b ∷ bs) more h = rw (no_space b h.0) (omega (arith, word_zero bs more h.1))

-- a word that does not begin with 0, after a space
other_zero : (w more : List ℕ) → IsWord w → (get_or w 0 0 ≡ 48 → ⊥) → zero_at (32 ∷ (w ++ more)) ≡ suc (length w + zero_at more)
other_zero [] more h first = absurd (omega (arith, h.0))
other_zero (b ∷ bs) more h first = rw (ne_eqb b 48 first) (ap suc (word_zero (b ∷ bs) more h.1))

literal_zero : (most : ℕ) → most < 2 ^ 48 → (l : Literal) (more : List ℕ) → IsWithin most l → zero_at (32 ∷ (literal_token l ++ more)) ≡ suc (length (literal_token l) + zero_at more)
literal_zero most few (Pos v) more h =
    let n : IsClauseNumber v = (omega (arith, h.0), omega (arith, few, h.1)) in
    other_zero (decimal v) more (decimal_word v n) (λ e. omega (arith, e, first_decimal v (omega (arith, h.0)) (omega (arith, few, h.1))))
literal_zero most few (Neg v) more h =
    let n : IsClauseNumber v = (omega (arith, h.0), omega (arith, few, h.1)) in
    subst (λ (t : List ℕ). zero_at (32 ∷ (t ++ more)) ≡ suc (length t + zero_at more)) (sym (negative_token v (omega (arith, h.0)))) (other_zero (45 ∷ decimal v) more (minus_word v n) (λ e. omega (arith, e)))

literals_zero : (most : ℕ) → most < 2 ^ 48 → (lits : List Literal) (more : List ℕ) → AllByRecursion (IsWithin most) lits → zero_at (flat_map literal_text lits ++ 32 ∷ 48 ∷ more) ≡ length (flat_map literal_text lits)
literals_zero most few [] more h = refl
literals_zero most few (l ∷ lits) more h =
    ap zero_at (append_assoc (literal_text l) (flat_map literal_text lits) (32 ∷ 48 ∷ more))
    ∙ literal_zero most few l (flat_map literal_text lits ++ 32 ∷ 48 ∷ more) h.0
    ∙ omega (arith, literals_zero most few lits more h.1, length-append (literal_text l) (flat_map literal_text lits))

literals_space : (lits : List Literal) (more : List ℕ) → position_or_len is_space (flat_map literal_text lits ++ 32 ∷ 48 ∷ more) ≡ 0
literals_space [] more = refl
literals_space (l ∷ lits) more = refl

-- ---- a line in three parts

pub line_parts : (id : ℕ) (lits : List Literal) (hints : List ℕ) (groups : List Group)
    → line_text id (Add id lits hints groups) ≡ decimal id ++ (flat_map literal_text lits ++ 32 ∷ 48 ∷ spaced (rest_tokens hints groups))
line_parts id lits hints groups =
    joined (decimal id) (map literal_token lits ++ codes "0" ∷ rest_tokens hints groups)
    ∙ ap (λ (x : List ℕ). decimal id ++ x) (flat_map-append (λ t. 32 ∷ t) (map literal_token lits) (codes "0" ∷ rest_tokens hints groups))
    ∙ ap (λ (x : List ℕ). decimal id ++ (x ++ 32 ∷ 48 ∷ spaced (rest_tokens hints groups))) (flat_map-map (λ t. 32 ∷ t) literal_token lits)

spaced_tokens : (ws : List (List ℕ)) → AllByRecursion IsWord ws → tokens (spaced ws) ≡ ws
spaced_tokens [] h = refl
spaced_tokens (w ∷ ws) h = tokens_blank 32 (w ++ spaced ws) refl ∙ ap tokens (sym (joined w ws)) ∙ joined_tokens w ws h

behind_zero : (id : ℕ) (lits : List Literal) (hints : List ℕ) (groups : List Group) → AllByRecursion IsWord (rest_tokens hints groups) → AllByRecursion IsClauseNumber hints → AllByRecursion IsGroup groups
    → hints_in id lits [] (line_tokens (spaced (rest_tokens hints groups))) ≡ Ok (Add id lits hints groups)
unfolding line_tokens
behind_zero id lits hints groups w h g =
    ap (λ (ws : List (List ℕ)). hints_in id lits [] (map token_of ws)) (spaced_tokens (rest_tokens hints groups) w) ∙ reasons_back id lits hints groups h g

-- where a line's literals lie
pub record AreAt (line text : List ℕ) (start mark : ℕ) (rest : List ℕ) : Type 0 where
  pub order : start ≤ mark
  pub inside : mark + 2 ≤ length line
  pub text_is : take (mark + 2 - start) (drop start line) ≡ text
  pub rest_is : drop (mark + 2) line ≡ rest

parts_at : (w s rest : List ℕ) (mark : ℕ) → mark ≡ length w + length s → AreAt (w ++ (s ++ 32 ∷ 48 ∷ rest)) (s ++ codes " 0") (length w) mark rest
parts_at w s rest mark e =
    let t : List ℕ = s ++ codes " 0" in
    let same : s ++ 32 ∷ 48 ∷ rest ≡ t ++ rest = sym (append_assoc s (codes " 0") rest) in
    let long : length t ≡ length s + 2 = length-append s (codes " 0") in
    let size : mark + 2 - length w ≡ length t = omega (arith, long, e) in
    let end : mark + 2 ≡ length (w ++ t) = omega (arith, long, e, length-append w t) in
    let whole : w ++ (s ++ 32 ∷ 48 ∷ rest) ≡ (w ++ t) ++ rest = ap (λ (x : List ℕ). w ++ x) same ∙ sym (append_assoc w t rest) in
    record {
      order = omega (arith, e);
      inside = omega (arith, end, ap length whole, length-append (w ++ t) rest);
      text_is = ap (λ (x : List ℕ). take (mark + 2 - length w) x) (drop-append_seam w (s ++ 32 ∷ 48 ∷ rest) ∙ same) ∙ ap (λ n. take n (t ++ rest)) size ∙ take-append_seam t rest;
      rest_is = ap (drop (mark + 2)) whole ∙ ap (λ n. drop n ((w ++ t) ++ rest)) end ∙ drop-append_seam (w ++ t) rest;
    }

-- ---- a line that is written

pub record IsAround (line : List ℕ) (id : ℕ) (step : Step) : Type 0 where
  pub held : Step
  pub text : List ℕ
  pub rest : List ℕ
  pub found : canonical_parts line step ≡ Some (held, text)
  pub lies : AreAt line text (position_or_len is_space line) (zero_at line) rest
  pub reads : hints_in id [] [] (line_tokens rest) ≡ Ok held

chosen : (t : Bool) (id number : ℕ) → cond t (Some id) None ≡ Some number → (t ≡ true) × (id ≡ number)
chosen true id number h = (refl, (cc))
chosen false id number h = absurd (cc)

same_step : (s t : Step) → ◌≡◌ {A = Result Step TextFault} (Ok s) (Ok t) → s ≡ t
same_step s t e = cc

only_memory : (fault : TextFault) (r : Result Step TextFault) (s : Step) → r ≡ Ok s → Fails fault r → fault ≡ NoMemory
only_memory NoMemory r s e h = refl
only_memory BadToken r s e h = absurd (cc)
only_memory LineNotEnded r s e h = absurd (cc)
only_memory MissingZero r s e h = absurd (cc)
only_memory NumberTooLarge r s e h = absurd (cc)

text_at : (most : ℕ) → most < 2 ^ 48 → (id : ℕ) (lits : List Literal) (rest : List ℕ) → IsClauseNumber id → AllByRecursion (IsWithin most) lits
    → (line : List ℕ) → line ≡ decimal id ++ (flat_map literal_text lits ++ 32 ∷ 48 ∷ rest)
    → AreAt line (literals_text lits) (position_or_len is_space line) (zero_at line) rest
text_at most few id lits rest n l line e =
    let w : List ℕ = decimal id in
    let s : List ℕ = flat_map literal_text lits in
    let ink : AllByRecursion IsInk w = (decimal_word id n).1 in
    let mark : zero_at (w ++ (s ++ 32 ∷ 48 ∷ rest)) ≡ length w + length s = word_zero w (s ++ 32 ∷ 48 ∷ rest) ink ∙ ap (λ k. length w + k) (literals_zero most few lits rest l) in
    let space : length w ≡ position_or_len is_space (w ++ (s ++ 32 ∷ 48 ∷ rest)) = sym (word_space w (s ++ 32 ∷ 48 ∷ rest) ink ∙ ap (λ k. length w + k) (literals_space lits rest) ∙ add-zero (length w)) in
    subst (λ (x : List ℕ). AreAt x (literals_text lits) (position_or_len is_space x) (zero_at x) rest) (sym e)
    (subst (λ k. AreAt (w ++ (s ++ 32 ∷ 48 ∷ rest)) (literals_text lits) k (zero_at (w ++ (s ++ 32 ∷ 48 ∷ rest))) rest) space (parts_at w s rest _ mark))

second_words : (xs ys : List (List ℕ)) → AllByRecursion IsWord (xs ++ ys) → AllByRecursion IsWord ys
second_words [] ys h = h
second_words (x ∷ xs) ys h = second_words xs ys h.1

pub around : (most : ℕ) → most < 2 ^ 48 → (line : List ℕ) (id : ℕ) (step : Step) → SpellsStepWithin most line step → Some id ≡ canonical_id line step → IsAround line id step
around most few line id (Add number lits hints groups) s e =
    let c = chosen (bytes_eq line (line_text number (Add number lits hints groups))) number id (sym e) in
    let same : line ≡ line_text number (Add number lits hints groups) = (bytes_eq-Decides line (line_text number (Add number lits hints groups))).0 c.0 in
    let h = s.limits in
    let words = step_words_within most few number (Add number lits hints groups) h.0 h in
    let own : AllByRecursion IsWord (rest_tokens hints groups) = (second_words (map literal_token lits) (codes "0" ∷ rest_tokens hints groups) words.1).1 in
    let reads = behind_zero id [] hints groups own (recursion_from_All IsClauseNumber hints h.2) (recursion_from_All IsGroup groups h.3) in
    record {
      held = Add id [] hints groups;
      text = literals_text lits;
      rest = spaced (rest_tokens hints groups);
      found = rw (c.0, c.1) refl;
      lies = text_at most few number lits (spaced (rest_tokens hints groups)) h.0 (recursion_from_All (IsWithin most) lits h.1) line (same ∙ line_parts number lits hints groups);
      reads = reads;
    }
around most few line id (Delete ids) s e = absurd (cc)

-- what is cut out of the line, and read of its rest
pub found_around : (line : List ℕ) (id : ℕ) (step : Step) (start mark : ℕ) (text rest : List ℕ) (new : Step) → IsAround line id step
    → start ≡ position_or_len is_space line → mark ≡ zero_at line → text ≡ take (mark + 2 - start) (drop start line) → rest ≡ drop (mark + 2) line
    → hints_in id [] [] (line_tokens rest) ≡ Ok new → Some (new, text) ≡ canonical_parts line step
found_around line id step start mark text rest new a s m t r h =
    let text_is : text ≡ a.text =
    t ∙ ap (λ n. take (n + 2 - start) (drop start line)) m ∙ ap (λ n. take (zero_at line + 2 - n) (drop n line)) s ∙ a.lies.text_is in
    let rest_is : rest ≡ a.rest = r ∙ ap (λ n. drop (n + 2) line) m ∙ a.lies.rest_is in
    let same : new ≡ a.held = same_step new a.held (sym h ∙ ap (λ (x : List ℕ). hints_in id [] [] (line_tokens x)) rest_is ∙ a.reads) in
    ap (λ x. Some (x, text)) same ∙ ap (λ (x : List ℕ). Some (a.held, x)) text_is ∙ sym a.found

pub fails_memory : (line : List ℕ) (id : ℕ) (step : Step) (mark : ℕ) (rest : List ℕ) (fault : TextFault) → IsAround line id step → mark ≡ zero_at line → rest ≡ drop (mark + 2) line
    → Fails fault (hints_in id [] [] (line_tokens rest)) → fault ≡ NoMemory
fails_memory line id step mark rest fault a m r h =
    let rest_is : rest ≡ a.rest = r ∙ ap (λ n. drop (n + 2) line) m ∙ a.lies.rest_is in
    only_memory fault (hints_in id [] [] (line_tokens rest)) a.held (ap (λ (x : List ℕ). hints_in id [] [] (line_tokens x)) rest_is ∙ a.reads) h

-- and one that is not
none_chosen : (t : Bool) (id : ℕ) (x : Step × List ℕ) → None ≡ cond t (Some id) None → None ≡ cond t (Some x) None
none_chosen true id x e = absurd (cc)
none_chosen false id x e = refl

pub none_around : (line : List ℕ) (step : Step) → None ≡ canonical_id line step → None ≡ canonical_parts line step
none_around line (Add id lits hints groups) e = none_chosen (bytes_eq line (line_text id (Add id lits hints groups))) id (Add id [] hints groups, literals_text lits) e
none_around line (Delete ids) e = refl

-- ---- what is written

pub line_around : (top id : ℕ) (lits : List Literal) (hints : List ℕ) (groups : List Group) (text : List ℕ) → text ≡ literals_text lits
    → decimal id ++ text ++ reasons_text hints groups ≡ line_of top (Add id lits hints groups)
line_around top id lits hints groups text e =
    ap (λ (x : List ℕ). decimal id ++ x ++ reasons_text hints groups) e
    ∙ ap (λ (x : List ℕ). x ++ reasons_text hints groups) (sym (append_assoc (decimal id) (flat_map literal_text lits) (codes " 0")))
    ∙ sym (line_addition top id lits hints groups)

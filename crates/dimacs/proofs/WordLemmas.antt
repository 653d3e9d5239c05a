-- The lines of a text and the tokens of a line.
use Rattle.std.proofs.Common.{◌≡◌, ℕ, ◌+◌, ◌-◌, ◌<◌, ◌≤◌, Bool, true, false, not, cond, eqb, List, [], ◌∷◌, Some, None, length, get_or, take, drop, refl, sym, ap, ◌∙◌, arith, one-add, add-one, add-zero, length-take, length-drop, get_or-drop, drop-cons, ⊎_elim}
use Rattle.std.specs.List.{slice_split, filter, prefix_len, position_or_len, after_first}
use Rattle.std.proofs.lemmas.Bool.{false_from_ne_true, cases_lt}
use Rattle.std.proofs.lemmas.List.{take_all, drop_all}
use Rattle.std.proofs.lemmas.List.Elements.{All-from_get_or}
use Rattle.std.proofs.lemmas.List.Sums.{passes_at_first, position_or_len_is, fails_before_first, prefix_len_stops}
use Rattle.std.proofs.lemmas.List.Splits.{slice_split-cons_yes, slice_split_first, slice_split_none}
use Rattle.memchr.specs.Find.{IsFirstByte, is_byte}
use Rattle.dimacs.specs.text.Words.{is_white, is_some_byte, words, lines}

pub words_blank : (b : ℕ) (bs : List ℕ) → is_white b ≡ true → words (b ∷ bs) ≡ words bs
unfolding words
words_blank b bs h = ap (filter is_some_byte) (slice_split-cons_yes is_white b bs h)

skip_by : (b : ℕ) (bs : List ℕ) (t : Bool) → is_white b ≡ t → words bs ≡ words (drop (prefix_len is_white bs) bs) → words (b ∷ bs) ≡ words (drop (cond t (1 + prefix_len is_white bs) 0) (b ∷ bs))
skip_by b bs true h e = words_blank b bs h ∙ e ∙ ap (λ n. words (drop n (b ∷ bs))) (sym (one-add _))
skip_by b bs false h e = refl

-- white space at the front makes no token
pub words_skip : (bs : List ℕ) → words bs ≡ words (drop (prefix_len is_white bs) bs)
words_skip [] = refl
words_skip (b ∷ bs) = skip_by b bs (is_white b) refl (words_skip bs)

pub words_nil : words [] ≡ []
unfolding words
words_nil = refl

front_is : (bs : List ℕ) → 0 < length bs → filter is_some_byte (bs ∷ []) ≡ bs ∷ []
front_is [] h = absurd (omega arith)
front_is (b ∷ bs) h = refl

front_more : (bs : List ℕ) (more : List (List ℕ)) → 0 < length bs → filter is_some_byte (bs ∷ more) ≡ bs ∷ filter is_some_byte more
front_more [] more h = absurd (omega arith)
front_more (b ∷ bs) more h = refl

rest_by : (bs : List ℕ) (m : ℕ) → length bs ≤ m → words (drop m bs) ≡ []
rest_by bs m h = rw (drop_all m bs h) words_nil

drop_at_first : (bs : List ℕ) (m : ℕ) → m ≡ position_or_len is_white bs → m < length bs → words (drop m bs) ≡ words (after_first is_white bs)
drop_at_first bs m e h =
    let lt : position_or_len is_white bs < length bs = omega arith in
    let white = passes_at_first is_white bs 0 lt in
    rw (e, drop-cons bs (position_or_len is_white bs) 0 lt) (words_blank _ _ white ∙ ap (λ n. words (drop n bs)) (sym (add-one _)))

-- the white space that ends the first token
pub words_behind : (bs : List ℕ) (m : ℕ) → m ≡ position_or_len is_white bs → m < length bs → words (drop (m + 1) bs) ≡ words (drop m bs)
words_behind bs m e h = ap (λ n. words (drop (n + 1) bs)) e ∙ sym (drop_at_first bs m e h)

-- the first token
pub words_first : (bs : List ℕ) (m : ℕ) → m ≡ position_or_len is_white bs → 0 < m → m ≤ length bs → words bs ≡ take m bs ∷ words (drop m bs)
unfolding words
words_first bs m e h top =
    ⊎_elim
    (λ (lt : m < length bs).
    let first : position_or_len is_white bs < length bs = omega arith in
    let some : 0 < length (take m bs) = omega (arith, length-take m bs) in
    let s : slice_split is_white bs ≡ take m bs ∷ slice_split is_white (after_first is_white bs) = rw e (slice_split_first is_white bs 0 first) in
    ap (filter is_some_byte) s ∙ front_more (take m bs) (slice_split is_white (after_first is_white bs)) some ∙ ap (λ ws. take m bs ∷ ws) (sym (drop_at_first bs m e lt)))
    (λ (ge : length bs ≤ m).
    let some : 0 < length bs = omega arith in
    let none : (i : ℕ) → i < length bs → is_white (get_or bs i 0) ≡ false = λ i lt. fails_before_first is_white bs i 0 (omega arith) in
    let s = slice_split_none is_white bs (All-from_get_or (λ b. is_white b ≡ false) bs 0 none) in
    ap (filter is_some_byte) s ∙ front_is bs some ∙ ap (λ ws. ws ∷ []) (sym (take_all m bs ge)) ∙ ap (λ ws. take m bs ∷ ws) (sym (rest_by bs m ge)))
    (cases_lt m (length bs))

-- no white space stands first
pub first_stays : (bs : List ℕ) (d : ℕ) → 0 < length bs → is_white (get_or bs 0 d) ≡ false → 0 < position_or_len is_white bs
first_stays [] d h e = absurd (omega arith)
first_stays (b ∷ bs) d h e = rw e (omega arith)

pub tail_is : (line : List ℕ) (n : ℕ) → take (length line - n) (drop n line) ≡ drop n line
tail_is line n = take_all (length line - n) (drop n line) (omega (arith, length-drop n line))

-- only white space
pub words_none : (line : List ℕ) (n : ℕ) → n ≡ prefix_len is_white line → length (take (length line - n) (drop n line)) ≡ 0 → words line ≡ []
words_none line n e z =
    let some : length line ≤ n = omega (arith, ap length (tail_is line n), length-drop n line) in
    words_skip line ∙ ap (λ k. words (drop k line)) (sym e) ∙ rest_by line n some

-- the first token, after white space
pub words_next : (line text a b : List ℕ) (n m : ℕ) → n ≡ prefix_len is_white line → text ≡ take (length line - n) (drop n line)
    → m ≡ position_or_len is_white text → m ≤ length text → 0 < length text → a ≡ take m text → b ≡ drop m text → words line ≡ a ∷ words b
words_next line text a b n m e f g top some p q =
    let tail : text ≡ drop n line = f ∙ tail_is line n in
    let lt : prefix_len is_white line < length line = omega (arith, ap length tail, length-drop n line) in
    let stops = prefix_len_stops is_white line 0 lt in
    let here : get_or text 0 0 ≡ get_or line (prefix_len is_white line) 0 = rw (tail, e, get_or-drop, add-zero) refl in
    let first : is_white (get_or text 0 0) ≡ false = rw here stops in
    let more : 0 < m = omega (arith, first_stays text 0 some first) in
    words_skip line ∙ ap (λ k. words (drop k line)) (sym e) ∙ ap words (sym tail) ∙ rw (p, q) (words_first text m g more top)

-- the first white space is within the text, or at its end
pub position_in : (bs : List ℕ) → position_or_len is_white bs ≤ length bs
position_in [] = omega arith
position_in (b ∷ bs) = by_white (not (is_white b)) (position_in bs) where
  by_white : (t : Bool) → position_or_len is_white bs ≤ length bs → cond t (1 + position_or_len is_white bs) 0 ≤ length (b ∷ bs)
  by_white true h = omega arith
  by_white false h = omega arith

-- no LF
pub lines_none : (text : List ℕ) → IsFirstByte (is_byte 10) text None → lines text ≡ text ∷ []
lines_none text none =
    slice_split_none (λ b. eqb b 10) text (All-from_get_or (λ b. eqb b 10 ≡ false) text 0 (λ i lt. false_from_ne_true _ (none i (omega arith) lt)))

-- the first LF
pub lines_first : (text line rest : List ℕ) (k : ℕ) → IsFirstByte (is_byte 10) text (Some k) → line ≡ take k text → rest ≡ take (length text - (k + 1)) (drop (k + 1) text) → lines text ≡ line ∷ lines rest
lines_first text line rest k found p q =
    let high : k < length text = found.0.high in
    let at : position_or_len (λ b. eqb b 10) text ≡ k = position_or_len_is (λ b. eqb b 10) text k 0 (omega arith) (λ j lt. false_from_ne_true _ (found.0.before j (omega arith) lt)) (λ _. found.1) in
    let tail : rest ≡ drop (k + 1) text = q ∙ tail_is text (k + 1) in
    let s = slice_split_first (λ b. eqb b 10) text 0 (omega arith) in
    rw (p, tail) (s ∙ ap (λ n. take n text ∷ slice_split (λ b. eqb b 10) (drop (n + 1) text)) at)

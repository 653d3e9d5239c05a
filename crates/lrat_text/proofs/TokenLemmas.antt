-- The tokens of a line.
use Rattle.std.proofs.Common.{◌≡◌, ℕ, zero, suc, ◌+◌, ◌-◌, ◌<◌, ◌≤◌, Bool, true, false, ◌&&◌, cond, eqb, List, [], ◌∷◌, length, get_or, take, drop, refl, sym, ap, ◌∙◌, arith, one-add, add-one, add-zero, length-take, length-drop, get_or-drop, drop-cons, ⊎_elim, map}
use Rattle.std.specs.List.{slice_split, filter, prefix_len, position_or_len, after_first}
use Rattle.std.specs.Option.{option_and_then}
use Rattle.std.proofs.lemmas.Bool.{cases_lt, ne_eqb}
use Rattle.std.proofs.lemmas.List.{take_all, drop_all}
use Rattle.std.proofs.lemmas.List.Elements.{All-from_get_or}
use Rattle.std.proofs.lemmas.List.Sums.{passes_at_first, fails_before_first, prefix_len_stops}
use Rattle.std.proofs.lemmas.List.Splits.{slice_split-cons_yes, slice_split_first, slice_split_none}
use Rattle.dimacs.specs.text.Words.{is_some_byte}
use Rattle.dimacs.specs.text.Numbers.{natural, number, positive, negated}
use Rattle.lrat_text.specs.declared.token.Token.{Token}
use Rattle.lrat_text.specs.declared.token.Token.TheVariants.{Letter}
use Rattle.lrat_text.specs.Grammar.{tokens}
use Rattle.lrat_text.specs.inner.Tokens.{is_space}
use Rattle.lrat_text.specs.Parser.{token_of, line_tokens, number_token}

-- ---- spaces and tokens

pub tokens_blank : (b : ℕ) (bs : List ℕ) → is_space b ≡ true → tokens (b ∷ bs) ≡ tokens bs
tokens_blank b bs h = ap (filter is_some_byte) (slice_split-cons_yes is_space b bs h)

skip_by : (b : ℕ) (bs : List ℕ) (t : Bool) → is_space b ≡ t → tokens bs ≡ tokens (drop (prefix_len is_space bs) bs) → tokens (b ∷ bs) ≡ tokens (drop (cond t (1 + prefix_len is_space bs) 0) (b ∷ bs))
skip_by b bs true h e = tokens_blank b bs h ∙ e ∙ ap (λ n. tokens (drop n (b ∷ bs))) (sym (one-add _))
skip_by b bs false h e = refl

-- spaces at the front make no token
tokens_skip : (bs : List ℕ) → tokens bs ≡ tokens (drop (prefix_len is_space bs) bs)
tokens_skip [] = refl
tokens_skip (b ∷ bs) = skip_by b bs (is_space b) refl (tokens_skip bs)

front_is : (bs : List ℕ) → 0 < length bs → filter is_some_byte (bs ∷ []) ≡ bs ∷ []
front_is [] h = absurd (omega arith)
front_is (b ∷ bs) h = refl

pub front_more : (bs : List ℕ) (more : List (List ℕ)) → 0 < length bs → filter is_some_byte (bs ∷ more) ≡ bs ∷ filter is_some_byte more
front_more [] more h = absurd (omega arith)
front_more (b ∷ bs) more h = refl

rest_by : (bs : List ℕ) (m : ℕ) → length bs ≤ m → tokens (drop m bs) ≡ []
rest_by bs m h = rw (drop_all m bs h) refl

drop_at_first : (bs : List ℕ) (m : ℕ) → m ≡ position_or_len is_space bs → m < length bs → tokens (drop m bs) ≡ tokens (after_first is_space bs)
drop_at_first bs m e h =
    let lt : position_or_len is_space bs < length bs = omega arith in
    let space = passes_at_first is_space bs 0 lt in
    ap (λ n. tokens (drop n bs)) e ∙ ap tokens (drop-cons bs (position_or_len is_space bs) 0 lt)
    ∙ tokens_blank (get_or bs (position_or_len is_space bs) 0) (drop (suc (position_or_len is_space bs)) bs) space ∙ ap (λ n. tokens (drop n bs)) (sym (add-one (position_or_len is_space bs)))

-- the space that ends the first token
pub tokens_behind : (bs : List ℕ) (m : ℕ) → m ≡ position_or_len is_space bs → m < length bs → line_tokens (drop (m + 1) bs) ≡ line_tokens (drop m bs)
unfolding line_tokens
tokens_behind bs m e h = ap (map token_of) (ap (λ n. tokens (drop (n + 1) bs)) e ∙ sym (drop_at_first bs m e h))

-- the first token
pub tokens_first : (bs : List ℕ) (m : ℕ) → m ≡ position_or_len is_space bs → 0 < m → m ≤ length bs → tokens bs ≡ take m bs ∷ tokens (drop m bs)
tokens_first bs m e h top =
    ⊎_elim
    (λ (lt : m < length bs).
    let first : position_or_len is_space bs < length bs = omega arith in
    let some : 0 < length (take m bs) = omega (arith, length-take m bs) in
    let s : slice_split is_space bs ≡ take m bs ∷ slice_split is_space (after_first is_space bs) = rw e (slice_split_first is_space bs 0 first) in
    ap (filter is_some_byte) s ∙ front_more (take m bs) (slice_split is_space (after_first is_space bs)) some ∙ ap (λ ws. take m bs ∷ ws) (sym (drop_at_first bs m e lt)))
    (λ (ge : length bs ≤ m).
    let some : 0 < length bs = omega arith in
    let none : (i : ℕ) → i < length bs → is_space (get_or bs i 0) ≡ false = λ i lt. fails_before_first is_space bs i 0 (omega arith) in
    let s = slice_split_none is_space bs (All-from_get_or (λ b. is_space b ≡ false) bs 0 none) in
    ap (filter is_some_byte) s ∙ front_is bs some ∙ ap (λ ws. ws ∷ []) (sym (take_all m bs ge)) ∙ ap (λ ws. take m bs ∷ ws) (sym (rest_by bs m ge)))
    (cases_lt m (length bs))

-- no space stands first
first_stays : (bs : List ℕ) (d : ℕ) → 0 < length bs → is_space (get_or bs 0 d) ≡ false → 0 < position_or_len is_space bs
first_stays [] d h e = absurd (omega arith)
first_stays (b ∷ bs) d h e = rw e (omega arith)

pub tail_is : (line : List ℕ) (n : ℕ) → take (length line - n) (drop n line) ≡ drop n line
tail_is line n = take_all (length line - n) (drop n line) (omega (arith, length-drop n line))

-- only spaces
pub tokens_none : (line : List ℕ) (n : ℕ) → n ≡ prefix_len is_space line → length (take (length line - n) (drop n line)) ≡ 0 → line_tokens line ≡ []
unfolding line_tokens
tokens_none line n e z =
    let some : length line ≤ n = omega (arith, ap length (tail_is line n), length-drop n line) in
    ap (map token_of) (tokens_skip line ∙ ap (λ k. tokens (drop k line)) (sym e) ∙ rest_by line n some)

-- a text after spaces, which begins with a token
tokens_next : (line text b : List ℕ) (n m : ℕ) → n ≡ prefix_len is_space line → text ≡ take (length line - n) (drop n line)
    → m ≡ position_or_len is_space text → m ≤ length text → 0 < length text → b ≡ take (length text - m) (drop m text) → tokens line ≡ take m text ∷ tokens b
tokens_next line text b n m e f g top some q =
    let tail : text ≡ drop n line = f ∙ tail_is line n in
    let lt : prefix_len is_space line < length line = omega (arith, ap length tail, length-drop n line) in
    let stops = prefix_len_stops is_space line 0 lt in
    let here : get_or text 0 0 ≡ get_or line (prefix_len is_space line) 0 = rw (tail, e, get_or-drop, add-zero) refl in
    let first : is_space (get_or text 0 0) ≡ false = rw here stops in
    let more : 0 < m = omega (arith, first_stays text 0 some first) in
    tokens_skip line ∙ ap (λ k. tokens (drop k line)) (sym e) ∙ ap tokens (sym tail) ∙ tokens_first text m g more top ∙ ap (λ r. take m text ∷ tokens r) (sym (q ∙ tail_is text m))

pub line_next : (line text b : List ℕ) (n m : ℕ) (t : Token) → t ≡ token_of (take m text) → n ≡ prefix_len is_space line → text ≡ take (length line - n) (drop n line)
    → m ≡ position_or_len is_space text → m ≤ length text → 0 < length text → b ≡ take (length text - m) (drop m text) → line_tokens line ≡ t ∷ line_tokens b
unfolding line_tokens
line_next line text b n m t is e f g top some q = ap (map token_of) (tokens_next line text b n m e f g top some q) ∙ ap (λ (x : Token). x ∷ map token_of (tokens b)) (sym is)

-- ---- what a token is

pub token_minus : (word : List ℕ) → token_of (45 ∷ word) ≡ number_token (option_and_then negated (natural word))
unfolding token_of
token_minus word = refl

pub token_letter : token_of (100 ∷ []) ≡ Letter
unfolding token_of
token_letter = refl

pub token_plus : (word : List ℕ) → (get_or word 0 0 ≡ 45 → ⊥) → (length word ≡ 1 → get_or word 0 0 ≡ 100 → ⊥) → token_of word ≡ number_token (option_and_then positive (natural word))
unfolding token_of
token_plus [] h k = refl
token_plus (b ∷ []) h k = rw (ne_eqb b 100 (k (omega arith)), ne_eqb b 45 h) refl
token_plus (b ∷ d ∷ ds) h k = by_letter (eqb b 100) (rw (ne_eqb b 45 h) refl)
  where
    by_letter : (t : Bool) → number_token (number (b ∷ d ∷ ds)) ≡ number_token (option_and_then positive (natural (b ∷ d ∷ ds)))
        → cond (t && false) Letter (number_token (number (b ∷ d ∷ ds))) ≡ number_token (option_and_then positive (natural (b ∷ d ∷ ds)))
    by_letter true e = e
    by_letter false e = e

-- a text that begins with a minus
pub first_minus : (text : List ℕ) (n : ℕ) (t : Token) → 0 < length text → get_or text 0 0 ≡ 45 → t ≡ number_token (option_and_then negated (natural (take n (take (length text - 1) (drop 1 text)))))
    → t ≡ token_of (take (n + 1) text)
first_minus [] n t some e h = absurd (omega arith)
first_minus (b ∷ bs) n t some e h =
    let rest : take (length (b ∷ bs) - 1) (drop 1 (b ∷ bs)) ≡ bs = take_all _ bs (omega arith) in
    let more : take (n + 1) (b ∷ bs) ≡ 45 ∷ take n bs = rw (add-one n, e) refl in
    h ∙ ap (λ r. number_token (option_and_then negated (natural (take n r)))) rest ∙ sym (token_minus (take n bs)) ∙ ap token_of (sym more)

-- a text that begins with a letter that stands alone
pub first_letter : (text : List ℕ) (n : ℕ) → 0 < length text → n ≡ 1 → get_or text 0 0 ≡ 100 → Letter ≡ token_of (take n text)
first_letter [] n some k e = absurd (omega arith)
first_letter (b ∷ bs) n some k e = rw (k, e) (sym token_letter)

-- a text that begins with no minus
pub first_plus : (text : List ℕ) (n : ℕ) (t : Token) → 0 < length text → n ≤ length text → (get_or text 0 0 ≡ 45 → ⊥) → (n ≡ 1 → get_or text 0 0 ≡ 100 → ⊥)
    → t ≡ number_token (option_and_then positive (natural (take n text))) → t ≡ token_of (take n text)
first_plus text zero t some top h k e = e ∙ sym (token_plus [] (λ same. absurd (omega arith)) (λ one. absurd (omega arith)))
first_plus [] (suc n) t some top h k e = absurd (omega arith)
first_plus (b ∷ bs) (suc n) t some top h k e = e ∙ sym (token_plus (b ∷ take n bs) h (λ one. k (omega (arith, length-take n bs))))

-- What is written is spelled so.
use Rattle.std.proofs.Common.{◌≡◌, ℕ, zero, suc, ◌+◌, ◌-◌, ◌*◌, ◌/◌, ◌%◌, ◌^◌, ◌<◌, ◌≤◌, true, false, eqb, List, [], ◌∷◌, ◌++◌, map, take, ℤ, pos, negsuc, nat_abs, Some, length, get_or, refl, sym, ap, ◌∙◌, arith, subst, append_assoc, append-nil, codes, decimal}
use Rattle.std.specs.Fmt.{signed_decimal}
use Rattle.std.specs.Char.{is_ascii_digit}
use Rattle.std.specs.List.{flat_map, AllByRecursion, slice_split, filter}
use Rattle.std.proofs.lemmas.Bool.{ne_eqb}
use Rattle.std.proofs.lemmas.Bool.Decides.{nat_tests}
use Rattle.std.proofs.lemmas.List.{map-append, take_all, take_more, flat_map_more}
use Rattle.std.proofs.lemmas.List.Elements.{All-from_recursion}
use Rattle.std.proofs.lemmas.List.Splits.{slice_split_at, slice_split_none}
use Rattle.std.proofs.lemmas.Fmt.{decimal_by_steps, first_decimal, decimal_nonempty, decimal_digit}
use Rattle.dimacs.specs.logic.Cnf.{Cnf, FitsIn, IsFormula}
use Rattle.dimacs.specs.logic.Limits.{Limits}
use Rattle.dimacs.specs.logic.Literal.{Clause, IsWithin, number_of}
use Rattle.dimacs.specs.text.Numbers.{number, natural, digits_from}
use Rattle.dimacs.proofs.WithinLemmas.{EachWithin, each_within}
use Rattle.dimacs.specs.text.Words.{words, words_of, lines, is_white, is_some_byte, is_comment}
use Rattle.dimacs.specs.text.Rows.{AreRows}
use Rattle.dimacs.specs.text.Grammar.{ended, AreClauses, IsHeader, SpellsWithin, literal_text, clause_text, clause_line, header_text, spelling, Begins}
use Rattle.dimacs.proofs.LiteralLemmas.{number_size}
use Rattle.dimacs.proofs.NumberLemmas.{digits_append}

-- ---- numbers

is_digit_more : (d : ℕ) → d < 10 → is_ascii_digit (48 + d) ≡ true
is_digit_more d h = grind (arith, nat_tests)

digits_one : (m d : ℕ) → d < 10 → digits_from m ((48 + d) ∷ []) ≡ Some (10 * m + d)
digits_one m d h = let e : (48 + d) - 48 ≡ d = omega arith in rw (is_digit_more d h, e) refl

decimal_value : (n : ℕ) → n < 2 ^ 64 → digits_from 0 (decimal n) ≡ Some n
decimal_value n h = decimal_by_steps (λ k ds. digits_from 0 ds ≡ Some k)
    (λ k lt. digits_one 0 k lt ∙ ap Some (omega arith))
    (λ k ds ge e. digits_append ds ((48 + k % 10) ∷ []) 0 (k / 10) e ∙ digits_one (k / 10) (k % 10) (omega arith) ∙ ap Some (omega arith)) n h

natural_is : (ds : List ℕ) (n : ℕ) → digits_from 0 ds ≡ Some n → 0 < length ds → 48 < get_or ds 0 0 → natural ds ≡ Some n
natural_is [] n e some first = absurd (omega arith)
natural_is (b ∷ []) n e some first = e
natural_is (b ∷ d ∷ ds) n e some first = rw (ne_eqb b 48 (λ same. omega arith)) e

natural_decimal : (n : ℕ) → n < 2 ^ 64 → natural (decimal n) ≡ Some n
natural_decimal zero h = decimal_digit_natural where
  decimal_digit_natural : natural (decimal 0) ≡ Some 0
  decimal_digit_natural = ap natural (decimal_digit 0 (omega arith))
natural_decimal (suc n) h = natural_is (decimal (suc n)) (suc n) (decimal_value (suc n) h) (decimal_nonempty (suc n) h) (first_decimal (suc n) (omega arith) h)

-- what stands in a number: no white space
unfoldable pub IsInk : ℕ → Type 0
IsInk b = (45 ≤ b) × (b ≤ 57)

IsDigitByte : ℕ → Type 0
IsDigitByte b = (48 ≤ b) × (b ≤ 57)

all_push : {X : Type 0} (P : X → Type 0) (xs : List X) (y : X) → AllByRecursion P xs → P y → AllByRecursion P (xs ++ y ∷ [])
all_push P [] y h p = (p, tt)
all_push P (x ∷ xs) y h p = (h.0, all_push P xs y h.1 p)

decimal_digits : (n : ℕ) → n < 2 ^ 64 → AllByRecursion IsDigitByte (decimal n)
unfolding IsDigitByte
decimal_digits n h = decimal_by_steps (λ k ds. AllByRecursion IsDigitByte ds)
    (λ k lt. ((omega arith, omega arith), tt))
    (λ k ds ge e. all_push IsDigitByte ds (48 + k % 10) e (omega arith, omega arith)) n h

digits_ink : (ds : List ℕ) → AllByRecursion IsDigitByte ds → AllByRecursion IsInk ds
unfolding IsDigitByte IsInk
digits_ink [] h = tt
digits_ink (d ∷ ds) h = ((omega (arith, h.0.0), h.0.1), digits_ink ds h.1)

number_plain : (ds : List ℕ) (n : ℕ) → natural ds ≡ Some n → AllByRecursion IsDigitByte ds → number ds ≡ Some (pos n)
unfolding IsDigitByte
number_plain [] n e h = absurd (cc)
number_plain (b ∷ bs) n e h = rw (ne_eqb b 45 (λ same. omega (arith, h.0.0)), e) refl

-- the text of a number is that number
pub number_text : (z : ℤ) → nat_abs z < 2 ^ 63 → number (signed_decimal z) ≡ Some z
number_text (pos n) h = number_plain (decimal n) n (natural_decimal n (omega arith)) (decimal_digits n (omega arith))
number_text (negsuc n) h = rw (natural_decimal (suc n) (omega arith)) refl

pub text_ink : (z : ℤ) → nat_abs z < 2 ^ 63 → AllByRecursion IsInk (signed_decimal z)
unfolding IsInk
text_ink (pos n) h = digits_ink (decimal n) (decimal_digits n (omega arith))
text_ink (negsuc n) h = ((omega arith, omega arith), digits_ink (decimal (suc n)) (decimal_digits (suc n) (omega arith)))

text_some : (z : ℤ) → nat_abs z < 2 ^ 63 → 0 < length (signed_decimal z)
text_some (pos n) h = decimal_nonempty n (omega arith)
text_some (negsuc n) h = omega arith

-- ---- tokens

ink_white : (b : ℕ) → IsInk b → is_white b ≡ false
unfolding IsInk
ink_white b h = rw (ne_eqb b 32 (λ same. omega arith), ne_eqb b 9 (λ same. omega arith), ne_eqb b 13 (λ same. omega arith), ne_eqb b 10 (λ same. omega arith)) refl

no_white : (w : List ℕ) → AllByRecursion IsInk w → AllByRecursion (λ b. is_white b ≡ false) w
no_white [] h = tt
no_white (b ∷ bs) h = (ink_white b h.0, no_white bs h.1)

front_more : (w : List ℕ) (more : List (List ℕ)) → 0 < length w → filter is_some_byte (w ∷ more) ≡ w ∷ filter is_some_byte more
front_more [] more h = absurd (omega arith)
front_more (b ∷ bs) more h = refl

words_token : (w rest : List ℕ) → AllByRecursion IsInk w → 0 < length w → words (w ++ 32 ∷ rest) ≡ w ∷ words rest
unfolding words
words_token w rest h some =
    ap (filter is_some_byte) (slice_split_at is_white w 32 rest (All-from_recursion (λ b. is_white b ≡ false) w (no_white w h)) refl)
    ∙ front_more w (slice_split is_white rest) some

words_last : (w : List ℕ) → AllByRecursion IsInk w → 0 < length w → words w ≡ w ∷ []
unfolding words
words_last w h some =
    ap (filter is_some_byte) (slice_split_none is_white w (All-from_recursion (λ b. is_white b ≡ false) w (no_white w h)))
    ∙ front_more w [] some

-- the tokens of a clause's line
pub clause_words : (vars : ℕ) (c : Clause) → vars ≤ 99999999 → AllByRecursion (IsWithin vars) c → words (clause_text c) ≡ map signed_decimal (ended c)
unfolding IsInk
clause_words vars [] v h = words_last (48 ∷ []) ((omega arith, omega arith), tt) (omega arith) ∙ ap (λ (x : List ℕ). x ∷ []) (sym (decimal_digit 0 (omega arith)))
clause_words vars (l ∷ c) v h =
    let small : nat_abs (number_of l) < 2 ^ 63 = omega (arith, number_size l, h.0.1) in
    let regroup : clause_text (l ∷ c) ≡ signed_decimal (number_of l) ++ 32 ∷ clause_text c = simp append_assoc in
    ap words regroup ∙ words_token (signed_decimal (number_of l)) (clause_text c) (text_ink (number_of l) small) (text_some (number_of l) small) ∙ ap (λ ws. signed_decimal (number_of l) ∷ ws) (clause_words vars c v h.1)

-- ---- lines

unfoldable pub IsPlain : ℕ → Type 0
IsPlain b = (b ≤ 57) × (eqb b 10 ≡ false)

all_append : {X : Type 0} (P : X → Type 0) (xs ys : List X) → AllByRecursion P xs → AllByRecursion P ys → AllByRecursion P (xs ++ ys)
all_append P [] ys h k = k
all_append P (x ∷ xs) ys h k = (h.0, all_append P xs ys h.1 k)

ink_plain : (bs : List ℕ) → AllByRecursion IsInk bs → AllByRecursion IsPlain bs
unfolding IsInk IsPlain
ink_plain [] h = tt
ink_plain (b ∷ bs) h = ((h.0.1, ne_eqb b 10 (λ same. omega (arith, h.0.0))), ink_plain bs h.1)

pub clause_plain : (vars : ℕ) (c : Clause) → vars ≤ 99999999 → AllByRecursion (IsWithin vars) c → AllByRecursion IsPlain (clause_text c)
unfolding IsPlain
clause_plain vars [] v h = ((omega arith, refl), tt)
clause_plain vars (l ∷ c) v h =
    let small : nat_abs (number_of l) < 2 ^ 63 = omega (arith, number_size l, h.0.1) in
    let regroup : clause_text (l ∷ c) ≡ signed_decimal (number_of l) ++ 32 ∷ clause_text c = simp append_assoc in
    rw regroup (all_append IsPlain (signed_decimal (number_of l)) (32 ∷ clause_text c) (ink_plain (signed_decimal (number_of l)) (text_ink (number_of l) small)) ((omega arith, refl), clause_plain vars c v h.1))

pub no_end : (l : List ℕ) → AllByRecursion IsPlain l → AllByRecursion (λ b. eqb b 10 ≡ false) l
unfolding IsPlain
no_end [] h = tt
no_end (b ∷ bs) h = (h.0.1, no_end bs h.1)

not_comment : (l : List ℕ) → AllByRecursion IsPlain l → is_comment l ≡ false
unfolding IsPlain
not_comment [] h = refl
not_comment (b ∷ bs) h = ne_eqb b 99 (λ same. omega (arith, h.0.0))

pub lines_line : (l rest : List ℕ) → AllByRecursion (λ b. eqb b 10 ≡ false) l → lines (l ++ 10 ∷ rest) ≡ l ∷ lines rest
lines_line l rest h = slice_split_at (λ b. eqb b 10) l 10 rest (All-from_recursion (λ b. eqb b 10 ≡ false) l h) refl

pub words_of_clause : (vars : ℕ) (c : Clause) → vars ≤ 99999999 → AllByRecursion (IsWithin vars) c → words_of (clause_text c) ≡ map signed_decimal (ended c)
words_of_clause vars c v h = rw (not_comment (clause_text c) (clause_plain vars c v h)) (clause_words vars c v h)

-- the tokens after the header
clauses_words : (vars : ℕ) (cs : List Clause) → vars ≤ 99999999 → EachWithin vars cs → flat_map words_of (lines (flat_map clause_line cs)) ≡ map signed_decimal (flat_map ended cs)
unfolding words
clauses_words vars [] v h = refl
clauses_words vars (c ∷ cs) v h =
    let regroup : flat_map clause_line (c ∷ cs) ≡ clause_text c ++ 10 ∷ flat_map clause_line cs = append_assoc (clause_text c) (10 ∷ []) (flat_map clause_line cs) in
    let l = lines_line (clause_text c) (flat_map clause_line cs) (no_end (clause_text c) (clause_plain vars c v h.0)) in
    ap (λ t. flat_map words_of (lines t)) regroup ∙ ap (flat_map words_of) l ∙ ap (λ ws. ws ++ flat_map words_of (lines (flat_map clause_line cs))) (words_of_clause vars c v h.0)
    ∙ ap (λ ws. map signed_decimal (ended c) ++ ws) (clauses_words vars cs v h.1) ∙ sym (map-append signed_decimal (ended c) (flat_map ended cs))

numbers_back : (zs : List ℤ) → AllByRecursion (λ z. nat_abs z < 2 ^ 63) zs → map number (map signed_decimal zs) ≡ map Some zs
numbers_back [] h = refl
numbers_back (z ∷ zs) h = rw (number_text z h.0, numbers_back zs h.1) refl

pub clause_small : (vars : ℕ) (c : Clause) → vars ≤ 99999999 → AllByRecursion (IsWithin vars) c → AllByRecursion (λ z. nat_abs z < 2 ^ 63) (ended c)
clause_small vars [] v h = (omega arith, tt)
clause_small vars (l ∷ c) v h = (omega (arith, number_size l, h.0.1), clause_small vars c v h.1)

clauses_small : (vars : ℕ) (cs : List Clause) → vars ≤ 99999999 → EachWithin vars cs → AllByRecursion (λ z. nat_abs z < 2 ^ 63) (flat_map ended cs)
clauses_small vars [] v h = tt
clauses_small vars (c ∷ cs) v h = all_append (λ z. nat_abs z < 2 ^ 63) (ended c) (flat_map ended cs) (clause_small vars c v h.0) (clauses_small vars cs v h.1)

-- ---- the header

pub words_plain : (w rest : List ℕ) → AllByRecursion (λ b. is_white b ≡ false) w → 0 < length w → words (w ++ 32 ∷ rest) ≡ w ∷ words rest
unfolding words
words_plain w rest h some = ap (filter is_some_byte) (slice_split_at is_white w 32 rest (All-from_recursion (λ b. is_white b ≡ false) w h) refl) ∙ front_more w (slice_split is_white rest) some

header_tail : Cnf → List ℕ
header_tail f = decimal f.vars ++ 32 ∷ decimal (length f.clauses)

header_split : (f : Cnf) → header_text f ≡ codes "p cnf " ++ header_tail f
unfolding header_tail
header_split f = append_assoc (codes "p cnf " ++ decimal f.vars) (32 ∷ []) (decimal (length f.clauses)) ∙ append_assoc (codes "p cnf ") (decimal f.vars) (32 ∷ decimal (length f.clauses))

header_words : (f : Cnf) → f.vars < 2 ^ 63 → length f.clauses < 2 ^ 63 → words (header_text f) ≡ codes "p" ∷ codes "cnf" ∷ decimal f.vars ∷ decimal (length f.clauses) ∷ []
unfolding header_tail
header_words f v c =
    ap words (header_split f)
    ∙ words_plain (codes "p") (codes "cnf " ++ header_tail f) (refl, tt) (omega arith)
    ∙ ap (λ ws. codes "p" ∷ ws) (words_plain (codes "cnf") (header_tail f) (refl, (refl, (refl, tt))) (omega arith)
    ∙ ap (λ ws. codes "cnf" ∷ ws) (words_token (decimal f.vars) (decimal (length f.clauses)) (text_ink (pos f.vars) v) (text_some (pos f.vars) v)
    ∙ ap (λ ws. decimal f.vars ∷ ws) (words_last (decimal (length f.clauses)) (text_ink (pos (length f.clauses)) c) (text_some (pos (length f.clauses)) c))))

header_line : (f : Cnf) → f.vars < 2 ^ 63 → length f.clauses < 2 ^ 63 → AllByRecursion (λ b. eqb b 10 ≡ false) (header_text f)
unfolding header_tail
header_line f v c =
    let front : AllByRecursion (λ b. eqb b 10 ≡ false) (codes "p cnf ") = (refl, (refl, (refl, (refl, (refl, (refl, tt)))))) in
    let vars = no_end (decimal f.vars) (ink_plain (decimal f.vars) (text_ink (pos f.vars) v)) in
    let count = no_end (decimal (length f.clauses)) (ink_plain (decimal (length f.clauses)) (text_ink (pos (length f.clauses)) c)) in
    subst (λ (t : List ℕ). AllByRecursion (λ b. eqb b 10 ≡ false) t) (sym (header_split f)) (all_append (λ b. eqb b 10 ≡ false) (codes "p cnf ") (header_tail f) front (all_append (λ b. eqb b 10 ≡ false) (decimal f.vars) (32 ∷ decimal (length f.clauses)) vars (refl, count)))

header_of : (f : Cnf) → f.vars < 2 ^ 63 → length f.clauses < 2 ^ 63 → words_of (header_text f) ≡ codes "p" ∷ codes "cnf" ∷ decimal f.vars ∷ decimal (length f.clauses) ∷ []
header_of f v c = header_words f v c

pub writing_spells : (L : Limits) (f : Cnf) → IsFormula f → FitsIn L f → SpellsWithin L (spelling f) f
writing_spells L f is fits =
    let v : f.vars < 2 ^ 63 = omega (arith, is.vars) in
    let c : length f.clauses < 2 ^ 63 = omega (arith, is.clauses) in
    let text : spelling f ≡ header_text f ++ 10 ∷ flat_map clause_line f.clauses = append_assoc (header_text f) (10 ∷ []) (flat_map clause_line f.clauses) in
    let l : lines (spelling f) ≡ header_text f ∷ lines (flat_map clause_line f.clauses) = ap lines text ∙ lines_line (header_text f) (flat_map clause_line f.clauses) (header_line f v c) in
    let head : IsHeader (codes "p" ∷ codes "cnf" ∷ decimal f.vars ∷ decimal (length f.clauses) ∷ []) f = (refl, refl, natural_decimal f.vars (omega arith), natural_decimal (length f.clauses) (omega arith)) in
    let within = each_within f.vars f.clauses is.within in
    let body : AreClauses (flat_map words_of (lines (flat_map clause_line f.clauses))) f =
    ap (map number) (clauses_words f.vars f.clauses is.vars within) ∙ numbers_back (flat_map ended f.clauses) (clauses_small f.vars f.clauses is.vars within) in
    let rows : AreRows (λ header. IsHeader header f) (λ tokens. AreClauses tokens f) (header_text f ∷ lines (flat_map clause_line f.clauses)) = rw (header_of f v c) (head, body) in
    (is, rw l rows, fits)

-- ---- what is written

-- the next item is written after those before it
pub item_more : {X : Type 0} (f : X → List ℕ) (old items : List ℕ) (xs : List X) (i : ℕ) (x d : X) → i < length xs → x ≡ get_or xs i d → items ≡ old ++ flat_map f (take i xs) → items ++ f x ≡ old ++ flat_map f (take (i + 1) xs)
item_more f old items xs i x d below is e =
    ap (λ ys. ys ++ f x) e ∙ flat_map_more f old (take i xs) x ∙ ap (λ ys. old ++ flat_map f ys) (ap (λ y. take i xs ++ y ∷ []) is ∙ sym (take_more xs i d below))

-- a clause's line, once all its literals are written
pub line_end : (old items : List ℕ) (clause : Clause) (i : ℕ) → length clause ≤ i → items ≡ old ++ flat_map literal_text (take i clause) → items ++ codes "0\n" ≡ old ++ clause_line clause
line_end old items clause i all e =
    ap (λ xs. xs ++ codes "0\n") (e ∙ ap (λ ls. old ++ flat_map literal_text ls) (take_all i clause all))
    ∙ append_assoc old (flat_map literal_text clause) (codes "0\n") ∙ ap (λ xs. old ++ xs) (sym (append_assoc (flat_map literal_text clause) (codes "0") (codes "\n")))

-- the header's line, of the numbers that stand in it
pub header_line_is : (old : List ℕ) (f : Cnf) (v c : ℕ) → v ≡ f.vars → c ≡ length f.clauses → old ++ (codes "p cnf " ++ decimal v ++ codes " " ++ decimal c ++ codes "\n") ≡ (old ++ (header_text f ++ codes "\n")) ++ []
header_line_is old f v c e g = rw (e, g) (sym (append-nil (old ++ (header_text f ++ codes "\n"))))

-- a formula's text, once all its clauses are written
pub clauses_end : (old : List ℕ) (f : Cnf) (i : ℕ) → length f.clauses ≤ i → (old ++ (header_text f ++ codes "\n")) ++ flat_map clause_line (take i f.clauses) ≡ old ++ spelling f
clauses_end old f i all = ap (λ cs. (old ++ (header_text f ++ codes "\n")) ++ flat_map clause_line cs) (take_all i f.clauses all) ∙ append_assoc old (header_text f ++ codes "\n") (flat_map clause_line f.clauses)

-- what begins with what was written begins with the old bytes
pub begins_behind : (old front rest items new : List ℕ) → items ≡ (old ++ front) ++ rest → Begins items new → Begins old new
begins_behind old front rest items new e (more, is) =
    (front ++ (rest ++ more), is ∙ ap (λ xs. xs ++ more) e ∙ append_assoc (old ++ front) rest more ∙ append_assoc old front (rest ++ more))

-- five parts that are written one after the other
pub five_parts : (old a b c d e v w x y z : List ℕ) → v ≡ old ++ a → w ≡ v ++ b → x ≡ w ++ c → y ≡ x ++ d → z ≡ y ++ e → z ≡ old ++ (a ++ b ++ c ++ d ++ e)
five_parts old a b c d e v w x y z v_is w_is x_is y_is z_is = rw (z_is, y_is, x_is, w_is, v_is) (simp append_assoc)

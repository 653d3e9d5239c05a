-- A line has the letter d if and only if it deletes, so two bytes count the lemmas.
use Rattle.std.proofs.Common.{◌≡◌, ℕ, ◌+◌, ◌-◌, ◌*◌, ◌^◌, ◌<◌, ◌≤◌, max, Bool, true, false, ◌==◌, cond, List, [], ◌∷◌, ◌++◌, map, length, codes, decimal, Contains, refl, sym, ◌∙◌, ap, subst, arith}
use Rattle.std.specs.List.{AllByRecursion, count_by, slice_split, onto_first, filter, flat_map}
use Rattle.std.proofs.lemmas.Bool.{ne_eqb, eqb-true}
use Rattle.std.proofs.lemmas.List.Elements.{recursion_from_All}
use Rattle.std.proofs.lemmas.List.Splits.{length-slice_split}
use Rattle.std.proofs.lemmas.List.Sums.{sum_by-append, sum_by-cons}
use Rattle.dimacs.specs.logic.Literal.{Literal, Pos, Neg, IsWithin}
use Rattle.dimacs.specs.logic.Rat.{Group}
use Rattle.dimacs.specs.text.Words.{is_some_byte}
use Rattle.dimacs.proofs.Members.{Contains-head, Contains-cons}
use Rattle.lrat_text.specs.Grammar.{tokens, IsClauseNumber, IsGroup, IsStepWithin, literal_token, group_tokens, step_tokens, SpellsStepWithin, LineSpellsWithin}
use Rattle.dimacs.specs.logic.Cnf.{Cnf}
use Rattle.lrat_text.specs.Log.{additions}
use Rattle.lrat_text.specs.Proof.{proof_top}
use Rattle.lrat_text.specs.inner.Tokens.{is_space}
use Rattle.lrat_text.specs.declared.step.Step.{Step}
use Rattle.lrat_text.specs.declared.step.Step.TheVariants.{Add, Delete}
use Rattle.lrat_text.proofs.NumberLemmas.{IsDigitByte, decimal_digits, negative_token}
use Rattle.lrat_trim.specs.TrimmedProof.{HasLemmas}
use Rattle.lrat_trim.specs.inner.LemmaCount.{lemmas_in}

-- how often a byte stands in a list
abbrev pub often : ℕ → List ℕ → ℕ
often c bs = count_by (λ b. b == c) bs

often_cons : (c b : ℕ) (bs : List ℕ) → often c (b ∷ bs) ≡ cond (b == c) 1 0 + often c bs
often_cons c b bs = sum_by-cons (λ x. cond (x == c) 1 0) b bs

pub often_append : (c : ℕ) (xs ys : List ℕ) → often c (xs ++ ys) ≡ often c xs + often c ys
often_append c xs ys = sum_by-append (λ x. cond (x == c) 1 0) xs ys

not_first : (c b : ℕ) (bs : List ℕ) → (b ≡ c → ⊥) → often c (b ∷ bs) ≡ often c bs
not_first c b bs other =
    let bit : Bool → ℕ = λ t. cond t 1 0 in
    let none : cond (b == c) 1 0 ≡ bit false = ap bit (ne_eqb b c other) in
    omega (arith, often_cons c b bs, none)

-- ---- letters of words

-- how many letters d the words have
abbrev letters : List (List ℕ) → ℕ
letters [] = 0
letters (w ∷ ws) = often 100 w + letters ws

letters-append : (xs ys : List (List ℕ)) → letters (xs ++ ys) ≡ letters xs + letters ys
letters-append [] ys = omega arith
letters-append (x ∷ xs) ys = let r = letters-append xs ys in omega (arith, r)

digits_plain : (ds : List ℕ) → AllByRecursion IsDigitByte ds → often 100 ds ≡ 0
digits_plain [] h = refl
digits_plain (d ∷ ds) h = not_first 100 d ds (λ same. omega (arith, h.0.1, same)) ∙ digits_plain ds h.1

decimal_plain : (n : ℕ) → IsClauseNumber n → often 100 (decimal n) ≡ 0
decimal_plain n h = digits_plain (decimal n) (decimal_digits n (omega (arith, h.1)))

minus_plain : (n : ℕ) → IsClauseNumber n → often 100 (45 ∷ decimal n) ≡ 0
minus_plain n h = not_first 100 45 (decimal n) (λ same. omega (arith, same)) ∙ decimal_plain n h

numbers_plain : (ns : List ℕ) → AllByRecursion IsClauseNumber ns → letters (map decimal ns) ≡ 0
numbers_plain [] h = refl
numbers_plain (n ∷ ns) h = omega (arith, decimal_plain n h.0, numbers_plain ns h.1)

literal_plain : (most : ℕ) → most < 2 ^ 48 → (l : Literal) → IsWithin most l → often 100 (literal_token l) ≡ 0
literal_plain most few (Pos v) h = decimal_plain v (omega (arith, h.0), omega (arith, h.1))
literal_plain most few (Neg v) h = ap (often 100) (negative_token v (omega (arith, h.0))) ∙ minus_plain v (omega (arith, h.0), omega (arith, h.1))

literals_plain : (most : ℕ) → most < 2 ^ 48 → (ls : List Literal) → AllByRecursion (IsWithin most) ls → letters (map literal_token ls) ≡ 0
literals_plain most few [] h = refl
literals_plain most few (l ∷ ls) h = omega (arith, literal_plain most few l h.0, literals_plain most few ls h.1)

groups_plain : (gs : List Group) → AllByRecursion IsGroup gs → letters (flat_map group_tokens gs) ≡ 0
groups_plain [] h = refl
groups_plain (g ∷ gs) h =
    let own = minus_plain g.0 h.0.0 in
    let hints = numbers_plain g.1 (recursion_from_All IsClauseNumber g.1 h.0.1) in
    omega (arith, letters-append (group_tokens g) (flat_map group_tokens gs), own, hints, groups_plain gs h.1)

zero_first : (ws : List (List ℕ)) → letters (codes "0" ∷ ws) ≡ letters ws
zero_first ws = let none : often 100 (codes "0") ≡ 0 = refl in omega (arith, none)

-- how many letters a step's line has
abbrev pub letters_of : Step → ℕ
letters_of (Add id lits hints groups) = 0
letters_of (Delete ids) = 1

step_letters : (most : ℕ) → most < 2 ^ 48 → (top : ℕ) (step : Step) → IsClauseNumber top → IsStepWithin most step → letters (step_tokens top step) ≡ letters_of step
step_letters most few top (Add id lits hints groups) n h =
    let literal_words = map literal_token lits in
    let hint_words = map decimal hints in
    let group_words = flat_map group_tokens groups in
    let zero = codes "0" ∷ [] in
    let first = decimal_plain id h.0 in
    let lit = literals_plain most few lits (recursion_from_All (IsWithin most) lits h.1) in
    let hint = numbers_plain hints (recursion_from_All IsClauseNumber hints h.2) in
    let group = groups_plain groups (recursion_from_All IsGroup groups h.3) in
    let rest = hint_words ++ group_words ++ zero in
    omega (
      arith,
      first,
      lit,
      hint,
      group,
      letters-append literal_words (codes "0" ∷ rest),
      zero_first rest,
      letters-append (hint_words ++ group_words) zero,
      zero_first [],
      letters-append hint_words group_words,
    )
step_letters most few top (Delete ids) n h =
    let first = decimal_plain top n in
    let id = numbers_plain ids (recursion_from_All IsClauseNumber ids h) in
    let letter : often 100 (codes "d") ≡ 1 = refl in
    omega (arith, first, letter, id, letters-append (map decimal ids) (codes "0" ∷ []), zero_first [])

-- ---- letters of a line

space_is : (b : ℕ) → is_space b ≡ true → b ≡ 100 → ⊥
space_is b e same = omega (arith, eqb-true b 32 e, same)

onto_letters : (b : ℕ) (parts : List (List ℕ)) → 0 < length parts → letters (onto_first b parts) ≡ cond (b == 100) 1 0 + letters parts
onto_letters b [] some = absurd (omega arith)
onto_letters b (w ∷ ws) some = let own = often_cons 100 b w in omega (arith, own)

part_letters : (b : ℕ) (parts : List (List ℕ)) (t : Bool) → 0 < length parts → is_space b ≡ t → letters (cond t ([] ∷ parts) (onto_first b parts)) ≡ cond (b == 100) 1 0 + letters parts
part_letters b parts true some e =
    let bit : Bool → ℕ = λ t. cond t 1 0 in
    let none : cond (b == 100) 1 0 ≡ bit false = ap bit (ne_eqb b 100 (space_is b e)) in
    omega (arith, none)
part_letters b parts false some e = onto_letters b parts some

split_letters : (line : List ℕ) → letters (slice_split is_space line) ≡ often 100 line
split_letters [] = refl
split_letters (b ∷ bs) =
    part_letters b (slice_split is_space bs) (is_space b) (omega (arith, length-slice_split is_space bs)) refl
    ∙ ap (λ n. cond (b == 100) 1 0 + n) (split_letters bs) ∙ sym (often_cons 100 b bs)

filter_letters : (ws : List (List ℕ)) → letters (filter is_some_byte ws) ≡ letters ws
filter_letters [] = refl
filter_letters ([] ∷ ws) = let r = filter_letters ws in omega (arith, r)
filter_letters ((b ∷ bs) ∷ ws) = ap (λ n. often 100 (b ∷ bs) + n) (filter_letters ws)

line_letters : (most : ℕ) → most < 2 ^ 48 → (line : List ℕ) (step : Step) → SpellsStepWithin most line step → often 100 line ≡ letters_of step
line_letters most few line step s =
    sym (split_letters line) ∙ sym (filter_letters (slice_split is_space line)) ∙ ap letters s.spelled ∙ step_letters most few s.top step s.numbered s.limits

-- ---- a text

no_end : (line : List ℕ) → ¬ (Contains line 10) → often 10 line ≡ 0
no_end [] h = refl
no_end (b ∷ bs) h = not_first 10 b bs (λ same. h (0, omega arith, same)) ∙ no_end bs (λ i. h (Contains-cons b 10 bs i))

-- one line more
one_more : (own rest : List ℕ) (n letters_own more : ℕ) → often 10 own ≡ 0 → often 100 own ≡ letters_own → often 10 rest ≡ more + often 100 rest → n + letters_own ≡ 1
    → often 10 (own ++ 10 ∷ rest) ≡ n + more + often 100 (own ++ 10 ∷ rest)
one_more own rest n letters_own more ends has later one =
    let a = often_append 10 own (10 ∷ rest) in
    let b = often_append 100 own (10 ∷ rest) in
    let c : often 10 (10 ∷ rest) ≡ 1 + often 10 rest = often_cons 10 10 rest in
    let d : often 100 (10 ∷ rest) ≡ 0 + often 100 rest = often_cons 100 10 rest in
    omega (arith, a, b, c, d, ends, has, later, one)

text_letters : (most : ℕ) → most < 2 ^ 48 → (text : List ℕ) (steps : List Step) → LineSpellsWithin most text steps → often 10 text ≡ additions steps + often 100 text
text_letters most few text [] e =
    let a : often 10 text ≡ 0 = ap (often 10) e in
    let b : often 100 text ≡ 0 = ap (often 100) e in
    omega (arith, a, b)
text_letters most few text (Add id lits hints groups ∷ steps) (own, rest, splits, one, spells, more) =
    subst (λ t. often 10 t ≡ 1 + additions steps + often 100 t) (sym splits)
    (one_more own rest 1 0 (additions steps) (no_end own one) (line_letters most few own (Add id lits hints groups) spells) (text_letters most few rest steps more) refl)
text_letters most few text (Delete ids ∷ steps) (own, rest, splits, one, spells, more) =
    subst (λ t. often 10 t ≡ additions steps + often 100 t) (sym splits)
    (let r = one_more own rest 0 1 (additions steps) (no_end own one) (line_letters most few own (Delete ids) spells) (text_letters most few rest steps more) refl in omega (arith, r))

-- the lemmas of a text that spells steps
pub lemmas_are : (F : Cnf) → F.vars ≤ 99999999 → (n : ℕ) (text : List ℕ) (steps : List Step) → LineSpellsWithin (proof_top F) text steps → n ≡ lemmas_in text → HasLemmas F n text
lemmas_are F small n text steps spells is =
    let few : max 2000000 (2 * F.vars) < 2 ^ 48 = omega arith in
    (steps, spells, omega (arith, text_letters (proof_top F) few text steps spells, is))

-- Lines with single spaces.
use Rattle.std.proofs.Common.{◌≡◌, ℕ, ◌+◌, ◌<◌, ◌≤◌, ◌^◌, Bool, true, false, not, ◌&&◌, ◌||◌, ◌==◌, cond, List, [], ◌∷◌, ◌++◌, length, map, drop, get_or, bytes_eq, codes, decimal, Some, None, if◌then◌else◌, refl, sym, ap, ◌∙◌, arith, drop-cons, add-one}
use Rattle.std.specs.List.{AllByRecursion, flat_map, filter, slice_split, onto_first, join_with_byte}
use Rattle.std.proofs.lemmas.Bool.{ne_eqb}
use Rattle.std.proofs.lemmas.Bool.Decides.{same_from_decides}
use Rattle.std.proofs.lemmas.List.{drop_all}
use Rattle.std.proofs.lemmas.List.Elements.{recursion_from_All}
use Rattle.std.proofs.lemmas.List.Splits.{join_with_byte-slice_split}
use Rattle.std.proofs.lemmas.Slice.Eq.{bytes_eq-Decides}
use Rattle.dimacs.specs.logic.Literal.{Literal, Pos, Neg, IsWithin}
use Rattle.dimacs.specs.text.Words.{is_some_byte}
use Rattle.lrat_text.specs.declared.step.Step.{Step}
use Rattle.lrat_text.specs.declared.step.Step.TheVariants.{Add, Delete}
use Rattle.lrat_text.specs.declared.token.Token.{Token}
use Rattle.lrat_text.specs.declared.token.Token.TheVariants.{Plus}
use Rattle.lrat_text.specs.Grammar.{tokens, IsClauseNumber, IsStepWithin, SpellsStepWithin, group_tokens, literal_token, step_tokens}
use Rattle.lrat_text.specs.Parser.{token_of, line_tokens}
use Rattle.lrat_text.specs.WrittenLine.{canonical_id}
use Rattle.lrat_text.specs.inner.Tokens.{begins_deletion, is_single, is_space}
use Rattle.lrat_text.proofs.LineLemmas.{IsInk, IsWord, step_words_within}
use Rattle.lrat_text.proofs.NumberLemmas.{negative_token, token_decimal, token_negated, token_zero}
use Rattle.lrat_text.proofs.TokenLemmas.{token_letter}

-- ---- byte by byte

pub single_first : (line : List ℕ) → 0 < length line → not (get_or line 0 0 == 32) && is_single (get_or line 0 0) (drop 1 line) ≡ is_single 32 line
single_first [] some = absurd (omega arith)
single_first (b ∷ bs) some = refl

pub single_next : (line : List ℕ) (i : ℕ) → i + 1 < length line
    → is_single (get_or line i 0) (drop (i + 1) line) ≡ (not (get_or line i 0 == 32) || not (get_or line (i + 1) 0 == 32)) && is_single (get_or line (i + 1) 0) (drop (i + 1 + 1) line)
single_next line i lt =
    ap (is_single (get_or line i 0)) (drop-cons line (i + 1) 0 lt)
    ∙ ap (λ n. (not (get_or line i 0 == 32) || not (get_or line (i + 1) 0 == 32)) && is_single (get_or line (i + 1) 0) (drop n line)) (sym (add-one (i + 1)))

pub single_last : (line : List ℕ) (i : ℕ) → i + 1 ≡ length line → is_single (get_or line i 0) (drop (i + 1) line) ≡ not (get_or line i 0 == 32)
single_last line i end = ap (is_single (get_or line i 0)) (drop_all (i + 1) line (omega arith))

pub ruleset single_steps = (single_first, single_next, single_last)

-- ---- such a line is its tokens with single spaces between them

both : (a b : Bool) → a && b ≡ true → (a ≡ true) × (b ≡ true)
both true b h = (refl, h)
both false b h = absurd (cc)

-- a part that has a byte
abbrev IsSome : List ℕ → Type 0
IsSome part = is_some_byte part ≡ true

-- the parts of a line, of which the first goes on after a byte that is no space
abbrev parts_behind : ℕ → List ℕ → List (List ℕ)
parts_behind before line = cond (before == 32) (slice_split is_space line) (onto_first before (slice_split is_space line))

some_onto : (x : ℕ) (parts : List (List ℕ)) → AllByRecursion IsSome parts → AllByRecursion IsSome (onto_first x parts)
some_onto x [] h = (refl, tt)
some_onto x (part ∷ parts) h = (refl, h.1)

parts_on : (before b : ℕ) (parts : List (List ℕ)) (s t : Bool) → not s || not t ≡ true
    → AllByRecursion IsSome (cond t parts (onto_first b parts))
    → AllByRecursion IsSome (cond s (cond t ([] ∷ parts) (onto_first b parts)) (onto_first before (cond t ([] ∷ parts) (onto_first b parts))))
parts_on before b parts true true h k = absurd (cc)
parts_on before b parts true false h k = k
parts_on before b parts false true h k = (refl, k)
parts_on before b parts false false h k = some_onto before (onto_first b parts) k

some_end : (before : ℕ) (s : Bool) → not s ≡ true → AllByRecursion IsSome (cond s ([] ∷ []) (onto_first before ([] ∷ [])))
some_end before true h = absurd (cc)
some_end before false h = (refl, tt)

some_parts : (before : ℕ) (line : List ℕ) → is_single before line ≡ true → AllByRecursion IsSome (parts_behind before line)
some_parts before [] h = some_end before (before == 32) h
some_parts before (b ∷ bs) h =
    let p = both (not (before == 32) || not (b == 32)) (is_single b bs) h in
    parts_on before b (slice_split is_space bs) (before == 32) (b == 32) p.0 (some_parts b bs p.1)

all_stay : (parts : List (List ℕ)) → AllByRecursion IsSome parts → filter is_some_byte parts ≡ parts
all_stay [] h = refl
all_stay (part ∷ parts) h = ap (λ b. cond b (part ∷ filter is_some_byte parts) (filter is_some_byte parts)) h.0 ∙ ap (λ (x : List (List ℕ)). part ∷ x) (all_stay parts h.1)

single_is_joined : (line : List ℕ) → is_single 32 line ≡ true → join_with_byte 32 (tokens line) ≡ line
single_is_joined line h = ap (join_with_byte 32) (all_stay (slice_split is_space line) (some_parts 32 line h)) ∙ join_with_byte-slice_split 32 line

-- ---- and what is written has single spaces

no_space : (b : ℕ) → 45 ≤ b → (b == 32) ≡ false
no_space b h = ne_eqb b 32 (λ e. omega (arith, h, e))

single_word : (before : ℕ) (w : List ℕ) → 45 ≤ before → AllByRecursion IsInk w → is_single before w ≡ true
single_word before [] h k = ap not (no_space before h)
single_word before (b ∷ bs) h k = rw (no_space before h) (single_word b bs k.0 k.1)

single_more : (before : ℕ) (w more : List ℕ) → 45 ≤ before → AllByRecursion IsInk w → is_single 32 more ≡ true → is_single before (w ++ 32 ∷ more) ≡ true
single_more before [] more h k m = rw (no_space before h) m
single_more before (b ∷ bs) more h k m = rw (no_space before h) (single_more b bs more k.0 k.1 m)

joined_is_single : (w : List ℕ) (ws : List (List ℕ)) → AllByRecursion IsWord (w ∷ ws) → is_single 32 (join_with_byte 32 (w ∷ ws)) ≡ true
joined_is_single [] ws h = absurd (omega (arith, h.0.0))
joined_is_single (b ∷ bs) [] h = rw (no_space b h.0.1.0) (single_word b bs h.0.1.0 h.0.1.1)
joined_is_single (b ∷ bs) (v ∷ ws) h = rw (no_space b h.0.1.0) (single_more b bs (join_with_byte 32 (v ∷ ws)) h.0.1.0 h.0.1.1 (joined_is_single v ws h.1))

-- a line is written for its tokens if it has single spaces
single_is_written : (line : List ℕ) (ws : List (List ℕ)) → 0 < length ws → AllByRecursion IsWord ws → tokens line ≡ ws → bytes_eq line (join_with_byte 32 ws) ≡ is_single 32 line
single_is_written line [] some h e = absurd (omega arith)
single_is_written line (w ∷ ws) some h e =
    same_from_decides (bytes_eq line (join_with_byte 32 (w ∷ ws))) (is_single 32 line) (bytes_eq-Decides line (join_with_byte 32 (w ∷ ws)))
    (λ p. sym (ap (join_with_byte 32) (sym e) ∙ single_is_joined line p), λ same. ap (is_single 32) same ∙ joined_is_single w ws h)

-- ---- the first tokens of a step

head_is : {t u : Token} {ts us : List Token} → t ∷ ts ≡ u ∷ us → t ≡ u
head_is e = cc

tail_is : {t u : Token} {ts us : List Token} → t ∷ ts ≡ u ∷ us → ts ≡ us
tail_is e = cc

-- after the number of an addition stands no letter
no_letter : (most : ℕ) → most < 2 ^ 48 → (lits : List Literal) (ws : List (List ℕ)) → AllByRecursion (IsWithin most) lits → begins_deletion (map token_of (map literal_token lits ++ codes "0" ∷ ws)) ≡ false
no_letter most few [] ws h = ap (λ t. begins_deletion (t ∷ map token_of ws)) token_zero
no_letter most few (Pos v ∷ ls) ws h =
    ap (λ t. begins_deletion (t ∷ map token_of (map literal_token ls ++ codes "0" ∷ ws))) (token_decimal v (omega (arith, h.0.0), omega (arith, few, h.0.1)))
no_letter most few (Neg v ∷ ls) ws h =
    ap (λ t. begins_deletion (t ∷ map token_of (map literal_token ls ++ codes "0" ∷ ws)))
    (ap token_of (negative_token v (omega (arith, h.0.0))) ∙ token_negated v (omega (arith, h.0.0), omega (arith, few, h.0.1)))

-- a line begins with a number, and a letter after it where it is a deletion's
pub record IsBegun (line : List ℕ) (step : Step) (first : Token) (rest : List Token) : Type 0 where
  pub number : ℕ
  pub first_is : first ≡ Plus number
  pub written : canonical_id line step ≡ (if begins_deletion rest then None else if is_single 32 line then Some number else None)

begun_by : (most : ℕ) → most < 2 ^ 48 → (line : List ℕ) (top : ℕ) (step : Step) → IsClauseNumber top → IsStepWithin most step → tokens line ≡ step_tokens top step
    → (first : Token) (rest : List Token) → map token_of (step_tokens top step) ≡ first ∷ rest → IsBegun line step first rest
begun_by most few line top (Add id lits hints groups) n h e first rest is =
    let ws : List (List ℕ) = map decimal hints ++ flat_map group_tokens groups ++ codes "0" ∷ [] in
    let first_is : first ≡ Plus id = sym (head_is is) ∙ token_decimal id h.0 in
    let rest_is : begins_deletion rest ≡ false = ap begins_deletion (sym (tail_is is)) ∙ no_letter most few lits ws (recursion_from_All (IsWithin most) lits h.1) in
    let single = single_is_written line (step_tokens id (Add id lits hints groups)) (omega arith) (step_words_within most few id (Add id lits hints groups) h.0 h) e in
    record { number = id; first_is = first_is; written = rw (rest_is, single) refl }
begun_by most few line top (Delete ids) n h e first rest is =
    let first_is : first ≡ Plus top = sym (head_is is) ∙ token_decimal top n in
    let rest_is : begins_deletion rest ≡ true = ap begins_deletion (sym (tail_is is)) ∙ ap (λ t. begins_deletion (t ∷ map token_of (map decimal ids ++ codes "0" ∷ []))) token_letter in
    record { number = top; first_is = first_is; written = rw rest_is refl }

pub begun : (most : ℕ) → most < 2 ^ 48 → (line : List ℕ) (step : Step) → SpellsStepWithin most line step → (first : Token) (rest : List Token) → line_tokens line ≡ first ∷ rest → IsBegun line step first rest
unfolding line_tokens
begun most few line step s first rest is = begun_by most few line s.top step s.numbered s.limits s.spelled first rest (ap (map token_of) (sym s.spelled) ∙ is)

none_by : (top : ℕ) (step : Step) → map token_of (step_tokens top step) ≡ [] → ⊥
none_by top (Add id lits hints groups) e = absurd (cc)
none_by top (Delete ids) e = absurd (cc)

-- no line has no token
pub some_token : (most : ℕ) (line : List ℕ) (step : Step) → SpellsStepWithin most line step → line_tokens line ≡ [] → ⊥
unfolding line_tokens
some_token most line step s none = none_by s.top step (ap (map token_of) (sym s.spelled) ∙ none)

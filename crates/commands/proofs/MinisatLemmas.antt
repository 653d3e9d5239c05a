-- The lines of an assignment, joined, have its items, a space before each.
use Rattle.std.specs.Prelude.{◌≤◌, nat_abs, nat_le}
use Rattle.std.specs.Fmt.{signed_decimal}
use Rattle.std.specs.List.{AllByRecursion}
use Rattle.std.proofs.Common.{◌≡◌, ℕ, suc, zero, ◌+◌, ◌<◌, ◌^◌, Bool, true, false, List, [], ◌∷◌, ◌++◌, map, length, drop, codes, if◌then◌else◌, refl, sym, ◌∙◌, ap, subst, arith}
use Rattle.std.proofs.lemmas.Bool.{ne_eqb}
use Rattle.std.proofs.lemmas.List.Elements.{filter-append}
use Rattle.commands.specs.Solver.{sat_text, spaced}
use Rattle.commands.specs.inner.Solver.{is_of_item, joined}
use Rattle.dimacs.specs.logic.Literal.{Literal, Pos, Neg, number_of}
use Rattle.dimacs.specs.text.Answer.{filled, satisfied_lines, true_literals, witness_items}
use Rattle.dimacs.proofs.WritingLemmas.{IsInk, text_ink}

-- an item stays as it is
IsPlain : List ℕ → Type 0
IsPlain item = joined item ≡ item

ink_stays : (byte : ℕ) → IsInk byte → is_of_item byte ≡ true
unfolding IsInk
ink_stays byte h = rw (ne_eqb byte 10 (λ same. omega (arith, h.0)), ne_eqb byte 118 (λ same. omega (arith, h.1))) refl

item_stays : (item : List ℕ) → AllByRecursion IsInk item → joined item ≡ item
item_stays [] h = refl
item_stays (byte ∷ item) h =
    let P : Bool → Type 0 = λ b. (if b then byte ∷ joined item else joined item) ≡ byte ∷ item in
    subst P (sym (ink_stays byte h.0)) (ap (λ (t : List ℕ). byte ∷ t) (item_stays item h.1))

-- the number of a literal is plain
literal_plain : (l : Literal) → nat_abs (number_of l) < 2 ^ 63 → joined (signed_decimal (number_of l)) ≡ signed_decimal (number_of l)
literal_plain l h = item_stays (signed_decimal (number_of l)) (text_ink (number_of l) h)

magnitude : (v : ℕ) → nat_abs (number_of (Neg v)) ≡ v
magnitude zero = refl
magnitude (suc n) = refl

items_plain : (v : ℕ) (values : List Bool) → v + length values < 2 ^ 63
    → AllByRecursion IsPlain (map (λ l. signed_decimal (number_of l)) (true_literals v values) ++ codes "0" ∷ [])
unfolding IsPlain
items_plain v [] h = (refl, tt)
items_plain v (true ∷ values) h = (literal_plain (Pos v) (omega (arith, h)), items_plain (v + 1) values (omega (arith, h)))
items_plain v (false ∷ values) h =
    let m = magnitude v in
    (literal_plain (Neg v) (omega (arith, h, m)), items_plain (v + 1) values (omega (arith, h)))

-- an item and what is behind it
item_more : (item more later : List ℕ) → joined item ≡ item → joined more ≡ later → joined (item ++ more) ≡ item ++ later
item_more item more later e f =
    filter-append is_of_item item more ∙ ap (λ (t : List ℕ). t ++ joined more) e ∙ ap (λ (t : List ℕ). item ++ t) f

one_filled : (fits : Bool) (item near far later : List ℕ) → joined item ≡ item → joined near ≡ later → joined far ≡ later
    → joined (if fits then codes " " ++ item ++ near else codes "\nv " ++ item ++ far) ≡ codes " " ++ item ++ later
one_filled true item near far later e f g = ap (λ (t : List ℕ). 32 ∷ t) (item_more item near later e f)
one_filled false item near far later e f g = ap (λ (t : List ℕ). 32 ∷ t) (item_more item far later e g)

joined_filled : (used : ℕ) (items : List (List ℕ)) → AllByRecursion IsPlain items → joined (filled used items) ≡ spaced items
unfolding IsPlain
joined_filled used [] h = refl
joined_filled used (item ∷ items) h =
    one_filled (nat_le (used + 1 + length item) 78) item (filled (used + 1 + length item) items) (filled (2 + length item) items) (spaced items)
    h.0 (joined_filled (used + 1 + length item) items h.1) (joined_filled (2 + length item) items h.1)

joined_answer : (values : List Bool) → length values ≤ 99999999 → joined (satisfied_lines values true) ≡ codes "s SATISFIABLE" ++ spaced (witness_items values)
joined_answer values few =
    ap (λ (t : List ℕ). codes "s SATISFIABLE" ++ t) (joined_filled 1 (witness_items values) (items_plain 1 values (omega (arith, few))))

-- MiniSat's result has what stands behind the first 14 bytes of an answer that is joined
pub result_is : (values : List Bool) (answer text : List ℕ) → length values ≤ 99999999 → answer ≡ satisfied_lines values true
    → text ≡ codes "SAT\n" ++ drop 14 (joined answer) ++ codes "\n" → text ≡ sat_text values
result_is values answer text few e is = is ∙ ap (λ (t : List ℕ). codes "SAT\n" ++ drop 14 t ++ codes "\n") (ap joined e ∙ joined_answer values few)

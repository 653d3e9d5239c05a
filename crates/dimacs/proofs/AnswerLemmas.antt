-- The items of the v lines that are left.
use Rattle.std.proofs.Common.{◌≡◌, ℕ, ◌+◌, ◌<◌, ◌≤◌, Bool, true, false, List, [], ◌∷◌, ◌++◌, length, drop, drop-cons, refl, ap, ◌∙◌, add-one, append_assoc, codes}
use Rattle.std.specs.Prelude.{if◌then◌else◌, slice_index_or, map}
use Rattle.std.proofs.lemmas.List.{drop_all}
use Rattle.std.specs.Fmt.{signed_decimal}
use Rattle.dimacs.specs.logic.Literal.{Pos, Neg, number_of}
use Rattle.dimacs.specs.text.Answer.{true_literals}
use Rattle.dimacs.specs.text.Grammar.{Begins}

-- the items of the values from variable v on
abbrev pub items_from : ℕ → List Bool → List (List ℕ)
items_from v values = map (λ l. signed_decimal (number_of l)) (true_literals v values) ++ codes "0" ∷ []

-- the item of a value comes first
first_item : (v w : ℕ) (b : Bool) (values rest : List Bool) → w ≡ v + 1 → values ≡ b ∷ rest → items_from v values ≡ signed_decimal (number_of (if b then Pos v else Neg v)) ∷ items_from w rest
first_item v w true values rest e f = rw (f, e) refl
first_item v w false values rest e f = rw (f, e) refl

-- the item of the value at i comes first
pub items_step : (values : List Bool) (i : ℕ) (d : Bool) → i < length values
    → items_from (i + 1) (drop i values) ≡ signed_decimal (number_of (if slice_index_or values i d then Pos (i + 1) else Neg (i + 1))) ∷ items_from (i + 1 + 1) (drop (i + 1) values)
items_step values i d h =
    let e : drop i values ≡ slice_index_or values i d ∷ drop (i + 1) values = rw add-one (drop-cons values i d h) in
    first_item (i + 1) (i + 1 + 1) (slice_index_or values i d) (drop i values) (drop (i + 1) values) refl e

-- after the last value
pub items_end : (values : List Bool) (i : ℕ) → length values ≤ i → items_from (i + 1) (drop i values) ≡ codes "0" ∷ []
items_end values i h = rw (drop_all i values h) refl

-- what begins with bytes that begin with others begins with those
pub begins_on : (old between new : List ℕ) → Begins old between → Begins between new → Begins old new
begins_on old between new (first, first_is) (more, is) = (first ++ more, is ∙ ap (λ xs. xs ++ more) first_is ∙ append_assoc old first more)

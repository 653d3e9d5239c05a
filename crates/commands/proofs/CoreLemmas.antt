-- The items of the f lines that are left.
use Rattle.std.proofs.Common.{◌≡◌, ℕ, ◌+◌, ◌<◌, ◌≤◌, List, [], ◌∷◌, length, drop, drop-cons, sym, ◌∙◌, ap, get_or, add-one, codes}
use Rattle.std.proofs.lemmas.List.{drop_all}
use Rattle.std.specs.Fmt.{signed_decimal}
use Rattle.dimacs.specs.logic.Literal.{Literal, number_of}
use Rattle.commands.specs.SessionLines.{core_items}

-- the item of the literal at i comes first
pub core_step : (core : List Literal) (i : ℕ) (l : Literal) → i < length core → l ≡ get_or core i l → core_items (drop i core) ≡ signed_decimal (number_of l) ∷ core_items (drop (i + 1) core)
core_step core i l below is =
    let front : drop i core ≡ get_or core i l ∷ drop (i + 1) core = rw add-one (drop-cons core i l below) in
    ap core_items front ∙ ap (λ (x : Literal). signed_decimal (number_of x) ∷ core_items (drop (i + 1) core)) (sym is)

-- after the last literal
pub core_end : (core : List Literal) (i : ℕ) → length core ≤ i → core_items (drop i core) ≡ codes "0" ∷ []
core_end core i all = let none : drop i core ≡ [] = drop_all i core all in ap core_items none

-- What holds of all parts of a list.
use Rattle.std.proofs.Common.{◌≡◌, ℕ, ◌-◌, ◌≤◌, List, [], ◌∷◌, length, take, drop, sym, subst, ◌∙◌, arith}
use Rattle.std.specs.List.{All}
use Rattle.std.proofs.lemmas.List.{drop_all, take-append-drop}
use Rattle.std.proofs.lemmas.List.Elements.{All-append, All-head, All-nil, All-tail}
use Rattle.dimacs.specs.logic.Literal.{Literal}
use Rattle.dimacs.specs.layout.Flat.{parts, ArePlaces, Fills, last_place}
use Rattle.dimacs.proofs.BuilderLemmas.{drop_on, last_cons}
use Rattle.dimacs.proofs.FormulaLemmas.{places_tail}

all_behind : (P : Literal → Type 0) (xs : List Literal) (a : ℕ) (places : List ℕ) → ArePlaces (a ∷ places) (length xs) → last_place (a ∷ places) ≡ length xs → All (All P) (parts xs (a ∷ places)) → All P (drop a xs)
all_behind P xs a [] at ends h = rw (drop_all a xs (omega (arith, ends))) (All-nil P)
all_behind P xs a (b ∷ places) at ends h =
    let low : a ≤ b = at.rise 0 (omega arith) in
    let rest : All P (drop b xs) = all_behind P xs b places (places_tail a b places (length xs) at) (sym (last_cons a b places) ∙ ends) (All-tail (All P) (take (b - a) (drop a xs)) (parts xs (b ∷ places)) h) in
    subst (All P) (take-append-drop (b - a) (drop a xs))
    (All-append P (take (b - a) (drop a xs)) (drop (b - a) (drop a xs)) (All-head (All P) (take (b - a) (drop a xs)) (parts xs (b ∷ places)) h) (rw (drop_on a b xs low) rest))

-- what holds of the literals of the parts holds of those of the list that they fill
pub all_filled : (P : Literal → Type 0) (xs : List Literal) (places : List ℕ) → Fills xs places → All (All P) (parts xs places) → All P xs
all_filled P xs [] h all = absurd (omega (arith, h.rise.some))
all_filled P xs (a ∷ places) h all =
    let begins : a ≡ 0 = h.begins in
    let there : All P (drop a xs) = all_behind P xs a places h.rise h.ends all in
    rw begins at there

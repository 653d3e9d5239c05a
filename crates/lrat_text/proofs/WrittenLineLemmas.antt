-- The line that is written for a step.
use Rattle.std.proofs.Common.{◌≡◌, ℕ, true, false, ◌+◌, ◌<◌, ◌≤◌, Some, List, [], ◌∷◌, ◌++◌, map, length, take, slice_get, refl, sym, ap, ◌∙◌, append_assoc, codes, decimal}
use Rattle.std.specs.List.{join_with_byte, flat_map}
use Rattle.std.proofs.lemmas.List.{append-nil, take_more, flat_map_more}
use Rattle.std.proofs.lemmas.List.Folds.{flat_map-map}
use Rattle.std.proofs.lemmas.Grind.{flat_map-append}
use Rattle.std.proofs.lemmas.Option.{slice_get_within, get_or_from_slice_get}
use Rattle.dimacs.specs.logic.Literal.{Literal, Pos, Neg, var_of, is_negative}
use Rattle.dimacs.specs.logic.Rat.{Group}
use Rattle.lrat_text.specs.declared.step.Step.TheVariants.{Add, Delete}
use Rattle.lrat_text.specs.Grammar.{literal_token, group_tokens}
use Rattle.lrat_text.specs.WrittenLine.{line_of}
use Rattle.lrat_text.proofs.NumberLemmas.{negative_token}
use Rattle.lrat_text.specs.inner.LineParts.{group_text, lemma_text, reasons_text, deletion_text, Begins}

-- a piece more after what was appended
pub piece_more : (old front items new piece : List ℕ) → items ≡ old ++ front → new ≡ items ++ piece → new ≡ old ++ (front ++ piece)
piece_more old front items new piece e g = g ∙ ap (λ (xs : List ℕ). xs ++ piece) e ∙ append_assoc old front piece

-- what begins with what was appended begins with the old bytes
pub begins_more : (old items new : List ℕ) → Begins old items → Begins items new → Begins old new
begins_more old items new (front, e) (more, g) = (front ++ more, piece_more old front items new more e g)

-- one group more
pub groups_more : (old : List ℕ) (groups : List Group) (i : ℕ) (g : Group) → slice_get groups i ≡ Some g
    → (old ++ flat_map group_text (take i groups)) ++ group_text g ≡ old ++ flat_map group_text (take (i + 1) groups)
groups_more old groups i g e =
    let lt : i < length groups = slice_get_within groups i g e in
    flat_map_more group_text old (take i groups) g
    ∙ ap (λ (x : Group). old ++ flat_map group_text (take i groups ++ x ∷ [])) (sym (get_or_from_slice_get groups i g g e))
    ∙ ap (λ (gs : List Group). old ++ flat_map group_text gs) (sym (take_more groups i g lt))

-- tokens after spaces
abbrev pub spaced : List (List ℕ) → List ℕ
spaced tokens = flat_map (λ t. 32 ∷ t) tokens

pub joined : (t : List ℕ) (ts : List (List ℕ)) → join_with_byte 32 (t ∷ ts) ≡ t ++ spaced ts
joined t [] = sym (append-nil t)
joined t (u ∷ ts) = ap (λ (x : List ℕ). t ++ 32 ∷ x) (joined u ts)

spaced_group : (g : Group) → spaced (group_tokens g) ≡ group_text g
spaced_group g = ap (λ (x : List ℕ). (32 ∷ 45 ∷ decimal g.0) ++ x) (flat_map-map (λ t. 32 ∷ t) decimal g.1)

spaced_groups : (gs : List Group) → spaced (flat_map group_tokens gs) ≡ flat_map group_text gs
spaced_groups [] = refl
spaced_groups (g ∷ gs) =
    flat_map-append (λ t. 32 ∷ t) (group_tokens g) (flat_map group_tokens gs)
    ∙ ap (λ (x : List ℕ). x ++ spaced (flat_map group_tokens gs)) (spaced_group g)
    ∙ ap (λ (x : List ℕ). group_text g ++ x) (spaced_groups gs)

pub line_addition : (top id : ℕ) (lits : List Literal) (hints : List ℕ) (groups : List Group)
    → line_of top (Add id lits hints groups) ≡ lemma_text id lits ++ reasons_text hints groups
line_addition top id lits hints groups =
    let a = joined (decimal id) (map literal_token lits ++ codes "0" ∷ (map decimal hints ++ flat_map group_tokens groups ++ codes "0" ∷ [])) in
    let b = flat_map-append (λ t. 32 ∷ t) (map literal_token lits) (codes "0" ∷ (map decimal hints ++ flat_map group_tokens groups ++ codes "0" ∷ [])) in
    let c = flat_map-append (λ t. 32 ∷ t) (map decimal hints ++ flat_map group_tokens groups) (codes "0" ∷ []) in
    let d = flat_map-append (λ t. 32 ∷ t) (map decimal hints) (flat_map group_tokens groups) in
    let e = flat_map-map (λ t. 32 ∷ t) literal_token lits in
    let f = flat_map-map (λ t. 32 ∷ t) decimal hints in
    rw (a, b, c, d, e, f, spaced_groups groups) (simp append_assoc)

pub line_deletion : (top : ℕ) (ids : List ℕ) → line_of top (Delete ids) ≡ deletion_text top ids
line_deletion top ids =
    let a = joined (decimal top) (codes "d" ∷ (map decimal ids ++ codes "0" ∷ [])) in
    let b = flat_map-append (λ t. 32 ∷ t) (map decimal ids) (codes "0" ∷ []) in
    let c = flat_map-map (λ t. 32 ∷ t) decimal ids in
    rw (a, b, c) (simp append_assoc)

pub ruleset lines_written = (line_addition, line_deletion)

-- a literal's token by its sign
pub minus_token : (l : Literal) → is_negative l ≡ true → 1 ≤ var_of l → literal_token l ≡ 45 ∷ decimal (var_of l)
minus_token (Pos v) h some = absurd (cc)
minus_token (Neg v) h some = negative_token v some

pub plain_token : (l : Literal) → is_negative l ≡ false → literal_token l ≡ decimal (var_of l)
plain_token (Pos v) h = refl
plain_token (Neg v) h = absurd (cc)

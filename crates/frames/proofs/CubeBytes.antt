-- The bytes of a cube, read literal by literal.
use Rattle.std.proofs.Common.{◌≡◌, ℕ, ◌^◌, ◌<◌, Bool, true, false, not, eqb, ltb, leb, List, [], ◌∷◌, ◌++◌, length, map, refl, sym, ap, subst, ◌∙◌, arith, append_assoc, length-append}
use Rattle.std.specs.Prelude.{All, nat_eq, ◌&&◌, ◌||◌}
use Rattle.std.specs.Int.{w32, to_be_bytes, cast_unsigned}
use Rattle.std.specs.List.{flat_map, AllByRecursion, IsDistinct, list_any}
use Rattle.std.proofs.lemmas.Bool.{lt-ltb, le-leb}
use Rattle.std.proofs.lemmas.List.Concat.{flat_map-cons}
use Rattle.std.proofs.lemmas.List.Elements.{recursion_from_All}
use Rattle.dimacs.specs.logic.Literal.{Literal, var_of, number_of, IsWithin}
use Rattle.frames.specs.Cubes.{IsCube, names, takes}
use Rattle.frames.specs.WireFormat.{literal_bytes}
use Rattle.frames.specs.inner.Decoder.{IsTwosComplement, SpellsNone}
use Rattle.frames.proofs.SameFields.{same_32, same_literal, word_fits, word_same}

-- what a cube has after the literals that were read
record Behind (done : List Literal) (rest : List ℕ) (cube : List Literal) : Type 0 where
  pub tail : List Literal
  pub cube_is : cube ≡ done ++ tail
  pub rest_is : rest ≡ flat_map literal_bytes tail

behind : (done : List Literal) (rest : List ℕ) (cube : List Literal) → AllByRecursion (IsWithin 2000000) done → AllByRecursion (IsWithin 2000000) cube → flat_map literal_bytes done ++ rest ≡ flat_map literal_bytes cube → Behind done rest cube
behind [] rest cube hd hc e = record { tail = cube; cube_is = refl; rest_is = e }
behind (d ∷ ds) rest [] hd hc e = absurd (let f : literal_bytes d ++ (flat_map literal_bytes ds ++ rest) ≡ [] = sym (ap (λ (x : List ℕ). x ++ rest) (flat_map-cons literal_bytes d ds) ∙ append_assoc (literal_bytes d) (flat_map literal_bytes ds) rest) ∙ e in cc)
behind (d ∷ ds) rest (c ∷ cs) hd hc e =
    let f : literal_bytes d ++ (flat_map literal_bytes ds ++ rest) ≡ literal_bytes c ++ flat_map literal_bytes cs = sym (ap (λ (x : List ℕ). x ++ rest) (flat_map-cons literal_bytes d ds) ∙ append_assoc (literal_bytes d) (flat_map literal_bytes ds) rest) ∙ e ∙ flat_map-cons literal_bytes c cs in
    let s = same_literal d c (flat_map literal_bytes ds ++ rest) (flat_map literal_bytes cs) hd.0 hc.0 f in
    let more = behind ds rest cs hd.1 hc.1 s.rest in
    record { tail = more.tail; cube_is = ap (λ l. l ∷ cs) (sym s.value) ∙ ap (λ (ls : List Literal). d ∷ ls) more.cube_is; rest_is = more.rest_is }

-- the first literal after those that were read
record Next (done : List Literal) (word : ℕ) (cube : List Literal) : Type 0 where
  pub literal : Literal
  pub tail : List Literal
  pub cube_is : cube ≡ done ++ literal ∷ tail
  pub is_word : IsTwosComplement word literal

within_at : (done : List Literal) (l : Literal) (tail : List Literal) → AllByRecursion (IsWithin 2000000) (done ++ l ∷ tail) → IsWithin 2000000 l
within_at [] l tail h = h.0
within_at (d ∷ ds) l tail h = within_at ds l tail h.1

next : (bytes : List ℕ) (done : List Literal) (rest : List ℕ) (word : ℕ) (after : List ℕ) (cube : List Literal) → bytes ≡ flat_map literal_bytes done ++ rest → IsCube done → rest ≡ to_be_bytes w32 word ++ after → word < 2 ^ 32 → IsCube cube → bytes ≡ flat_map literal_bytes cube → Next done word cube
next bytes done rest word after cube e hd r fits hc same =
    let b = behind done rest cube (recursion_from_All (IsWithin 2000000) done hd.within) (recursion_from_All (IsWithin 2000000) cube hc.within) (sym e ∙ same) in
    from b.tail b.cube_is (sym r ∙ b.rest_is)
  where
    from : (tail : List Literal) → cube ≡ done ++ tail → to_be_bytes w32 word ++ after ≡ flat_map literal_bytes tail → Next done word cube
    from [] c t = absurd cc
    from (l ∷ tail) c t =
        let within : IsWithin 2000000 l = within_at done l tail (recursion_from_All (IsWithin 2000000) (done ++ l ∷ tail) (subst (All (IsWithin 2000000)) c hc.within)) in
        let s = same_32 word (cast_unsigned w32 (number_of l)) after (flat_map literal_bytes tail) fits (word_fits l within) (t ∙ flat_map-cons literal_bytes l tail) in
        record { literal = l; tail = tail; cube_is = c; is_word = (within, sym s.value) }

pub no_literal : (bytes : List ℕ) (done : List Literal) (rest : List ℕ) (word : ℕ) (after : List ℕ) → bytes ≡ flat_map literal_bytes done ++ rest → IsCube done → rest ≡ to_be_bytes w32 word ++ after → word < 2 ^ 32 → ((l : Literal) → IsTwosComplement word l → ⊥) → SpellsNone (flat_map literal_bytes) IsCube bytes
no_literal bytes done rest word after e hd r fits none cube hc same =
    let n = next bytes done rest word after cube e hd r fits hc same in
    none n.literal n.is_word

-- each literal of a cube may be appended to the prefix before it
taken : (done : List Literal) (l : Literal) (tail : List Literal) → IsCube (done ++ l ∷ tail) → takes done l ≡ true
unfolding IsDistinct
taken done l tail cube = and_true (ltb (length done) 64) (leb (var_of l) 2000000 && not (list_any (names (var_of l)) done)) (lt-ltb _ _ (omega (arith, cube.short, length-append done (l ∷ tail)))) (and_true (leb (var_of l) 2000000) (not (list_any (names (var_of l)) done)) (le-leb _ _ (within_at done l tail (recursion_from_All (IsWithin 2000000) (done ++ l ∷ tail) cube.within)).1) (ap not (apart done l tail cube.distinct)))
  where
    and_true : (a b : Bool) → a ≡ true → b ≡ true → (a && b) ≡ true
    and_true true b p q = q
    and_true false b p q = absurd cc

    apart_at : (x : Literal) (done : List Literal) (l : Literal) (tail : List Literal) → AllByRecursion (λ y. nat_eq (var_of x) y ≡ false) (map var_of (done ++ l ∷ tail)) → eqb (var_of x) (var_of l) ≡ false
    apart_at x [] l tail h = h.0
    apart_at x (d ∷ ds) l tail h = apart_at x ds l tail h.1

    neither : (a b : Bool) → a ≡ false → b ≡ false → (a || b) ≡ false
    neither true b p q = absurd cc
    neither false b p q = q

    apart : (done : List Literal) (l : Literal) (tail : List Literal) → IsDistinct nat_eq (map var_of (done ++ l ∷ tail)) → list_any (names (var_of l)) done ≡ false
    apart [] l tail h = refl
    apart (d ∷ ds) l tail h = neither (names (var_of l) d) (list_any (names (var_of l)) ds) (apart_at d ds l tail h.0) (apart ds l tail h.1)

pub not_taken : (bytes : List ℕ) (done : List Literal) (rest : List ℕ) (word : ℕ) (after : List ℕ) (l : Literal) → bytes ≡ flat_map literal_bytes done ++ rest → IsCube done → rest ≡ to_be_bytes w32 word ++ after → word < 2 ^ 32 → IsTwosComplement word l → takes done l ≡ false → SpellsNone (flat_map literal_bytes) IsCube bytes
not_taken bytes done rest word after l e hd r fits is_word refused cube hc same =
    let n = next bytes done rest word after cube e hd r fits hc same in
    let one : n.literal ≡ l = word_same n.literal l n.is_word.0 is_word.0 (n.is_word.1 ∙ sym is_word.1) in
    let t : takes done n.literal ≡ true = taken done n.literal n.tail (subst IsCube n.cube_is hc) in
    let f : takes done l ≡ true = subst (λ x. takes done x ≡ true) one t in
    cc

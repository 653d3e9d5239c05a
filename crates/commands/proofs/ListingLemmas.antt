-- Names in a list.
use Rattle.std.specs.Prelude.{if◌then◌else◌}
use Rattle.std.proofs.Common.{◌≡◌, ◌∙◌, ◌==◌, ◌++◌, ℕ, Bool, true, false, List, [], ◌∷◌, refl, sym, ap, append_assoc}
use Rattle.commands.specs.Names.{names_behind}

pick_true : {X : Type 0} (b : Bool) (x y : X) → b ≡ true → (if b then x else y) ≡ x
pick_true true x y e = refl
pick_true false x y e = absurd (cc)

pick_false : {X : Type 0} (b : Bool) (x y : X) → b ≡ false → (if b then x else y) ≡ y
pick_false false x y e = refl
pick_false true x y e = absurd (cc)

-- a byte of a name
pub name_goes_on : (begun : List ℕ) (byte : ℕ) (rest : List ℕ) → (byte == 10) ≡ false → names_behind (begun ++ byte ∷ []) rest ≡ names_behind begun (byte ∷ rest)
name_goes_on begun byte rest e = sym (pick_false (byte == 10) (begun ∷ names_behind [] rest) (names_behind (begun ++ byte ∷ []) rest) e)

-- the end of a name
pub name_ends : (names : List (List ℕ)) (begun : List ℕ) (byte : ℕ) (rest : List ℕ) → (byte == 10) ≡ true
    → (names ++ begun ∷ []) ++ names_behind [] rest ≡ names ++ names_behind begun (byte ∷ rest)
name_ends names begun byte rest e =
    append_assoc names (begun ∷ []) (names_behind [] rest)
    ∙ ap (λ ns. names ++ ns) (sym (pick_true (byte == 10) (begun ∷ names_behind [] rest) (names_behind (begun ++ byte ∷ []) rest) e))

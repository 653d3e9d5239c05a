-- What a source has next.
use Rattle.std.specs.Prelude.{◌≡◌, ◌≤◌, ◌++◌, ℕ, List, [], ◌∷◌, take, length, Option, Some, None, refl}
use Rattle.std.specs.Io.KnownBytes.{Consumes, IsAtEnd}
use Rattle.std.proofs.Common.{suc, zero, ◌∙◌, ap, arith}
use Rattle.commands.specs.Known.{IsNext}

none_taken : (n : ℕ) (room : List ℕ) → n ≤ length room → take n room ≡ [] → n ≡ 0
none_taken zero room h e = refl
none_taken (suc n) [] h e = absurd (omega arith)
none_taken (suc n) (b ∷ room) h e = absurd (cc)

pub next_is : (a b : Option (List ℕ)) (n : ℕ) (room : List ℕ) → Consumes a b (take n room) → (n ≡ 0 → IsAtEnd b) → n ≤ length room → IsNext a (take n room)
next_is None b n room h ended within = tt
next_is (Some all) None n room h ended within = absurd h
next_is (Some all) (Some left) n room h ended within =
    (left, h, λ e. h ∙ ap (λ xs. xs ++ left) e ∙ ended (none_taken n room within e))

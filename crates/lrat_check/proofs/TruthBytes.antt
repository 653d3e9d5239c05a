-- Truth values and their bytes.
use Rattle.std.proofs.Common.{◌≡◌, ℕ, zero, suc, ◌<◌, ◌==◌, Bool, true, false, nat_lt, List, [], ◌∷◌, map, refl, ap, arith}
use Rattle.std.specs.List.{list_all}
use Rattle.std.proofs.lemmas.Bool.{ltb-true}
use Rattle.std.proofs.lemmas.List.Sums.{AllPass-from_list_all}
use Rattle.lrat_check.specs.Judgement.{value_byte}

-- a truth value is found again from its byte
pub values_back : (a : List Bool) → map (λ b. b == 1) (map value_byte a) ≡ a
values_back [] = refl
values_back (false ∷ a) = ap (λ r. false ∷ r) (values_back a)
values_back (true ∷ a) = ap (λ r. true ∷ r) (values_back a)

-- the bytes of truth values are 0 and 1
pub bytes_are_below : (a : List Bool) → list_all (λ b. nat_lt b 2) (map value_byte a) ≡ true
bytes_are_below [] = refl
bytes_are_below (false ∷ a) = bytes_are_below a
bytes_are_below (true ∷ a) = bytes_are_below a

-- bytes that are 0 and 1 are found again from their truth values
pub bytes_back : (values : List ℕ) → list_all (λ b. nat_lt b 2) values ≡ true → map value_byte (map (λ b. b == 1) values) ≡ values
bytes_back [] h = refl
bytes_back (zero ∷ values) h = ap (λ r. 0 ∷ r) (bytes_back values h)
bytes_back (suc zero ∷ values) h = ap (λ r. 1 ∷ r) (bytes_back values h)
bytes_back (suc (suc n) ∷ values) h =
    let below : suc (suc n) < 2 = ltb-true _ _ (AllPass-from_list_all (λ b. nat_lt b 2) (suc (suc n) ∷ values) h 0 0 (omega arith)) in absurd (omega arith)

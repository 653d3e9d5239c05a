-- Decimal numbers in texts.
use Rattle.std.specs.Prelude.{ℕ, suc, zero, ◌+◌, ◌-◌, ◌*◌, ◌==◌, List, [], ◌∷◌, ℤ, pos, negsuc, Option, Some, None, option_and_then, if◌then◌else◌}
use Rattle.std.specs.Char.{is_ascii_digit}
use Rattle.std.specs.Str.{byte}

-- the value of the digits bs, if digits of the value n are before them; None if a byte of bs is no digit
abbrev pub digits_from : ℕ → List ℕ → Option ℕ
digits_from n [] = Some n
digits_from n (b ∷ bs) = if is_ascii_digit b then digits_from (10 * n + (b - byte "0")) bs else None

-- the value of a number without a sign: 0, or digits of which the first is 1 to 9; None for every other word
abbrev pub natural : List ℕ → Option ℕ
natural [] = None
natural (b ∷ []) = digits_from 0 (b ∷ [])
natural (b ∷ d ∷ ds) = if b == byte "0" then None else digits_from 0 (b ∷ d ∷ ds)

-- the negation of a number above 0; None for 0
abbrev pub negated : ℕ → Option ℤ
negated zero = None
negated (suc n) = Some (negsuc n)

-- a number without a minus
abbrev pub positive : ℕ → Option ℤ
positive n = Some (pos n)

-- the value of a number, which may have a minus; None for every other word, also for -0
abbrev pub number : List ℕ → Option ℤ
number [] = None
number (b ∷ bs) = if b == byte "-" then option_and_then negated (natural bs) else option_and_then positive (natural (b ∷ bs))

-- Tokens as the code reads them.
use Rattle.std.specs.Prelude.{ℕ, length, ◌+◌, ◌^◌, ◌≤◌, ◌<◌, Bool, true, false, not, ◌&&◌, ◌||◌, ◌==◌, List, [], ◌∷◌, Option, Some, None}
use Rattle.std.specs.Borrow.{Bor}
use Rattle.lrat_text.specs.Grammar.{space}
use Rattle.lrat_text.specs.Parser.{line_tokens}
use Rattle.lrat_text.specs.declared.token.Token.{Token}
use Rattle.lrat_text.specs.declared.token.Token.TheVariants.{Letter, Zero, Plus, Minus, LargePlus, LargeMinus, Other}

-- whether a byte is the space
abbrev pub is_space : ℕ → Bool
is_space b = b == space

-- the number of a Plus or Minus token is from 1 to 2^48 - 1
abbrev pub HasNumberInRange : Token → Type 0
HasNumberInRange (Plus n) = (1 ≤ n) × (n < 2 ^ 48)
HasNumberInRange (Minus n) = (1 ≤ n) × (n < 2 ^ 48)
HasNumberInRange Letter = Unit {0}
HasNumberInRange Zero = Unit {0}
HasNumberInRange LargePlus = Unit {0}
HasNumberInRange LargeMinus = Unit {0}
HasNumberInRange Other = Unit {0}

-- the token of a number: Minus if it has a minus, otherwise Plus
abbrev pub signed_token : Bool → ℕ → Token
signed_token true n = Minus n
signed_token false n = Plus n

-- the token that was read, if any, followed by the tokens of the text after it
abbrev pub tokens_from : Option (Token × Bor (List ℕ)) → List Token
tokens_from None = []
tokens_from (Some next) = next.0 ∷ line_tokens next.1.now

-- the measure of a loop over tokens: one more than the number of bytes after the token that was read; 0 at the end of the line
abbrev pub left_len : Option (Token × Bor (List ℕ)) → ℕ
left_len None = 0
left_len (Some next) = length next.1.now + 1

-- no space is the last byte or comes after another space; before is the byte before these bytes
abbrev pub is_single : ℕ → List ℕ → Bool
is_single before [] = not (before == space)
is_single before (b ∷ bs) = (not (before == space) || not (b == space)) && is_single b bs

-- whether the first token is the letter d
abbrev pub begins_deletion : List Token → Bool
begins_deletion [] = false
begins_deletion (Letter ∷ ts) = true
begins_deletion (t ∷ ts) = false

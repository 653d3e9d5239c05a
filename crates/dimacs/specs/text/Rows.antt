-- Texts of lines of tokens, of which the first line with a token is the header: their parser, up to the first fault, and their grammar.
use Rattle.std.specs.Prelude.{◌≡◌, ℕ, ◌+◌, List, [], ◌∷◌, ◌⊎◌, Result, Ok, Err}
use Rattle.std.specs.List.{flat_map}
use Rattle.dimacs.specs.logic.Limits.{Limits}
use Rattle.dimacs.specs.text.Words.{words_of}

infixl 10 ◌>>=◌
-- the result of f for the value of an Ok; an Err stays
abbrev pub ◌>>=◌ : {A B E : Type 0} → Result A E → (A → Result B E) → Result B E
(Ok x) >>= f = f x
(Err e) >>= f = Err e

-- A format: the fault of a text without a header, the state after the header within limits, the state after a further token, and what the
-- text spells at its end. The ℕ is the number of the line, from 1; for no_header and finish it is the number of lines of the text.
pub record Format (State Value Fault : Type 0) : Type 0 where
  pub no_header : ℕ → Fault
  pub header : Limits → ℕ → List (List ℕ) → Result State Fault
  pub token : ℕ → List ℕ → State → Result State Fault
  pub finish : ℕ → State → Result Value Fault

-- the state after these tokens of a line, beginning in the state s, or the first fault
unfoldable pub read_words : {State Value Fault : Type 0} → Format State Value Fault → ℕ → List (List ℕ) → State → Result State Fault
read_words format line [] s = Ok s
read_words format line (word ∷ more) s = format.token line word s >>= read_words format line more

-- what a text spells from its first n lines, which lead to the state s, and the lines after them; or the first fault
unfoldable pub read_lines : {State Value Fault : Type 0} → Format State Value Fault → ℕ → List (List ℕ) → State → Result Value Fault
read_lines format n [] s = format.finish n s
read_lines format n (line ∷ more) s = read_words format (n + 1) (words_of line) s >>= read_lines format (n + 1) more

-- blank if there is no token, otherwise row of the tokens
abbrev pub by_tokens {ℓ} : {A : Type ℓ} → List (List ℕ) → A → (List (List ℕ) → A) → A
by_tokens [] blank row = blank
by_tokens (word ∷ more) blank row = row (word ∷ more)

-- What a text spells whose first n lines have no token and whose other lines are these, or the first fault: a line without a token is
-- skipped, and the first other line is the header.
unfoldable pub read_text : {State Value Fault : Type 0} → Format State Value Fault → Limits → ℕ → List (List ℕ) → Result Value Fault
read_text format L n [] = Err (format.no_header n)
read_text format L n (line ∷ more) = by_tokens (words_of line) (read_text format L (n + 1) more) (λ header. format.header L (n + 1) header >>= read_lines format (n + 1) more)

-- the grammar: the first line with a token is a header, and the tokens of the lines after it are a body
abbrev pub AreRows : (List (List ℕ) → Type 0) → (List (List ℕ) → Type 0) → List (List ℕ) → Type 0
AreRows IsHeader IsBody [] = ⊥
AreRows IsHeader IsBody (line ∷ more) = by_tokens (words_of line) (AreRows IsHeader IsBody more) (λ header. IsHeader header × IsBody (flat_map words_of more))

-- a call that answers this fault was expected to answer it, or the fault is a refusal of memory
abbrev pub Fails : {A Fault : Type 0} → Fault → Fault → Result A Fault → Type 0
Fails no_memory fault expected = (fault ≡ no_memory) ⊎ (expected ≡ Err fault)

-- a call has the expected result, or answers that memory was refused
abbrev pub Answers : {A Fault : Type 0} → Fault → Result A Fault → Result A Fault → Type 0
Answers no_memory (Ok x) expected = expected ≡ Ok x
Answers no_memory (Err fault) expected = Fails no_memory fault expected

-- Bytes that begin with complete numbers, and what reading skips with them.
use Rattle.std.specs.Prelude.{◌≡◌, ℕ, List, ◌++◌}
use Rattle.lrat_binary.specs.Parser.{ReaderState, StepPrefix, InStep, from_outcome, number_taken, token_of, read}

-- The bytes are those of the number n and then rest: whichever list the number belongs to, and whatever bytes follow, reading takes the
-- number n and goes on with rest.
abbrev pub StartsWithNumber : List ℕ → ℕ → List ℕ → Type 0
StartsWithNumber bytes n rest = (part : StepPrefix) (more : List ℕ) → read (InStep part 0 1) (bytes ++ more) ≡ from_outcome (number_taken part (token_of n)) (λ next. read next (rest ++ more))

-- The bytes, except rest at their end, lead the reader from the state begun to the state next and complete no step: whatever bytes more
-- follow, reading bytes ++ more from begun gives what reading rest ++ more from next gives.
abbrev pub SkipsTo : ReaderState → List ℕ → ReaderState → List ℕ → Type 0
SkipsTo begun bytes next rest = (more : List ℕ) → read begun (bytes ++ more) ≡ read next (rest ++ more)

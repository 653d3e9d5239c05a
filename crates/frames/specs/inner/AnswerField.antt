-- The field of a frame that has an answer: one byte.
use Rattle.std.specs.Prelude.{ℕ, List, [], ◌∷◌}
use Rattle.frames.specs.declared.answer.Answer.{Answer}
use Rattle.frames.specs.Answers.{answer_number}

-- an answer in a frame, in one byte
abbrev pub answer_bytes : Answer → List ℕ
answer_bytes a = answer_number a ∷ []

-- an answer is right: either one is
abbrev pub IsAnswer : Answer → Type 0
IsAnswer a = Unit {0}

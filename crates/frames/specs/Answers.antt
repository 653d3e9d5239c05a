-- Answers: the end of a worker's search, and the answer of a verdict.
use Rattle.std.specs.Prelude.{ℕ}
use Rattle.frames.specs.declared.answer.Answer.{Answer}
use Rattle.frames.specs.declared.answer.Answer.TheVariants as answers
use Rattle.frames.specs.declared.answer.Finding.{Finding}
use Rattle.frames.specs.declared.answer.Finding.TheVariants.{Refuted, Assignment}

-- the number of an answer in a frame
abbrev pub answer_number : Answer → ℕ
answer_number answers.Refuted = 1
answer_number answers.Assignment = 2

-- the answer of a finding
abbrev pub answer_of : Finding → Answer
answer_of (Refuted length) = answers.Refuted
answer_of (Assignment length) = answers.Assignment

-- the length in bytes of a finding's evidence
abbrev pub length_of : Finding → ℕ
length_of (Refuted length) = length
length_of (Assignment length) = length

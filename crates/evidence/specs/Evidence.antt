-- Evidence: the bytes that show that an answer is right. For a refutation they are the text of a proof; for an assignment one byte
-- for each variable, in rising order, 1 for true and 0 for false.
use Rattle.std.specs.Prelude.{◌≡◌, ◌≢◌, ℕ, ◌+◌, ◌≤◌, List, [], ◌++◌, map, length}
use Rattle.dimacs.specs.logic.Cnf.{Cnf}
use Rattle.frames.specs.Answers.{length_of}
use Rattle.frames.specs.declared.answer.Answer.{Answer}
use Rattle.frames.specs.declared.answer.Answer.TheVariants as answers
use Rattle.frames.specs.declared.answer.Finding.{Finding}
use Rattle.frames.specs.declared.answer.Finding.TheVariants as findings
use Rattle.lrat_check.specs.Judgement.{value_byte, IsTextOf, AreValuesOf}
use Rattle.lrat_check.specs.Verdicts.{Right}
use Rattle.lrat_check.specs.declared.verdict.Verdict.{Verdict}
use Rattle.lrat_check.specs.declared.verdict.Verdict.TheVariants.{Nothing, Model, Proof}
use Rattle.evidence.specs.declared.evidence.Evidence.{Evidence}

-- an answer with the length in bytes of its evidence
abbrev pub finding_of : Answer → ℕ → Finding
finding_of answers.Refuted n = findings.Refuted n
finding_of answers.Assignment n = findings.Assignment n

-- evidence with this announced answer and length, of which no byte has been received
abbrev pub announced : Finding → Evidence
announced finding = record { finding = finding; bytes = [] }

-- all announced bytes have been received
abbrev pub IsComplete : Evidence → Type 0
IsComplete e = length e.bytes ≡ length_of e.finding

-- the bytes from this offset on follow the bytes of e so far, and do not go beyond the announced length
pub record ComeNext (e : Evidence) (offset : ℕ) (bytes : List ℕ) : Type 0 where
  pub next : offset ≡ length e.bytes
  pub within : length e.bytes + length bytes ≤ length_of e.finding

-- the evidence with more bytes appended
abbrev pub with_bytes : Evidence → List ℕ → Evidence
with_bytes e bytes = record e { bytes = e.bytes ++ bytes }

-- the bytes, read as evidence for the answer, are this verdict
abbrev pub BearsOut : Cnf → Answer → List ℕ → Verdict → Type 0
BearsOut F answers.Refuted bytes v = IsTextOf bytes v
BearsOut F answers.Assignment bytes v = AreValuesOf F bytes v

-- the bytes, read as evidence for the answer, are the verdict v, and v is right for the formula
pub record IsRightEvidence (F : Cnf) (answer : Answer) (bytes : List ℕ) (v : Verdict) : Type 0 where
  pub bears : BearsOut F answer bytes v
  pub right : Right F v

-- the bytes, read as evidence for the answer, are no right verdict on the formula
abbrev pub IsWrongEvidence : Cnf → Answer → List ℕ → Type 0
IsWrongEvidence F answer bytes = (v : Verdict) → ¬ (IsRightEvidence F answer bytes v)

-- the announced length is wrong: an assignment has one byte for each variable; a proof may have any length
abbrev pub HasWrongLength : Cnf → Finding → Type 0
HasWrongLength F (findings.Refuted n) = ⊥
HasWrongLength F (findings.Assignment n) = n ≢ F.vars

-- the answer that a verdict is evidence for; without a verdict, `Refuted`
abbrev pub answer_in : Verdict → Answer
answer_in Nothing = answers.Refuted
answer_in (Model values) = answers.Assignment
answer_in (Proof text) = answers.Refuted

-- the bytes of a verdict's evidence; none without a verdict
abbrev pub bytes_in : Verdict → List ℕ
bytes_in Nothing = []
bytes_in (Model values) = map value_byte values
bytes_in (Proof text) = text

-- the answer that a verdict is evidence for, with the length of the evidence in bytes
abbrev pub finding_in : Verdict → Finding
finding_in v = finding_of (answer_in v) (length (bytes_in v))

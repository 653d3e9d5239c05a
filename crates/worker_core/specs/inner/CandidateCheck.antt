-- The outcome of a check of a candidate that got more bytes.
use Rattle.std.specs.Prelude.{◌≡◌, ℕ, List}
use Rattle.dimacs.specs.logic.Cnf.{Cnf}
use Rattle.frames.specs.Answers.{answer_of}
use Rattle.frames.specs.declared.answer.Answer.{Answer}
use Rattle.evidence.specs.Evidence.{ComeNext, IsComplete, with_bytes, IsRightEvidence, IsWrongEvidence}
use Rattle.worker_core.specs.inner.Invariant.{ChecksPrefix}
use Rattle.worker_core.specs.declared.candidate.Candidate.{Candidate}
use Rattle.worker_core.specs.declared.candidate_check.CandidateCheck.{CandidateCheck}
use Rattle.worker_core.specs.declared.candidate_check.CandidateCheck.TheVariants.{Incomplete, Right, Wrong, NoMemory}

-- the candidate with more bytes appended to its evidence
abbrev pub longer : Candidate → List ℕ → Candidate
longer c bytes = record c { evidence = with_bytes c.evidence bytes }

-- the Part belongs to the candidate c, and its bytes follow the bytes so far of c
pub record IsNextPartOf (c : Candidate) (session : ℕ) (part : Answer) (offset : ℕ) (bytes : List ℕ) : Type 0 where
  pub session_is : c.session ≡ session
  pub answer_is : answer_of c.evidence.finding ≡ part
  pub comes : ComeNext c.evidence offset bytes

-- The outcome of the check of the candidate c, which was `was` before the last bytes came: c is incomplete; c is complete, and is this
-- right verdict; c is complete, and is no right verdict; or memory was refused, and `was` is given back.
abbrev pub IsCheckedAs : Cnf → Candidate → Candidate → CandidateCheck → Type 0
IsCheckedAs F was c (Incomplete d checker) = (d ≡ c) × ¬ (IsComplete c.evidence) × ChecksPrefix F checker c.evidence.bytes
IsCheckedAs F was c (Right v) = IsComplete c.evidence × IsRightEvidence F (answer_of c.evidence.finding) c.evidence.bytes v
IsCheckedAs F was c Wrong = IsComplete c.evidence × IsWrongEvidence F (answer_of c.evidence.finding) c.evidence.bytes
IsCheckedAs F was c (NoMemory d checker) = (d ≡ was) × ChecksPrefix F checker was.evidence.bytes

-- if memory was refused, P holds
abbrev pub IfNoMemory : CandidateCheck → Type 0 → Type 0
IfNoMemory (NoMemory d checker) P = P
IfNoMemory (Incomplete d checker) P = Unit {0}
IfNoMemory (Right v) P = Unit {0}
IfNoMemory Wrong P = Unit {0}

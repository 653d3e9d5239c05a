-- The invariant of a worker between two events.
use Rattle.std.specs.Prelude.{◌≡◌, ℕ, ◌<◌, ◌≤◌, ◌^◌, List, length, take, Option, Some, None}
use Rattle.dimacs.specs.logic.Cnf.{Cnf}
use Rattle.cube_split.specs.Pairs.{IsBaseWith}
use Rattle.lrat_check.specs.Stream.{HasTaken}
use Rattle.lrat_check.specs.Verdicts.{Right}
use Rattle.lrat_check.specs.declared.verdict.Verdict.{Verdict}
use Rattle.frames.specs.Answers.{length_of}
use Rattle.frames.specs.declared.answer.Answer.{Answer}
use Rattle.frames.specs.declared.answer.Answer.TheVariants as answers
use Rattle.evidence.specs.Jobs.{IsOverBase}
use Rattle.worker_core.specs.declared.candidate.Candidate.{Candidate}
use Rattle.worker_core.specs.declared.proof_checker.ProofChecker.{ProofChecker}
use Rattle.worker_core.specs.declared.work.Work.{Work}
use Rattle.worker_core.specs.declared.work.Work.TheVariants.{Free, Pending, Limited, Found}

-- n is a possible length in bytes of the evidence for the answer, and fits a frame
abbrev pub IsLength : Cnf → Answer → ℕ → Type 0
IsLength F answers.Refuted n = (1 ≤ n) × (n < 2 ^ 32)
IsLength F answers.Assignment n = n ≡ F.vars

-- the noted offset, if there is one, is below n
abbrev pub IsNote : Option ℕ → ℕ → Type 0
IsNote None n = Unit {0}
IsNote (Some offset) n = offset < n

-- the cube of a pending task is over the base; a found answer is kept with evidence of a possible length
abbrev pub IsWork : Cnf → Cnf → Work → Type 0
IsWork F B Free = Unit {0}
IsWork F B (Pending name cube limit) = IsOverBase B cube
IsWork F B (Limited name) = Unit {0}
IsWork F B (Found name answer bytes noted) = IsLength F answer (length bytes) × IsNote noted (length bytes)

-- the candidate, if there is one, has at most as many bytes as were announced
abbrev pub IsCandidate : Option Candidate → Type 0
IsCandidate None = Unit {0}
IsCandidate (Some c) = length c.evidence.bytes ≤ length_of c.evidence.finding

-- the checker has taken a prefix of these bytes
pub record HasTakenPrefix (F : Cnf) (f : ProofChecker) (bytes : List ℕ) : Type 0 where
  pub within : f.taken ≤ length bytes
  pub front : HasTaken F f.stream (take f.taken bytes)

-- the checker, if there is one, has taken a prefix of these bytes
abbrev pub ChecksPrefix : Cnf → Option ProofChecker → List ℕ → Type 0
ChecksPrefix F None bytes = Unit {0}
ChecksPrefix F (Some f) bytes = HasTakenPrefix F f bytes

-- the checker, if there is one, has taken a prefix of the candidate's bytes; without a candidate there is no checker
abbrev pub ChecksCandidate : Cnf → Option ProofChecker → Option Candidate → Type 0
ChecksCandidate F checker None = checker ≡ None
ChecksCandidate F checker (Some c) = ChecksPrefix F checker c.evidence.bytes

-- the invariant: the base is the formula's with at most 64 definitions, the verdict is right for the formula, and `IsWork`, `IsCandidate`
-- and `ChecksCandidate` hold
pub record IsWorker (F : Cnf) (wanted : ℕ) (B : Cnf) (work : Work) (candidate : Option Candidate) (checker : Option ProofChecker) (verdict : Verdict) : Type 0 where
  pub base_is : IsBaseWith F wanted B
  pub few : wanted ≤ 64
  pub right : Right F verdict
  pub work_is : IsWork F B work
  pub candidate_is : IsCandidate candidate
  pub follows : ChecksCandidate F checker candidate

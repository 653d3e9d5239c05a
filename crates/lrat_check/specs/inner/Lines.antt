-- The checker of lines as a consumer of lines (TakesLines of lrat_text): what it does with one line.
use Rattle.std.specs.Prelude.{◌≡◌, ◌⊎◌, ℕ, ◌+◌, List, None}
use Rattle.lrat_check.specs.ProofFaults.{no_memory}
use Rattle.lrat_check.specs.inner.LineOutcomes.{LinePasses, LineFails}
use Rattle.lrat_check.specs.declared.line_checker.CheckFault.{CheckFault}
use Rattle.lrat_check.specs.declared.line_checker.LineChecker.{LineChecker}

-- the checker c can be given a line: it has met no fault
abbrev pub MayTake : LineChecker → Type 0
MayTake c = c.checker.fault ≡ None

-- the checker takes a line and comes from old to new, and the greatest variable that a line may have stays
abbrev pub TakesProofLine : LineChecker → List ℕ → LineChecker → Type 0
TakesProofLine old line new = LinePasses old.limit.most old.checker old.line line new.checker × (new.line ≡ old.line + 1) × (new.limit.most ≡ old.limit.most)

-- the checker old refuses a line with this fault: the line's first one, or that memory was refused
abbrev pub RefusesProofLine : LineChecker → List ℕ → LineChecker → CheckFault → Type 0
RefusesProofLine old line new fault = (fault ≡ no_memory) ⊎ LineFails old.limit.most old.checker old.line line fault

-- The first fault of a fragment: a log over a base that closes a cube.
use Rattle.std.specs.Prelude.{ℕ, Bool, false, List, Result}
use Rattle.std.specs.List.{list_all}
use Rattle.dimacs.specs.logic.Cnf.{Cnf}
use Rattle.dimacs.specs.logic.Literal.{negation, has}
use Rattle.lrat_text.specs.Log.{Cube}
use Rattle.lrat_text.specs.declared.step.Step.{Step}
use Rattle.lrat_text.specs.declared.step.Step.TheVariants.{Add, Delete}
use Rattle.lrat_check.specs.ProofFaults.{text_end}
use Rattle.lrat_check.specs.Logs.{LogState, begun, text_from}
use Rattle.lrat_check.specs.declared.line_checker.CheckFault.{CheckFault}

-- whether a step adds a clause that has only negations of literals of the cube q
abbrev pub closes : Cube → Step → Bool
closes q (Add id lits hints groups) = list_all (λ l. has q (negation l)) lits
closes q (Delete ids) = false

-- the result at the end of a fragment, whose rest follows the last LF, in the state s: nothing must follow (else 1), and the last step must
-- close the cube q (else 17)
abbrev pub fragment_end : Cube → LogState → List ℕ → Result (Unit {0}) CheckFault
fragment_end q s rest = text_end 17 (closes q s.step) s.line rest

-- the first fault of the text as a fragment that closes the cube q over the base B
abbrev pub fragment_of : Cnf → Cube → List ℕ → Result (Unit {0}) CheckFault
fragment_of B q text = text_from (fragment_end q) (begun B) text

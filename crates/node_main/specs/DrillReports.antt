-- The report of a drill.
use Rattle.std.specs.Prelude.{◌≡◌, ℕ, zero, List, ◌++◌, length, None, Result, Ok, Err, codes, decimal}
use Rattle.cube_split.specs.Pairs.{no_definitions}
use Rattle.cube_split.specs.SplitTree.{IsTreeOf}
use Rattle.dimacs.specs.declared.fault.DimacsFault.{DimacsFault}
use Rattle.dimacs.specs.logic.Cnf.{Cnf}
use Rattle.icnf.specs.Leaves.{Cube}
use Rattle.honest_cluster.specs.ClosedSchedule.{Beginning, ClosedState, new_closed}
use Rattle.node_main.specs.DrillWords.{AreDrawn}
use Rattle.node_main.specs.DrillSchedule.{HasDrilled}
use Rattle.reports.specs.Faults.{input_fault_text}
use Rattle.reports.specs.declared.report.Report.{Report}

-- `drill_text turns refused disagreements`: the line that a drill prints, with the numbers of its turns, refusals and disagreements
abbrev pub drill_text : ℕ → ℕ → ℕ → List ℕ
drill_text turns refused disagreements =
    codes "c turns " ++ decimal turns ++ codes " refused " ++ decimal refused ++ codes " disagreements " ++ decimal disagreements ++ codes "\n"

-- `drill_status refused disagreements`: the exit status of a drill: 0 if there was neither a refusal nor a disagreement, else 1
abbrev pub drill_status : ℕ → ℕ → ℕ
drill_status zero zero = 0
drill_status refused disagreements = 1

-- the report of a drill that has taken all these turns and has led the cluster from `old` to `new`: it has the drill's counts
pub record ReportsDrill (old : ClosedState) (turns : List (List ℕ)) (new : ClosedState) (r : Report) : Type 0 where
  pub drilled : HasDrilled old turns new
  pub text : r.stdout.items ≡ drill_text (length turns) drilled.last.refused drilled.last.disagreements
  pub status : r.status ≡ drill_status drilled.last.refused drilled.last.disagreements
  pub proof : r.proof ≡ None

-- the report of a drill of this many turns in which nothing was refused and no verdicts differed
pub record IsCalm (turns : ℕ) (r : Report) : Type 0 where
  pub text : r.stdout.items ≡ drill_text turns 0 0
  pub status : r.status ≡ 0
  pub proof : r.proof ≡ None

-- how a drilled cluster begins, with this formula and tree: three workers, a limit of 1,000, and no definitions
abbrev pub beginning : Cnf → List Cube → Beginning
beginning F cubes = record { formula = F; definitions = no_definitions; tree = cubes; limit = 1000; workers = 3 }

-- the report of a drill of a formula: of a cluster of three workers, with the tree of depth 2 and the limit 1,000, by the words of the
-- seed, three for each turn; nothing was refused, and no verdicts differed
pub record DrillsFormula (F : Cnf) (seed turns : ℕ) (r : Report) : Type 0 where
  pub cubes : List Cube
  pub tree : IsTreeOf F 2 cubes
  pub words : List (List ℕ)
  pub drawn : AreDrawn seed turns words
  pub last : ClosedState
  pub reports : ReportsDrill (new_closed (beginning F cubes)) words last r
  pub calm : IsCalm turns r

-- the report of an input that has this fault
pub record IsFaultReport (f : DimacsFault) (r : Report) : Type 0 where
  pub text : r.stdout.items ≡ input_fault_text f
  pub status : r.status ≡ 1
  pub proof : r.proof ≡ None

-- `DrillsInput parsed seed turns report`: the report of a drill of an input, which spells a formula or has a fault
abbrev pub DrillsInput : Result Cnf DimacsFault → ℕ → ℕ → Report → Type 0
DrillsInput (Ok F) seed turns r = DrillsFormula F seed turns r
DrillsInput (Err f) seed turns r = IsFaultReport f r

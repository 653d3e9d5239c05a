-- The report of a proof that was elaborated, or has a fault.
use Rattle.std.specs.Prelude.{ℕ, List, ◌++◌, Option, Some, None, Result, Ok, Err, codes, decimal}
use Rattle.drat_forms.specs.declared.form.Form.{Form}
use Rattle.drat_forms.specs.declared.form.Form.TheVariants.{Text, Binary}
use Rattle.drat_elaborate.specs.Faults.{fault_number}
use Rattle.drat_elaborate.specs.declared.elaborator.Elaborated.{Elaborated}
use Rattle.drat_elaborate.specs.declared.elaborator.Statistics.{Statistics}
use Rattle.drat_elaborate.specs.declared.fault.ElaborationFault.{ElaborationFault}
use Rattle.reports.specs.Faults.{step_fault_text}

-- the line that tells which form the DRAT proof was taken to have
abbrev pub form_text : Form → List ℕ
form_text Text = codes "c a text\n"
form_text Binary = codes "c in binary form\n"

-- the line with the numbers of lemmas, and of those that are RAT
abbrev pub lemmas_text : Statistics → List ℕ
lemmas_text s = codes "c " ++ decimal s.lemmas ++ codes " lemmas, " ++ decimal s.rats ++ codes " of them RAT\n"

-- the line with the numbers of deletions that were passed over: of clauses that were not there, and of those that are unit at the root
abbrev pub deletions_text : Statistics → List ℕ
deletions_text s = codes "c " ++ decimal s.unknown ++ codes " deletions of no clause, " ++ decimal s.kept ++ codes " of unit clauses\n"

-- the lines that are printed
abbrev pub elaboration_text : Result Elaborated ElaborationFault → List ℕ
elaboration_text (Ok e) = codes "s VERIFIED\n" ++ form_text e.statistics.form ++ lemmas_text e.statistics ++ deletions_text e.statistics
elaboration_text (Err fault) = codes "s NOT VERIFIED\nc " ++ step_fault_text fault.step (fault_number fault.kind)

-- the text of the LRAT proof; none after a fault
abbrev pub elaborated_text : Result Elaborated ElaborationFault → Option (List ℕ)
elaborated_text (Ok e) = Some e.text
elaborated_text (Err fault) = None

-- The report of a proof that was trimmed, or has a fault.
use Rattle.std.specs.Prelude.{ℕ, Bool, true, false, List, ◌++◌, Option, Some, None, Result, Ok, Err, codes, decimal}
use Rattle.lrat_check.specs.declared.line_checker.CheckFault.{CheckFault}
use Rattle.reports.specs.Faults.{fault_text, step_fault_text}
use Rattle.lrat_trim.specs.declared.trimmer.Trimmed.{Trimmed}

-- the line with the number of lemmas that were kept, and of how many
abbrev pub lemmas_text : ℕ → ℕ → List ℕ
lemmas_text kept all = codes "c " ++ decimal kept ++ codes " of " ++ decimal all ++ codes " lemmas\n"

-- the lines that are printed after trimming a text (`false`), or a proof in binary form (`true`), whose faults are reported by step
abbrev pub trim_text : Bool → Result Trimmed CheckFault → List ℕ
trim_text binary (Ok t) = codes "s VERIFIED\n" ++ lemmas_text t.kept t.all
trim_text false (Err fault) = codes "s NOT VERIFIED\nc " ++ fault_text fault.line fault.number
trim_text true (Err fault) = codes "s NOT VERIFIED\nc " ++ step_fault_text fault.line fault.number

-- the text of the trimmed proof; none after a fault
abbrev pub trimmed_text : Result Trimmed CheckFault → Option (List ℕ)
trimmed_text (Ok t) = Some t.text
trimmed_text (Err fault) = None

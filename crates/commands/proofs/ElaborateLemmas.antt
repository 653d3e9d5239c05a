-- A DRAT proof that is elaborated, and the report.
use Rattle.std.specs.Prelude.{◌≡◌, ◌≢◌, ℕ, List, Option, Some, None, Result, Ok, Err, IfOk, OnOk, is_ok, if◌then◌else◌}
use Rattle.std.proofs.Common.{inl, inr}
use Rattle.commands.specs.Elaborate.{Elaborates, TellsElaboration}
use Rattle.commands.specs.Known.{HoldsOf}
use Rattle.commands.proofs.OfLemmas.{of_map}
use Rattle.commands.proofs.TrimLemmas.{fails_is}
use Rattle.dimacs.specs.logic.Cnf.{Cnf}
use Rattle.dimacs.specs.logic.Limits.{Limits}
use Rattle.dimacs.specs.text.Parser.{no_memory as no_input_memory, parse_within}
use Rattle.dimacs.specs.text.Rows.{Fails}
use Rattle.dimacs.specs.declared.fault.DimacsFault.{DimacsFault}
use Rattle.drat_elaborate.specs.Reports.{elaborated_text, elaboration_text}
use Rattle.drat_elaborate.specs.declared.elaborator.Elaborated.{Elaborated}
use Rattle.drat_elaborate.specs.declared.fault.ElaborationFault.{ElaborationFault}
use Rattle.leaves.specs.Leaf.{Prints}
use Rattle.lrat_text.specs.Proof.{Accepts}
use Rattle.reports.specs.Faults.{input_fault_text}
use Rattle.reports.specs.declared.report.Report.{Report}

-- what holds of some bytes and does not speak of them holds
pub of_same : {P : Type 0} (k : Option (List ℕ)) → HoldsOf k (λ _. P) → P
of_same None h = h.1
of_same (Some bytes) h = h

-- the report of what came of an elaboration
pub tells_of : {E : Type 0} (F : Cnf) (found : Result Elaborated ElaborationFault) (result : Result Report E) → IfOk found (λ e. Accepts F e.text)
    → IfOk result (λ r. r.stdout.items ≡ elaboration_text found) → IfOk result (λ r. r.status ≡ (if is_ok found then 0 else 1)) → IfOk result (λ r. r.proof ≡ elaborated_text found)
    → IfOk result (TellsElaboration F)
tells_of F found (Ok r) accepted text status proof = record {
  found = found;
  accepted = accepted;
  text = text;
  status = status;
  proof = proof;
}
tells_of F found (Err e) accepted text status proof = tt

-- the report of an input with a fault
pub input_refused : {E : Type 0} (L : Limits) (known : Option (List ℕ)) (fault : DimacsFault) (result : Result Report E) → HoldsOf known (λ text. Fails no_input_memory fault (parse_within L text))
    → IfOk result (Prints 1 (input_fault_text fault)) → OnOk result (fault ≢ no_input_memory) → IfOk result (λ r. HoldsOf known (λ text. Elaborates L text r))
input_refused L known fault (Ok r) h prints other =
    of_map (λ text. Fails no_input_memory fault (parse_within L text)) (λ text. Elaborates L text r) known
    (λ text fails. inl (fault, fails_is L fault text fails other, prints)) h
input_refused L known fault (Err e) h prints other = tt

-- What is told of a solver's answer.
use Rattle.std.specs.Prelude.{◌≡◌, ◌≢◌, ◌⊎◌, ◌↔◌, ℕ, List, Option, None, Result, Ok, Err, IfOk, OnOk}
use Rattle.std.proofs.Common.{sym, ◌∙◌, ap, subst, inl, inr}
use Rattle.answers.specs.Grammar.{Verifies}
use Rattle.answers.specs.Reports.{IsModelReport}
use Rattle.answers.specs.declared.report.ModelReport.{ModelReport}
use Rattle.commands.specs.FormulaTree.{RefusesInput}
use Rattle.commands.specs.Known.{HoldsOf}
use Rattle.commands.specs.Model.{Tests, TestsAnswer}
use Rattle.commands.proofs.OfLemmas.{of_map}
use Rattle.dimacs.specs.logic.Cnf.{Cnf}
use Rattle.dimacs.specs.logic.Limits.{Limits}
use Rattle.dimacs.specs.text.Parser.{no_memory, parse_within}
use Rattle.dimacs.specs.text.Rows.{Fails}
use Rattle.dimacs.specs.declared.fault.DimacsFault.{DimacsFault}
use Rattle.leaves.specs.Leaf.{Prints}
use Rattle.reports.specs.Faults.{input_fault_text}
use Rattle.reports.specs.declared.refusal.Refusal.{Refusal}
use Rattle.reports.specs.declared.report.Report.{Report}

tests_so : (F : Cnf) (answer : List ℕ) (m : ModelReport) (r : Report) → IsModelReport F answer m
    → r.stdout.items ≡ m.text.items → r.status ≡ m.status → r.proof ≡ None → Tests F answer r
tests_so F answer m r h text status proof =
    let Verified : ℕ → Type 0 = λ s. (s ≡ 0) ↔ Verifies answer F in
    record {
      prints = record { status_is = status ∙ h.is_report.status; text_is = text ∙ h.is_report.text; no_proof = proof };
      verified = subst Verified (sym status) h.verified;
      satisfied = λ e. h.satisfied (sym status ∙ e);
    }

pub tests_of : (F G : Cnf) (answer : List ℕ) (m : ModelReport) (r : Report) → G ≡ F → IsModelReport G answer m
    → r.stdout.items ≡ m.text.items → r.status ≡ m.status → r.proof ≡ None → Tests F answer r
tests_of F G answer m r e h text status proof =
    let Told : Cnf → Type 0 = λ H. IsModelReport H answer m in
    tests_so F answer m r (subst Told e h) text status proof

fails_is : (L : Limits) (fault : DimacsFault) (text : List ℕ) → Fails no_memory fault (parse_within L text) → fault ≢ no_memory → parse_within L text ≡ Err fault
fails_is L fault text (inl e) other = absurd (other e)
fails_is L fault text (inr e) other = e

pub input_refused : (L : Limits) (known answer : Option (List ℕ)) (fault : DimacsFault) (result : Result Report Refusal) → HoldsOf known (λ text. Fails no_memory fault (parse_within L text))
    → IfOk result (Prints 1 (input_fault_text fault)) → OnOk result (fault ≢ no_memory) → IfOk result (λ r. HoldsOf known (λ text. TestsAnswer L text answer r))
input_refused L known answer fault (Ok r) h prints other =
    of_map (λ text. Fails no_memory fault (parse_within L text)) (λ text. TestsAnswer L text answer r) known
    (λ text fails. inl (fault, fails_is L fault text fails other, prints)) h
input_refused L known answer fault (Err e) h prints other = tt

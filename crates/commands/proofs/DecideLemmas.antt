-- What `decide` tells of an input, and that it is true.
use Rattle.std.specs.Prelude.{◌≡◌, ◌≢◌, ◌⊎◌, ℕ, ◌<◌, List, Option, Result, Ok, Err, IfOk}
use Rattle.std.proofs.Common.{arith, sym, ◌∙◌, inl, inr}
use Rattle.commands.specs.Decide.{DecidesInput}
use Rattle.commands.specs.FormulaTree.{IsHushed}
use Rattle.commands.specs.Known.{HoldsOf}
use Rattle.commands.specs.declared.decide.Deciding.{Deciding}
use Rattle.commands.proofs.OfLemmas.{of_map}
use Rattle.dimacs.specs.logic.Cnf.{Cnf, assignment_of}
use Rattle.dimacs.specs.logic.Limits.{AreNoMore, Limits, large}
use Rattle.dimacs.specs.text.Grammar.{SpellsWithin}
use Rattle.dimacs.specs.text.Parser.{no_memory, parse_within}
use Rattle.dimacs.specs.text.Rows.{Fails}
use Rattle.dimacs.specs.declared.fault.DimacsFault.{DimacsFault}
use Rattle.dimacs.proofs.SpellingLemmas.{parse_spells_within}
use Rattle.formula_search.specs.Decisions.{DecidesTo}
use Rattle.formula_search.specs.declared.decision.Asked.{Asked}
use Rattle.leaves.specs.Leaf.{Prints}
use Rattle.lrat_check.specs.Soundness.{Soundness}
use Rattle.proof_check.specs.Truth.{IsTrueReport}
use Rattle.reports.specs.Faults.{input_fault_text}
use Rattle.reports.specs.declared.report.Report.{Report}

fails_is : (L : Limits) (fault : DimacsFault) (text : List ℕ) → Fails no_memory fault (parse_within L text) → fault ≢ no_memory → parse_within L text ≡ Err fault
fails_is L fault text (inl e) other = absurd (other e)
fails_is L fault text (inr e) other = e

-- a fault of the input is told
pub fault_told : (L : Limits) (d : Deciding) (has : List ℕ → Type 0) (known : Option (List ℕ)) (fault : DimacsFault) (told r : Report)
    → HoldsOf known (λ text. Fails no_memory fault (parse_within L text)) → Prints 1 (input_fault_text fault) told → fault ≢ no_memory → IsHushed d.quiet told r
    → HoldsOf known (λ text. DecidesInput L d has text r)
fault_told L d has known fault told r h prints other hushed =
    of_map (λ text. Fails no_memory fault (parse_within L text)) (λ text. DecidesInput L d has text r) known
    (λ text fails. inl (told, (fault, fails_is L fault text fails other, prints), hushed)) h

apart : {m n : ℕ} → m ≡ n → m < n ⊎ n < m → ⊥
apart e (inl l) = omega (arith, e, l)
apart e (inr l) = omega (arith, e, l)

-- a report of another status says nothing of satisfying assignments
pub other_true : (L : Limits) (input : List ℕ) (r : Report) (status : ℕ) → r.status ≡ status → status < 10 → IsTrueReport L input r
other_true L input r status is low =
    record { satisfiable = λ e. absurd (apart (sym is ∙ e) (inl (omega (arith, low)))); unsatisfiable = λ e. absurd (apart (sym is ∙ e) (inl (omega (arith, low)))) }

pub formula_true : Soundness → (L : Limits) (input : List ℕ) (F : Cnf) → SpellsWithin L input F → (a : Asked) (has : List ℕ → Type 0) (r : Report) → DecidesTo F a has r → IsTrueReport L input r
formula_true sound L input F spells a has r (inl is) =
    record { satisfiable = λ e. (F, spells, assignment_of is.values, is.satisfies); unsatisfiable = λ e. absurd (apart (sym is.status ∙ e) (inl (omega arith))) }
formula_true sound L input F spells a has r (inr (inl is)) =
    record { satisfiable = λ e. absurd (apart (sym is.status ∙ e) (inr (omega arith))); unsatisfiable = λ e. (F, spells, sound F is.proof is.proves.accepted) }
formula_true sound L input F spells a has r (inr (inr is)) = other_true L input r 0 is.status (omega arith)

input_true : Soundness → (L : Limits) → AreNoMore L large → (d : Deciding) (has : List ℕ → Type 0) (input : List ℕ) (r : Report) → DecidesInput L d has input r → IsTrueReport L input r
input_true sound L few d has input r (inl (told, (fault, parsed, prints), hushed)) = other_true L input r 1 (hushed.status ∙ prints.status_is) (omega arith)
input_true sound L few d has input r (inr (F, parsed, is)) = formula_true sound L input F (parse_spells_within L input F few parsed) d.asked has r is

-- what is told of an input is true of it
pub told_true : Soundness → (L : Limits) → AreNoMore L large → (d : Deciding) (has : List ℕ → Type 0) (known : Option (List ℕ)) (r : Report)
    → HoldsOf known (λ text. DecidesInput L d has text r) → HoldsOf known (λ text. IsTrueReport L text r)
told_true sound L few d has known r h =
    of_map (λ text. DecidesInput L d has text r) (λ text. IsTrueReport L text r) known (λ text is. input_true sound L few d has text r is) h

pub all_told_true : {E : Type 0} → Soundness → (L : Limits) → AreNoMore L large → (d : Deciding) (has : List ℕ → Type 0) (known : Option (List ℕ)) (result : Result Report E)
    → IfOk result (λ r. HoldsOf known (λ text. DecidesInput L d has text r)) → IfOk result (λ r. HoldsOf known (λ text. IsTrueReport L text r))
all_told_true sound L few d has known (Ok r) h = told_true sound L few d has known r h
all_told_true sound L few d has known (Err e) h = tt

-- where the proof is may be told otherwise
pub decides_weaker : (F : Cnf) (a : Asked) (has other : List ℕ → Type 0) (r : Report) → (r.status ≡ 20 → (text : List ℕ) → has text → other text) → DecidesTo F a has r → DecidesTo F a other r
decides_weaker F a has other r f (inl is) = inl is
decides_weaker F a has other r f (inr (inl is)) =
    inr (inl (record {
      status = is.status;
      proof = is.proof;
      proves = is.proves;
      there = (f is.status is.proof (is.there).0, (is.there).1);
      counts = is.counts;
      counted = is.counted;
      bytes = is.bytes;
      text = is.text;
    }))
decides_weaker F a has other r f (inr (inr is)) = inr (inr is)

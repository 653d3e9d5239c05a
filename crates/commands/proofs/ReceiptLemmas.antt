-- What a log comes to.
use Rattle.std.proofs.Common.{◌≡◌, ◌≢◌, ◌++◌, inl, inr, ℕ, Bool, true, List, Option, Some, None, Result, Ok, Err, IsTrue, refl, sym, ap, subst, append_assoc, arith, is_some}
use Rattle.commands.specs.Known.{HoldsOf}
use Rattle.commands.specs.Receipts.{TellsReceipt, faults, nothing, receipts}
use Rattle.commands.specs.declared.receipt.Received.{Received}
use Rattle.commands.specs.declared.receipt.Received.TheVariants.{Told, Refused}
use Rattle.commands.specs.inner.Receipts.{ComesTo, IsRefused, SaysFault}
use Rattle.dimacs.specs.logic.Cnf.{Cnf}
use Rattle.icnf.specs.Leaves.{Cube}
use Rattle.lrat_check.specs.Logs.{log_of}
use Rattle.lrat_check.specs.declared.line_checker.CheckFault.{CheckFault}
use Rattle.receipts.specs.LogReceipt.{ClosesNone, HasLogFault, HasReadLog, IsLogOrFault}
use Rattle.receipts.specs.declared.fault.BuildFault.{BuildFault}
use Rattle.receipts.specs.declared.fault.BuildFault.TheVariants.{Log, ClosesNothing, NoMemory}
use Rattle.receipts.specs.declared.receipt_builder.ReceiptBuilder.{ReceiptBuilder}
use Rattle.reports.specs.declared.report.Report.{Report}

-- ---- whatever follows a fault
reads_on : (F : Cnf) (bytes rest : List ℕ) (r : ReceiptBuilder) (found : Option CheckFault) → is_some found ≡ true → IsLogOrFault found F bytes r → IsLogOrFault found F (bytes ++ rest) r
reads_on F bytes rest r None e h = absurd (cc)
reads_on F bytes rest r (Some fault) e (inl memory) = inl memory
reads_on F bytes rest r (Some fault) e (inr met) =
    inr (λ more. subst (λ (xs : List ℕ). log_of F xs ≡ Err fault) (sym (append_assoc bytes rest more)) (met (rest ++ more)))

pub reads_rest : (F : Cnf) (cubes : List Cube) (bytes rest : List ℕ) (r : ReceiptBuilder) → is_some r.fault ≡ true → HasReadLog F cubes bytes r → HasReadLog F cubes (bytes ++ rest) r
reads_rest F cubes bytes rest r e h = record { formula = h.formula; covers = h.covers; read = reads_on F bytes rest r r.fault e h.read }

-- ---- the report of a log without a receipt
pub refused_is : (F : Cnf) (cubes : List Cube) (log : List ℕ) (fault : BuildFault) (r : Report)
    → ((f : CheckFault) → fault ≡ Log f → log_of F log ≡ Err f) → (fault ≡ ClosesNothing → ClosesNone F cubes log) → SaysFault fault r → IsRefused F cubes log r
refused_is F cubes log (Log f) r first none says = inl (f, first f refl, says)
refused_is F cubes log ClosesNothing r first none says = inr (none refl, says)
refused_is F cubes log NoMemory r first none says = absurd says

-- ---- what is kept
pub refused_tells : (keeps : List ℕ → Type 0) (left : Type 0) (F : Cnf) (cubes : List Cube) (log : List ℕ) (r : Report) → IsRefused F cubes log r → left
    → TellsReceipt keeps left F cubes log r
refused_tells keeps left F cubes log r (inl h) stays = faults h.0 h.1 stays h.2
refused_tells keeps left F cubes log r (inr h) stays = nothing h.0 stays h.1

zero_status : (n : ℕ) → n ≡ 0 → n ≡ 1 → ⊥
zero_status n h e = omega arith

-- with status 1 nothing is kept
tells_left : (keeps : List ℕ → Type 0) (left : Type 0) (F : Cnf) (cubes : List Cube) (log : List ℕ) (r : Report) → TellsReceipt keeps left F cubes log r → r.status ≡ 1 → left
tells_left keeps left F cubes log r (receipts told is kept closed) e = absurd (zero_status r.status closed.prints.status_is e)
tells_left keeps left F cubes log r (nothing none stays prints) e = stays
tells_left keeps left F cubes log r (faults fault first stays prints) e = stays

pub of_left : (keeps : List ℕ → Type 0) (left : Type 0) (F : Cnf) (cubes : List Cube) (known : Option (List ℕ)) (r : Report)
    → HoldsOf known (λ log. TellsReceipt keeps left F cubes log r) → r.status ≡ 1 → left
of_left keeps left F cubes None r h e = tells_left keeps left F cubes h.0 r h.1 e
of_left keeps left F cubes (Some log) r h e = tells_left keeps left F cubes log r h e

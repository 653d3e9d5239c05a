-- What a solver that other tools call tells of the file of a formula, and what it writes.
use Rattle.std.specs.Prelude.{◌≡◌, ◌⊎◌, ℕ, Bool, false, List, [], ◌∷◌, ◌++◌, drop, length, Option, codes, if◌then◌else◌}
use Rattle.commands.specs.FormulaTree.{OfFormula, RefusesInput}
use Rattle.commands.specs.Known.{HoldsOf}
use Rattle.commands.specs.Refusals.{IsOneOf}
use Rattle.commands.specs.declared.minisat.MinisatFiles.{MinisatFiles}
use Rattle.commands.specs.declared.solver.Solved.{Solved}
use Rattle.commands.specs.declared.solver.SolverFiles.{SolverFiles}
use Rattle.dimacs.specs.logic.Cnf.{Sat, assignment_of}
use Rattle.dimacs.specs.logic.Limits.{Limits}
use Rattle.dimacs.specs.text.Answer.{witness_items}
use Rattle.formula_search.specs.Decisions.{DecidesTo}
use Rattle.formula_search.specs.declared.decision.Asked.{Asked}
use Rattle.leaves.specs.Leaf.{Prints}
use Rattle.reports.specs.Refusals.{loud_text}
use Rattle.reports.specs.declared.refusal.Refusal.{Refusal}
use Rattle.reports.specs.declared.refusal.Refusal.TheVariants.{Input, Writing}
use Rattle.reports.specs.declared.report.Report.{Report}

-- what is asked of a search: no counts are printed
abbrev pub asking : Option ℕ → Bool → Asked
asking limit witness = record { limit = limit; witness = witness; stats = false }

abbrev pub asked_of : SolverFiles → Asked
asked_of files = asking files.limit files.witness

-- for MiniSat only the `s` line is printed
abbrev pub asked_of_minisat : MinisatFiles → Asked
asked_of_minisat files = asking files.limit false

-- what is told of a packed input
abbrev pub packed_text : List ℕ
packed_text = codes "c the input is packed: the script tools/satcluster-solver unpacks it\n"

-- what is told if the second file is a formula
abbrev pub formula_text : List ℕ
formula_text = codes "c the second file is a formula: it is not written over\n"

-- what is told if MiniSat's file cannot be written
abbrev pub no_result_text : List ℕ
no_result_text = codes "c cannot write result\n"

-- the solver gives no answer, status 0, and tells why; and that the input is packed, if its first bytes say so
pub record GivesUp (reason : List ℕ) (s : Solved) : Type 0 where
  pub packed : Bool
  pub told : s.told.items ≡ reason ++ (if packed then packed_text else [])
  pub prints : Prints 0 (codes "s UNKNOWN\n") s.report

-- a reason for no answer, besides a fault of the input: a file cannot be read or not be written, or memory is wanting
abbrev pub IsReason : List ℕ → Type 0
IsReason reason = ((f : Refusal) × IsOneOf Input Writing f × (reason ≡ loud_text f)) ⊎ (reason ≡ formula_text) ⊎ (reason ≡ no_result_text)

-- the solver tells the first fault of the input, read within the limits, or what comes of its formula, of whose proof `has` tells where it is
abbrev pub SolvesInput : Limits → Asked → (List ℕ → Type 0) → List ℕ → Solved → Type 0
SolvesInput L asked has input s =
    ((told : Report) × RefusesInput L input told × GivesUp told.stdout.items s) ⊎ OfFormula L input (λ F. DecidesTo F asked has s.report × (s.told.items ≡ []))

-- the solver tells why it gives no answer, or what comes of the bytes of the input
abbrev pub Solves : Limits → Asked → (List ℕ → Type 0) → Option (List ℕ) → Solved → Type 0
Solves L asked has known s = ((reason : List ℕ) × IsReason reason × GivesUp reason s) ⊎ HoldsOf known (λ input. SolvesInput L asked has input s)

-- a proof is kept nowhere
abbrev pub nowhere : List ℕ → Type 0
nowhere proof = Unit {0}

-- ---- MiniSat's result
-- items, a space before each
abbrev pub spaced : List (List ℕ) → List ℕ
spaced [] = []
spaced (item ∷ items) = codes " " ++ item ++ spaced items

-- MiniSat's result for an assignment: the true literals and 0, spaces between them
abbrev pub sat_text : List Bool → List ℕ
sat_text values = codes "SAT\n" ++ drop 1 (spaced (witness_items values)) ++ codes "\n"

-- `IsSatisfiedBy keeps L input`: an assignment satisfies the formula of the input, and MiniSat's result for it is kept
abbrev pub IsSatisfiedBy : (List ℕ → Type 0) → Limits → List ℕ → Type 0
IsSatisfiedBy keeps L input = OfFormula L input (λ F. (values : List Bool) × (length values ≡ F.vars) × Sat (assignment_of values) F × keeps (sat_text values))

-- `HasResult keeps left L known r`: what is kept as MiniSat's result beside a report, if any text is kept (`keeps`); `left` says that no
-- file has changed
pub record HasResult (keeps : List ℕ → Type 0) (left : Type 0) (L : Limits) (known : Option (List ℕ)) (r : Report) : Type 0 where
  pub satisfiable : r.status ≡ 10 → HoldsOf known (IsSatisfiedBy keeps L)
  pub unsatisfiable : r.status ≡ 20 → keeps (codes "UNSAT\n")
  pub unknown : r.status ≡ 0 → left ⊎ keeps (codes "INDET\n")

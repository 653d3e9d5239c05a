-- Lines and offers, as they are read.
use Rattle.std.specs.Prelude.{◌≡◌, ℕ, List, [], Result, Ok, Err}
use Rattle.dimacs.specs.logic.Literal.{Clause}
use Rattle.lrat_text.specs.Grammar.{SpellsStepWithin}
use Rattle.lrat_text.specs.declared.fault.TextFault.{TextFault}
use Rattle.lrat_text.specs.declared.fault.TextFault.TheVariants.{NoMemory}
use Rattle.lrat_text.specs.declared.step.Step.TheVariants.{Add, Delete}
use Rattle.shared_logs.specs.SharedText.{SpellsClock, SpellsImport, SpellsName, SpellsOffer}
use Rattle.shared_lines.specs.declared.line.Offer.{Offer}
use Rattle.shared_lines.specs.declared.line.SharedLine.{SharedLine}
use Rattle.shared_lines.specs.declared.line.SharedLine.TheVariants as lent

-- A line. Lemma: number, clause, hints. Deletion: the numbers that go. Name: a number, and the name for which it stands from here on.
-- Import: number, clause, the number that stands for the log's name, the lemma's number there. Clock: the time from here on.
pub data Line : Type 0 where
  Lemma : ℕ → Clause → List ℕ → Line
  Deletion : List ℕ → Line
  Name : ℕ → List ℕ → Line
  Import : ℕ → Clause → ℕ → ℕ → Line
  Clock : ℕ → Line

-- the text, without its LF, spells the line, with variables up to most
abbrev pub SpellsLine : ℕ → List ℕ → Line → Type 0
SpellsLine most text (Lemma number C hints) = SpellsStepWithin most text (Add number C hints [])
SpellsLine most text (Deletion numbers) = SpellsStepWithin most text (Delete numbers)
SpellsLine most text (Name number name) = SpellsName text number name
SpellsLine most text (Import number C log there) = SpellsImport most text number C log there
SpellsLine most text (Clock time) = SpellsClock text time

-- the line whose lists are borrowed
abbrev pub line_of : SharedLine → Line
line_of (lent.Lemma number literals hints) = Lemma number literals.now hints.now
line_of (lent.Deletion numbers) = Deletion numbers.now
line_of (lent.Name number name) = Name number name.now
line_of (lent.Import number literals log there) = Import number literals.now log there
line_of (lent.Clock time) = Clock time

-- an offer: the time, the lemma's number, and its clause
pub record Offered : Type 0 where
  pub time : ℕ
  pub number : ℕ
  pub clause : Clause

-- the text, without its LF, spells the offer, with variables up to most
abbrev pub Offers : ℕ → List ℕ → Offered → Type 0
Offers most text x = SpellsOffer most text x.time x.number x.clause

-- the offer whose literals are borrowed
abbrev pub offer_of : Offer → Offered
offer_of x = record { time = x.time; number = x.number; clause = x.literals.now }

-- a call that reads into a buffer, which then holds `new`, reads this value, or memory was refused
abbrev pub Gives : {A : Type 0} → A → A → Result (Unit {0}) TextFault → Type 0
Gives x new (Ok _) = new ≡ x
Gives x new (Err fault) = fault ≡ NoMemory

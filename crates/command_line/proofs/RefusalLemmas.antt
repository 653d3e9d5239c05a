-- Why words give no request.
use Rattle.std.proofs.Common.{◌≡◌, List, [], ◌∷◌, ◌∙◌, ap, sym}
use Rattle.clap.specs.Words.{Text}
use Rattle.clap.specs.declared.error.kind.ErrorKind.TheVariants as kind
use Rattle.option_table.specs.Refusals.{IsRefusalOf}
use Rattle.option_table.specs.declared.parser.Refusal.{Refusal}
use Rattle.option_table.specs.declared.parser.Refusal.TheVariants as refusal
use Rattle.command_line.specs.CommandLine.{AsksForHelp, AsksForVersion, IsParsed, IsRefusal}
use Rattle.command_line.specs.inner.Refusals.{fault_of_refusal}
use Rattle.command_line.specs.Program.{program}
use Rattle.command_line.specs.declared.request.UsageFault.TheVariants.{NoMemory}

-- what a parse refuses, the program refuses
pub refusal_is : (words : List Text) (r : Refusal) → IsRefusalOf program words r → IsRefusal words (fault_of_refusal r)
refusal_is words (refusal.Help text) is = is
refusal_is words refusal.Refused is = is
refusal_is words refusal.NoMemory is = tt

-- want of memory is want of memory
pub no_memory_is : (r : Refusal) → r ≡ refusal.NoMemory → fault_of_refusal r ≡ NoMemory
no_memory_is r is = ap fault_of_refusal is

asks_no_help : (words : List Text) → IsParsed words → AsksForHelp words → ⊥
asks_no_help words none asks = let both : [] ≡ kind.DisplayHelp ∷ [] = sym none ∙ asks in cc

asks_no_version : (words : List Text) → IsParsed words → AsksForVersion words → ⊥
asks_no_version words none asks = let both : [] ≡ kind.DisplayVersion ∷ [] = sym none ∙ asks in cc

-- words that are parsed ask for no help and for no version
pub asks_nothing : (words : List Text) → IsParsed words → (AsksForHelp words → ⊥) × (AsksForVersion words → ⊥)
asks_nothing words none = (asks_no_help words none, asks_no_version words none)

-- Why words are refused.
use Rattle.std.specs.Prelude.{◌≡◌, ◌⊎◌, List, [], ◌∷◌, ⊤}
use Rattle.clap.specs.Kinds.{IsAmong}
use Rattle.clap.specs.Words.{App, Text, fault_of}
use Rattle.clap.specs.declared.error.kind.ErrorKind.TheVariants as kind
use Rattle.option_table.specs.declared.parser.Refusal.{Refusal}
use Rattle.option_table.specs.declared.parser.Refusal.TheVariants.{Help, Refused, NoMemory}

-- a refusal of words is right: a text to print only if the words ask for help or the version; `Refused` only if asking for one of these
-- is not their only fault; refused memory for any words
abbrev pub IsRefusalOf : App → List Text → Refusal → Type 0
IsRefusalOf app words (Help text) = IsAmong kind.DisplayHelp (fault_of app words) ⊎ IsAmong kind.DisplayVersion (fault_of app words)
IsRefusalOf app words Refused = (fault_of app words ≡ kind.DisplayHelp ∷ [] → ⊥) × (fault_of app words ≡ kind.DisplayVersion ∷ [] → ⊥)
IsRefusalOf app words NoMemory = ⊤

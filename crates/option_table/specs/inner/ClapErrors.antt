-- The refusal that an error of `clap` becomes.
use Rattle.std.specs.Prelude.{◌≡◌, ◌≢◌, ◌⊎◌}
use Rattle.clap.specs.declared.error.kind.ErrorKind.{ErrorKind}
use Rattle.clap.specs.declared.error.kind.ErrorKind.TheVariants as kind
use Rattle.option_table.specs.declared.parser.Refusal.{Refusal}
use Rattle.option_table.specs.declared.parser.Refusal.TheVariants.{Help, NoMemory, Refused}

-- a refusal is right for an error of `clap` of this kind
abbrev pub StandsFor : ErrorKind → Refusal → Type 0
StandsFor k (Help text) = (k ≡ kind.DisplayHelp) ⊎ (k ≡ kind.DisplayVersion)
StandsFor k Refused = (k ≢ kind.DisplayHelp) × (k ≢ kind.DisplayVersion) × (k ≢ kind.OutOfMemory)
StandsFor k NoMemory = (k ≡ kind.DisplayHelp) ⊎ (k ≡ kind.DisplayVersion) ⊎ (k ≡ kind.OutOfMemory)

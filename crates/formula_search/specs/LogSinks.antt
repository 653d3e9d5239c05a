-- Why a log cannot be handed on.
use Rattle.std.specs.Prelude.{◌≡◌, ◌⊎◌}
use Rattle.reports.specs.declared.refusal.Refusal.{Refusal}
use Rattle.reports.specs.declared.refusal.Refusal.TheVariants.{Writing, NoMemory}

-- the refusal is want of memory, or that the proof cannot be written
abbrev pub IsUnwritten : Refusal → Type 0
IsUnwritten f = (f ≡ NoMemory) ⊎ (f ≡ Writing)

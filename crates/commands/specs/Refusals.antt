-- What a run is refused for.
use Rattle.std.specs.Prelude.{◌≡◌, ◌⊎◌}
use Rattle.reports.specs.declared.refusal.Refusal.{Refusal}
use Rattle.reports.specs.declared.refusal.Refusal.TheVariants.{Cubes, Input, Proof, Writing, NoMemory}

-- the refusal is want of memory
abbrev pub IsWanting : Refusal → Type 0
IsWanting f = f ≡ NoMemory

-- the refusal `f` is want of memory, or `refusal`
abbrev pub IsRefusedAs : Refusal → Refusal → Type 0
IsRefusedAs refusal f = (f ≡ NoMemory) ⊎ (f ≡ refusal)

-- the refusal `f` is want of memory, or one of these two refusals
abbrev pub IsOneOf : Refusal → Refusal → Refusal → Type 0
IsOneOf one other f = (f ≡ NoMemory) ⊎ ((f ≡ one) ⊎ (f ≡ other))

-- a refusal of a command over leaves that writes a file: want of memory, or the input, the cubes or the proofs cannot be read, or the file
-- not be written
abbrev pub IsUnreadOrUnwritten : Refusal → Type 0
IsUnreadOrUnwritten f = IsOneOf Input Cubes f ⊎ ((f ≡ Proof) ⊎ (f ≡ Writing))

-- a refusal of `trim`: want of memory, or the input or the proof cannot be read, or the file not be written
abbrev pub IsUntrimmed : Refusal → Type 0
IsUntrimmed f = IsOneOf Input Proof f ⊎ (f ≡ Writing)

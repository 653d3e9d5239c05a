-- How readings compose.
use Rattle.std.proofs.Common.{◌≡◌, ℕ, zero, suc, List, [], ◌∷◌, Result, Ok, Err, length, refl, ap, ◌∙◌, arith}
use Rattle.drat_forms.specs.Reading.{Reading, reads, reads_byte, takes, takes_byte, then}
use Rattle.drat_forms.specs.declared.fault.DratFault.{DratFault}

pub reads-byte : (r : Reading) (b : ℕ) (bytes : List ℕ) → reads r (b ∷ bytes) ≡ then (reads_byte r b) (λ next. reads next bytes)
unfolding reads
reads-byte r b bytes = refl

pub takes-byte : (r : Reading) (b : ℕ) (bytes : List ℕ) → takes r (b ∷ bytes) ≡ then (takes_byte r.form r b) (λ next. takes next bytes)
unfolding takes
takes-byte r b bytes = refl

pub reads-nil : (r : Reading) → reads r [] ≡ Ok r
unfolding reads
reads-nil r = refl

pub takes-nil : (r : Reading) → takes r [] ≡ Ok r
unfolding takes
takes-nil r = refl

-- a byte that is read, and bytes after it
pub reads_on : (r q : Reading) (b : ℕ) (bytes : List ℕ) → reads_byte r b ≡ Ok q → reads r (b ∷ bytes) ≡ reads q bytes
reads_on r q b bytes e = reads-byte r b bytes ∙ ap (λ (x : Result Reading DratFault). then x (λ next. reads next bytes)) e

pub takes_on : (r q : Reading) (b : ℕ) (bytes : List ℕ) → takes_byte r.form r b ≡ Ok q → takes r (b ∷ bytes) ≡ takes q bytes
takes_on r q b bytes e = takes-byte r b bytes ∙ ap (λ (x : Result Reading DratFault). then x (λ next. takes next bytes)) e

-- a byte that has a fault
pub reads_fault : (r : Reading) (b : ℕ) (bytes : List ℕ) (fault : DratFault) → reads_byte r b ≡ Err fault → reads r (b ∷ bytes) ≡ Err fault
reads_fault r b bytes fault e = reads-byte r b bytes ∙ ap (λ (x : Result Reading DratFault). then x (λ next. reads next bytes)) e

pub takes_fault : (r : Reading) (b : ℕ) (bytes : List ℕ) (fault : DratFault) → takes_byte r.form r b ≡ Err fault → takes r (b ∷ bytes) ≡ Err fault
takes_fault r b bytes fault e = takes-byte r b bytes ∙ ap (λ (x : Result Reading DratFault). then x (λ next. takes next bytes)) e

pub none_left : (xs : List ℕ) → length xs ≡ 0 → xs ≡ []
none_left [] e = refl
none_left (x ∷ xs) e = absurd (omega arith)

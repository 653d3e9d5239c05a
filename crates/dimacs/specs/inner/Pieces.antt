-- What one line, and one piece, of a formula's text leads to.
use Rattle.std.specs.Prelude.{◌≡◌, ◌==◌, false, ℕ, List, ◌∷◌, ◌++◌, All, Option, Some, None}
use Rattle.std.specs.Str.{byte}
use Rattle.dimacs.specs.declared.fault.DimacsFault.{DimacsFault}
use Rattle.dimacs.specs.text.Pieces.{LinesRead, read_on}
use Rattle.dimacs.specs.text.Parser.{no_memory}
use Rattle.dimacs.specs.text.Rows.{Fails}
use Rattle.dimacs.specs.text.Words.{lines}

-- the bytes have no LF
abbrev pub IsOpen : List ℕ → Type 0
IsOpen bytes = All (λ b. (b == byte "\n") ≡ false) bytes

-- the text is the line, an LF and the rest; the line has no LF
abbrev pub IsCut : List ℕ → List ℕ → List ℕ → Type 0
IsCut text line rest = (text ≡ line ++ byte "\n" ∷ rest) × IsOpen line

-- reading the line leads from the state old to the state new, whatever lines follow
abbrev pub TakesLine : LinesRead → List ℕ → LinesRead → Type 0
TakesLine old line new = (new.limits ≡ old.limits) × ((more : List (List ℕ)) → read_on old (line ∷ more) ≡ read_on new more)

-- in the state old the line has this fault, whatever lines follow, or memory was refused
abbrev pub RefusesLine : LinesRead → List ℕ → DimacsFault → Type 0
RefusesLine old line fault = (more : List (List ℕ)) → Fails no_memory fault (read_on old (line ∷ more))

-- reading the text leads from the state old to the state new and the incomplete line begun, whatever bytes follow
abbrev pub LeadsTo : LinesRead → List ℕ → LinesRead → List ℕ → Type 0
LeadsTo old text new begun = (new.limits ≡ old.limits) × ((more : List ℕ) → read_on old (lines (text ++ more)) ≡ read_on new (lines (begun ++ more)))

-- in the state old the text has this fault, whatever bytes follow, or memory was refused
abbrev pub RefusesText : LinesRead → List ℕ → DimacsFault → Type 0
RefusesText old text fault = (more : List ℕ) → Fails no_memory fault (read_on old (lines (text ++ more)))

-- the invariant of a reader's fields: if there is no fault, the incomplete line has no LF
abbrev pub IsProgress : Option DimacsFault → List ℕ → Type 0
IsProgress None begun = IsOpen begun
IsProgress (Some fault) begun = Unit {0}

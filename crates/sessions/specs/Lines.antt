-- The lines of a session's proof. Each line that has numbers is read as the line of LRAT text that says the same.
use Rattle.std.specs.Prelude.{ℕ, ◌==◌, ◌||◌, ◌&&◌, Bool, List, [], ◌∷◌, ◌++◌, Option, Some, None, Result, Ok, Err, bytes_eq, codes, length, slice_index, if◌then◌else◌}
use Rattle.std.specs.Str.{byte}
use Rattle.dimacs.specs.logic.Literal.{Literal, Clause}
use Rattle.lrat_text.specs.Grammar.{space}
use Rattle.lrat_text.specs.Log.{Cube}
use Rattle.lrat_text.specs.Parser.{step_within}
use Rattle.lrat_text.specs.declared.fault.TextFault.{TextFault}
use Rattle.lrat_text.specs.declared.fault.TextFault.TheVariants.{BadToken}
use Rattle.lrat_text.specs.declared.step.Step.{Step}
use Rattle.lrat_text.specs.declared.step.Step.TheVariants.{Add, Delete}
use Rattle.sessions.specs.declared.kind.Kind.{Kind}
use Rattle.sessions.specs.declared.kind.Kind.TheVariants as kind
use Rattle.sessions.specs.declared.kind.StepKind.{StepKind}
use Rattle.sessions.specs.declared.kind.StepKind.TheVariants as step
use Rattle.sessions.specs.declared.kind.Status.{Status}
use Rattle.sessions.specs.declared.kind.Status.TheVariants.{Satisfiable, Unsatisfiable, Unknown}

-- What a line says: a clause is given under a number; a query is asked; a lemma was learnt under a number, by hints; the clauses of these
-- numbers are deleted; the open query has this status; these literals are its model; these are its core, by hints; or nothing.
pub data Line : Type 0 where
  Gives : ℕ → Clause → Line
  Asks : Cube → Line
  Learns : ℕ → Clause → List ℕ → Line
  Deletes : List ℕ → Line
  Says : Status → Line
  Shows : List Literal → Line
  Fails : List Literal → List ℕ → Line
  Silent : Line

-- a letter whose lines are passed over: `w` weakens, `r` restores a clause; `f` a failed core, `p` the header, `c` a comment, `e` the end
-- of a query
abbrev pub is_silent : ℕ → Bool
is_silent b = b == byte "w" || b == byte "r" || b == byte "f" || b == byte "p" || b == byte "c" || b == byte "e"

-- the kind of a line, by its first letter
abbrev pub kind_of : ℕ → Kind
kind_of b =
    if b == byte "l" then kind.Step step.Learns
    else if b == byte "d" then kind.Step step.Deletes
    else if b == byte "i" then kind.Step step.Gives
    else if b == byte "q" then kind.Step step.Asks
    else if b == byte "m" then kind.Step step.Shows
    else if b == byte "u" then kind.Step step.Fails
    else if b == byte "s" then kind.Says
    else if is_silent b then kind.Silent
    else kind.Unknown

-- the bytes of a line after its letter and a space
abbrev pub body_of : List ℕ → List ℕ
body_of [] = []
body_of (letter ∷ []) = []
body_of (letter ∷ b ∷ bytes) = if b == space then bytes else []

-- `ID LITERALS 0 0` stands for `i ID LITERALS 0`, `1 LITERALS 0 0` for `q LITERALS 0` and `m LITERALS 0`, `1 LITERALS 0 HINTS 0` for
-- `u LITERALS 0 HINTS 0`, and `1 d IDS 0` for `d IDS 0`; `l ID LITERALS 0 HINTS 0` is a line of LRAT text except its letter
abbrev pub lrat_line : StepKind → List ℕ → List ℕ
lrat_line step.Gives line = body_of line ++ codes " 0"
lrat_line step.Asks line = codes "1 " ++ body_of line ++ codes " 0"
lrat_line step.Learns line = body_of line
lrat_line step.Deletes line = codes "1 " ++ line
lrat_line step.Shows line = codes "1 " ++ body_of line ++ codes " 0"
lrat_line step.Fails line = codes "1 " ++ body_of line

-- what a line says, or its first fault
abbrev pub Read : Type 0
Read = Result Line TextFault

-- hints, number of groups, what a line says by its literals: a hint or a group after the literals is a fault
abbrev pub bare : List ℕ → ℕ → Line → Read
bare hints groups line = if length hints == 0 && groups == 0 then Ok line else Err BadToken

-- number of groups, what a line says: a group is a fault
abbrev pub ungrouped : ℕ → Line → Read
ungrouped groups line = if groups == 0 then Ok line else Err BadToken

-- what a line of this kind says whose line of LRAT text spells this step, or its first fault
abbrev pub said : StepKind → Step → Read
said step.Gives (Add id C hints groups) = bare hints (length groups) (Gives id C)
said step.Asks (Add id A hints groups) = bare hints (length groups) (Asks A)
said step.Learns (Add id C hints groups) = ungrouped (length groups) (Learns id C hints)
said step.Deletes (Add id C hints groups) = Err BadToken
said step.Shows (Add id model hints groups) = bare hints (length groups) (Shows model)
said step.Fails (Add id core hints groups) = ungrouped (length groups) (Fails core hints)
said step.Gives (Delete ids) = Err BadToken
said step.Asks (Delete ids) = Err BadToken
said step.Learns (Delete ids) = Err BadToken
said step.Deletes (Delete ids) = Ok (Deletes ids)
said step.Shows (Delete ids) = Err BadToken
said step.Fails (Delete ids) = Err BadToken

-- what a line of this kind says, by the step that its line of LRAT text spells, or its first fault
abbrev pub by_step : StepKind → Result Step TextFault → Read
by_step k (Ok s) = said k s
by_step k (Err fault) = Err fault

-- the status that a line tells; None if it tells none
abbrev pub status_word : List ℕ → Option Status
status_word line =
    if bytes_eq line (codes "s SATISFIABLE") then Some Satisfiable
    else if bytes_eq line (codes "s UNSATISFIABLE") then Some Unsatisfiable
    else if bytes_eq line (codes "s UNKNOWN") then Some Unknown
    else None

-- what a line of this status says; a line without a status has a fault
abbrev pub by_word : Option Status → Read
by_word None = Err BadToken
by_word (Some word) = Ok (Says word)

-- what an `s` line says, or its first fault
abbrev pub status_in : List ℕ → Read
status_in line = by_word (status_word line)

-- what a line with variables up to `most` of this kind says, or its first fault
abbrev pub read_as : ℕ → Kind → List ℕ → Read
read_as most (kind.Step k) line = by_step k (step_within most (lrat_line k line))
read_as most kind.Says line = status_in line
read_as most kind.Silent line = Ok Silent
read_as most kind.Unknown line = Err BadToken

-- what a line with variables up to `most` says, or its first fault
abbrev pub line_within : ℕ → List ℕ → Read
line_within most line = read_as most (kind_of (slice_index line 0)) line

-- An iCNF text that comes in pieces, and whose clauses are compared with those of a formula F and not stored: the state of a `TreeReader`.
use Rattle.std.specs.Prelude.{◌≡◌, ◌≢◌, ◌⊎◌, ℕ, List, ◌++◌, Option, Some, None, Result, Ok, Err, option_map}
use Rattle.dimacs.specs.logic.Cnf.{Cnf}
use Rattle.dimacs.specs.logic.Limits.{Limits, written}
use Rattle.dimacs.specs.logic.Literal.{Clause}
use Rattle.dimacs.specs.text.Rows.{Fails, read_lines, read_text}
use Rattle.dimacs.specs.text.Words.{lines}
use Rattle.icnf.specs.declared.cubes_fault.CubesFault.{CubesFault}
use Rattle.icnf.specs.declared.cubes_fault.CubesFault.TheVariants.{Faulty, OtherFormula}
use Rattle.icnf.specs.declared.fault.IcnfFault.{IcnfFault}
use Rattle.icnf.specs.declared.tree_body.TreeBody.{TreeBody}
use Rattle.icnf.specs.Comparison.{compared}
use Rattle.icnf.specs.Leaves.{Cube}
use Rattle.icnf.specs.ReadState.{ReadState}
use Rattle.icnf.specs.Parser.{format, no_memory, parse_within}
use Rattle.icnf.specs.Grammar.{SpellsWithin}

-- The last argument is true of a text for which the parser gives parsed: the tree, if the text's clauses are those of F, the same lists of
-- literals in the same order; otherwise the text's first fault, or that its formula is another one.
abbrev pub Tells : Cnf → Result (Cnf × List Cube) IcnfFault → Result (List Cube) CubesFault → Type 0
Tells F parsed (Ok leaves) = (G : Cnf) × (parsed ≡ Ok (G, leaves)) × (G.clauses ≡ F.clauses)
Tells F parsed (Err (Faulty fault)) = parsed ≡ Err fault
Tells F parsed (Err OtherFormula) = (G : Cnf) × (leaves : List Cube) × (parsed ≡ Ok (G, leaves)) × (G.clauses ≢ F.clauses)

-- the text spells, within the limits L, a formula with the clauses of F, and the tree
abbrev pub SpellsTreeWithin : Limits → Cnf → List ℕ → List Cube → Type 0
SpellsTreeWithin L F text leaves = (G : Cnf) × SpellsWithin L text G leaves × (G.clauses ≡ F.clauses)

-- the text spells, within the written limits, a formula with the clauses of F, and the tree
abbrev pub SpellsTree : Cnf → List ℕ → List Cube → Type 0
SpellsTree F text leaves = SpellsTreeWithin written F text leaves

-- a call answers what is true of the text for which the parser gives parsed, or that memory was refused
abbrev pub TellsTree : Cnf → Result (Cnf × List Cube) IcnfFault → Result (List Cube) CubesFault → Type 0
TellsTree F parsed result = (result ≡ Err (Faulty no_memory)) ⊎ Tells F parsed result

-- the formula and the tree of a text, or its first fault, if its first n lines lead the parser to this state (None is before the header)
-- and these lines are left
abbrev pub read_behind : Limits → ℕ → Option ReadState → List (List ℕ) → Result (Cnf × List Cube) IcnfFault
read_behind L n None later = read_text format L n later
read_behind L n (Some s) later = read_lines format n later s

-- what the reader keeps of the parser's state s: not the clauses, but how far they agree with the list clauses
abbrev pub kept : List Clause → ReadState → TreeBody
kept clauses s = record { limits = s.limits; clauses = compared clauses s.clauses; walk = s.walk }

-- the state of the reader. Within: the limits, the formula, the number of complete lines, what is kept of them, and the bytes of the
-- incomplete line. Failed: the first fault, or a refusal of memory
pub data Progress : Type 0 where
  Within : Limits → Cnf → ℕ → Option TreeBody → List ℕ → Progress
  Failed : IcnfFault → Progress

-- the state of the reader from its fields: the fault, the limits, the formula, the number of complete lines, what is kept of them, the
-- incomplete line
abbrev pub progress_of : Option IcnfFault → Limits → Cnf → ℕ → Option TreeBody → List ℕ → Progress
progress_of None L F n body begun = Within L F n body begun
progress_of (Some fault) L F n body begun = Failed fault

-- In this state the reader has read exactly these bytes of a text, within the limits L: it keeps what it needs of a parser's state, from
-- which the parser goes on, whatever bytes more follow. A fault is the whole text's, or memory was refused.
abbrev pub HasReadWithin : Limits → Cnf → Progress → List ℕ → Type 0
HasReadWithin L F (Within M G n body begun) bytes =
    (M ≡ L) × (G ≡ F) × ((s : Option ReadState) × (body ≡ option_map (kept F.clauses) s) × ((more : List ℕ) → parse_within L (bytes ++ more) ≡ read_behind L n s (lines (begun ++ more))))
HasReadWithin L F (Failed fault) bytes = (more : List ℕ) → Fails no_memory fault (parse_within L (bytes ++ more))

-- in this state the reader has read exactly these bytes of a text, within the written limits
abbrev pub HasRead : Cnf → Progress → List ℕ → Type 0
HasRead F progress bytes = HasReadWithin written F progress bytes

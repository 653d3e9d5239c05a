-- What the words ask for that a solver is called with, one after another; and what is told of them.
use Rattle.std.specs.Prelude.{◌==◌, ℕ, ◌+◌, ◌-◌, ◌*◌, nat_le, Bool, true, false, not, ◌&&◌, ◌||◌, List, [], ◌∷◌, ◌++◌, Option, Some, None, map, option_map, slice_index, string_bytes, codes, if◌then◌else◌}
use Rattle.std.specs.List.{before_first, after_first, list_any, slice_split}
use Rattle.clap.specs.Words.{Text}
use Rattle.command_line.specs.SolverTable.{lists, meaning_of, same}
use Rattle.command_line.specs.declared.solver_words.asked.Next.{Next}
use Rattle.command_line.specs.declared.solver_words.asked.Next.TheVariants as next
use Rattle.command_line.specs.declared.solver_words.asked.Solving.{Solving}
use Rattle.command_line.specs.declared.solver_words.call.SolverCall.{SolverCall}
use Rattle.command_line.specs.declared.solver_words.table.Meaning.{Meaning}
use Rattle.command_line.specs.declared.solver_words.table.Meaning.TheVariants.{Help, Known, Limit, Quiet, Told, Valued, Witness}
use Rattle.command_line.specs.declared.solver_words.table.Why.{Why}
use Rattle.command_line.specs.declared.solver_words.table.Why.TheVariants as why

-- ---- which calls are those of a solver
abbrev pub last_or : Text → List Text → Text
last_or part [] = part
last_or part (later ∷ parts) = last_or later parts

-- the last part of a path, whose parts are between slashes
abbrev pub last_part : Text → Text
last_part path = last_or [] (slice_split (λ byte. byte == 47) path)

-- the words of a solver behind the name of the program: those behind the command `solver`
abbrev pub behind_command : List Text → Option (Bool × List Text)
behind_command [] = None
behind_command (command ∷ words) = if same command (codes "solver") then Some (false, words) else None

-- the names by which MiniSat is called, and those of other solvers
abbrev pub minisat_names : Text
minisat_names = codes "minisat minisat2 minisat_core minisat_release minisat_simp minisat_static"

abbrev pub other_names : Text
other_names = codes "cadical kissat satcluster-solver"

-- the words behind the name of the program, which is one of MiniSat's, or another solver's, or none
abbrev pub call_by : Bool → Bool → List Text → Option (Bool × List Text)
call_by true other words = Some (true, words)
call_by false true words = Some (false, words)
call_by false false words = behind_command words

-- the words of a solver, if these words call one; and whether it is MiniSat
abbrev pub solver_words : List Text → Option (Bool × List Text)
solver_words [] = None
solver_words (called ∷ words) = call_by (lists minisat_names (last_part called)) (lists other_names (last_part called)) words

-- ---- what the words ask for
-- what the words so far ask for, and what the next word is
pub record Asked : Type 0 where
  pub input : Option Text
  pub second : Option Text
  pub limit : Option ℕ
  pub quiet : Bool
  pub witness : Bool
  pub helps : Bool
  pub next : Next

-- before the first word
abbrev pub begun : Asked
begun = record { input = None; second = None; limit = None; quiet = false; witness = true; helps = false; next = next.Word }

-- a word up to its first `=`
abbrev pub name_of : Text → Text
name_of word = before_first (λ byte. byte == 61) word

-- what is behind the first `=` of a word, if it has one
abbrev pub value_of : Text → Option Text
value_of word = if list_any (λ byte. byte == 61) word then Some (after_first (λ byte. byte == 61) word) else None

-- a value turns a word off
abbrev pub is_off : Option Text → Bool
is_off None = false
is_off (Some value) = same value (codes "0") || same value (codes "false") || same value (codes "no")

-- a switch is set by a word with this value
abbrev pub switched : Bool → Option Text → Bool
switched on value = if is_off value then not on else on

-- a decimal digit after a number, if there is one and the number is then no more than 1,000,000,000
abbrev pub digit_after : ℕ → ℕ → Option ℕ
digit_after number byte =
    if nat_le 48 byte && nat_le byte 57 && nat_le (10 * number + (byte - 48)) 1000000000 then Some (10 * number + (byte - 48)) else None

abbrev pub digits_after : Option ℕ → Text → Option ℕ
digits_after None text = None
digits_after (Some number) [] = Some number
digits_after (Some number) (byte ∷ text) = digits_after (digit_after number byte) text

-- a limit is not 0
abbrev pub some_limit : Option ℕ → Option ℕ
some_limit None = None
some_limit (Some limit) = if limit == 0 then None else Some limit

-- the limit that a text spells, from 1 to 1,000,000,000
abbrev pub limit_of : Text → Option ℕ
limit_of text = some_limit (digits_after (Some 0) text)

-- the limit is that of the text, or stays if it spells none
abbrev pub new_limit : Option ℕ → Option ℕ → Option ℕ
new_limit old None = old
new_limit old (Some limit) = Some limit

abbrev pub with_limit : Asked → Text → Asked
with_limit s text = record s { limit = new_limit s.limit (limit_of text); next = next.Word }

-- a name is that of the first file that none is named for yet
abbrev pub first_named : Option Text → Text → Option Text
first_named None name = Some name
first_named (Some file) name = Some file

abbrev pub second_named : Option Text → Option Text → Text → Option Text
second_named None second name = second
second_named (Some file) second name = first_named second name

abbrev pub with_name : Asked → Text → Asked
with_name s name = record s { input = first_named s.input name; second = second_named s.input s.second name }

-- a word of this meaning, with this value joined to it
abbrev pub by_meaning : Asked → Meaning → Option Text → Asked
by_meaning s (Quiet on) value = record s { quiet = switched on value }
by_meaning s (Witness on) value = record s { witness = switched on value }
by_meaning s Help value = record s { helps = switched true value }
by_meaning s Limit None = record s { next = next.Limit }
by_meaning s Limit (Some value) = with_limit s value
by_meaning s Known value = s
by_meaning s (Told reason) value = s
by_meaning s (Valued reason) None = record s { next = next.Value }
by_meaning s (Valued reason) (Some value) = s

-- a word names a file: it is `-`, or its first byte is another one than `-`
abbrev pub is_name : Text → Bool
is_name word = same word (codes "-") || not (slice_index word 0 == 45)

abbrev pub by_word : Asked → Text → Asked
by_word s word =
    if same word (codes "--") then record s { next = next.Name }
    else if is_name word then with_name s word
    else by_meaning s (meaning_of (name_of word)) (value_of word)

-- the next word
abbrev pub step_as : Next → Asked → Text → Asked
step_as next.Word s word = by_word s word
step_as next.Limit s word = with_limit s word
step_as next.Value s word = record s { next = next.Word }
step_as next.Name s word = with_name s word

abbrev pub step : Asked → Text → Asked
step s word = step_as s.next s word

abbrev pub asked_from : Asked → List Text → Asked
asked_from s [] = s
asked_from s (word ∷ words) = asked_from (step s word) words

-- what words ask for
abbrev pub asked : List Text → Asked
asked words = asked_from begun words

-- ---- what is told of the words
abbrev pub told_of_limit_by : Option ℕ → Option Why
told_of_limit_by None = Some why.OutOfRange
told_of_limit_by (Some limit) = None

-- a limit is told that is out of range
abbrev pub told_of_limit : Text → Option Why
told_of_limit text = told_of_limit_by (limit_of text)

abbrev pub told_of_files : Option Text → Option Text → Option Why
told_of_files (Some input) (Some second) = Some why.OtherFile
told_of_files input second = None

-- a name is told if two files are named already
abbrev pub told_of_name : Asked → Option Why
told_of_name s = told_of_files s.input s.second

abbrev pub told_by : Meaning → Option Text → Option Why
told_by (Quiet on) value = None
told_by (Witness on) value = None
told_by Help value = None
told_by Limit None = None
told_by Limit (Some value) = told_of_limit value
told_by Known value = None
told_by (Told reason) value = Some reason
told_by (Valued reason) value = Some reason

abbrev pub told_by_word : Asked → Text → Option Why
told_by_word s word =
    if same word (codes "--") then None
    else if is_name word then told_of_name s
    else told_by (meaning_of (name_of word)) (value_of word)

abbrev pub told_as : Next → Asked → Text → Option Why
told_as next.Word s word = told_by_word s word
told_as next.Limit s word = told_of_limit word
told_as next.Value s word = None
told_as next.Name s word = told_of_name s

-- why the next word is passed over, if that is told
abbrev pub told_of : Asked → Text → Option Why
told_of s word = told_as s.next s word

-- the byte that is printed for a byte of a word: `?` for one that is not in printable ASCII
abbrev pub shown : ℕ → ℕ
shown byte = if nat_le 32 byte && nat_le byte 126 then byte else 63

abbrev pub text_of : Why → Text
text_of why.Unknown = codes "no such word is known"
text_of why.Script = codes "only the script satcluster-solver has it"
text_of why.Time = codes "only the script satcluster-solver limits the time"
text_of why.Counts = codes "conflicts and decisions are not counted"
text_of why.Files = codes "no such file is written"
text_of why.Output = codes "the answer is on standard output"
text_of why.Solution = codes "no solution is read"
text_of why.Format = codes "a proof is LRAT, as text"
text_of why.OutOfRange = codes "a limit is a number from 1 to 1000000000"
text_of why.OtherFile = codes "two files are named already"

-- the line of a word that is passed over
abbrev pub line_of : Text → Why → Text
line_of word reason = codes "c " ++ map shown word ++ codes " is passed over: " ++ text_of reason ++ codes "\n"

abbrev pub line_if : Text → Option Why → Text
line_if word None = []
line_if word (Some reason) = line_of word reason

abbrev pub told_from : Asked → List Text → Text
told_from s [] = []
told_from s (word ∷ words) = line_if word (told_of s word) ++ told_from (step s word) words

-- the lines that tell which words are passed over
abbrev pub told_all : List Text → Text
told_all words = told_from begun words

-- ---- how the program holds them
abbrev pub call_of : SolverCall → Bool × List Text
call_of call = (call.is_minisat, map string_bytes call.words.now)

abbrev pub asked_of : Solving → Asked
asked_of s = record {
  input = option_map (λ file. file.now) s.input;
  second = option_map (λ file. file.now) s.second;
  limit = s.limit;
  quiet = s.quiet;
  witness = s.witness;
  helps = s.helps;
  next = s.next;
}

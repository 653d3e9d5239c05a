-- The request that the words of a command line make, by the rules of `clap`. A row has the values that the words give to one name.
use Rattle.std.specs.Prelude.{◌≡◌, ◌⊎◌, ℕ, ◌-◌, ◌^◌, ◌≤◌, nat_le, List, [], ◌∷◌, length, map, Bool, true, false, not, Option, Some, None, option_map, codes, IfSome, if◌then◌else◌, ⊤}
use Rattle.std.specs.Borrow.{Bor}
use Rattle.std.specs.Str.Parse.{IsNumeral, digits_value, without_leading_plus}
use Rattle.clap.specs.Kinds.{IsAmong}
use Rattle.clap.specs.Words.{Row, Text, all_of, fault_of, first_of, one_of, subcommand_of, takes}
use Rattle.clap.specs.declared.error.kind.ErrorKind.TheVariants as kind
use Rattle.command_line.specs.Program.{program}
use Rattle.command_line.specs.Options.{AreOptions}
use Rattle.command_line.specs.declared.commands.run_words.Place.{Place}
use Rattle.command_line.specs.declared.commands.run_words.Place.TheVariants.{AtPort, Here}
use Rattle.command_line.specs.declared.options.Options.{Options}
use Rattle.command_line.specs.declared.output.Printing.{Printing}
use Rattle.command_line.specs.declared.request.Request.{Request}
use Rattle.command_line.specs.declared.request.Request.TheVariants.{Check, Complete, Cover, Cubes, Decide, Drill, Elaborate, Join, Leaf, Lift, Look, Model, Receipt, Refute, Serve, Session, Share, Solve, Split, SplitByLook, Trim, Weave, Work}
use Rattle.command_line.specs.declared.request.UsageFault.{UsageFault}
use Rattle.command_line.specs.declared.request.UsageFault.TheVariants.{Help, NoMemory, Usage}

-- a text spells a number of the range in decimal digits, perhaps after a plus
pub record IsNumber (low high : ℕ) (text : Text) (number : ℕ) : Type 0 where
  pub numeral : IsNumeral 10 (without_leading_plus text)
  pub value : number ≡ digits_value 10 (without_leading_plus text)
  pub least : low ≤ number
  pub most : number ≤ high

-- the words give this number of the range to an option
pub record NamesNumber (rows : List Row) (name : Text) (low high : ℕ) (number : ℕ) : Type 0 where
  pub written : Text
  pub given : first_of name rows ≡ Some written
  pub read : IsNumber low high written number

-- the words give this number of the range to an option, or nothing, and it is the usual one
pub record NamesNumberOr (rows : List Row) (name : Text) (low high usual : ℕ) (number : ℕ) : Type 0 where
  pub given : (written : Text) → first_of name rows ≡ Some written → IsNumber low high written number
  pub left_out : first_of name rows ≡ None → number ≡ usual

-- the words give nothing to a name
abbrev pub NamesNothing : List Row → Text → Type 0
NamesNothing rows name = first_of name rows ≡ None

-- the words give this number of the range to an option, or nothing, and it is None
abbrev pub NamesAnyNumber : List Row → Text → ℕ → ℕ → Option ℕ → Type 0
NamesAnyNumber rows name low high None = NamesNothing rows name
NamesAnyNumber rows name low high (Some number) = NamesNumber rows name low high number

-- the words give a flag, and `given` is true, or they do not, and it is false
pub record NamesFlag (rows : List Row) (name : Text) (given : Bool) : Type 0 where
  pub yes : one_of name rows ≡ Some (codes "true") → given ≡ true
  pub no : one_of name rows ≡ Some (codes "false") → given ≡ false
  pub none : one_of name rows ≡ None → given ≡ false

-- the words give this file to a name, or nothing, and it is None
abbrev pub NamesFile : List Row → Text → Option (Bor Text) → Type 0
NamesFile rows name file = first_of name rows ≡ option_map (λ t. t.now) file

-- the words give these files to a name, in their order: one at least
pub record NamesFiles (rows : List Row) (name : Text) (files : List (Bor Text)) : Type 0 where
  pub given : all_of name rows ≡ Some (map (λ t. t.now) files)
  pub some : 1 ≤ length files

-- the words give `--dry`: nothing is written
abbrev pub IsDry : List Row → Type 0
IsDry rows = first_of (codes "dry") rows ≡ Some (codes "true")

-- the words give these files to be joined, one at least: all names with `--dry`, and else those after the first one, to which the proof is
-- written
abbrev pub NamesJoined : List Row → Option (Bor Text) → List (Bor Text) → Type 0
NamesJoined rows None files = IsDry rows × NamesFiles rows (codes "NAME") files
NamesJoined rows (Some proof) files = (IsDry rows → ⊥) × NamesFiles rows (codes "NAME") (proof ∷ files) × (1 ≤ length files)

-- the words give the number of this leaf
abbrev pub NamesLeaf : List Row → ℕ → Type 0
NamesLeaf rows leaf = NamesNumber rows (codes "leaf") 1 (2 ^ 32 - 1) leaf

-- the words ask for this printing: whether `c` lines are left out, and whether `v` lines are printed
pub record NamesPrinting (rows : List Row) (printing : Printing) : Type 0 where
  pub quiet_is : NamesFlag rows (codes "quiet") printing.quiet
  pub witness_is : NamesFlag rows (codes "no-witness") (not printing.witness)

-- the depth to which a run splits the formula if its words do not give it: at a port by the number of workers
abbrev pub usual_depth : Place → ℕ → ℕ
usual_depth Here workers = 4
usual_depth AtPort workers = if nat_le workers 1 then 6 else (if nat_le workers 8 then 8 else 10)

-- the words of a run give these options; one that they do not give, or that the command does not have, is the usual one
pub record NamesOptions (place : Place) (rows : List Row) (options : Options) : Type 0 where
  pub workers_is : NamesNumberOr rows (codes "workers") 1 64 2 options.workers
  pub depth_is : NamesNumberOr rows (codes "depth") 0 16 (usual_depth place options.workers) options.depth
  pub limit_is : NamesNumberOr rows (codes "limit") 1 1000000000 100000 options.limit
  pub session_is : NamesNumberOr rows (codes "session") 0 (2 ^ 64 - 1) 1 options.session
  pub number_is : NamesNumberOr rows (codes "number") 1 64 1 options.number
  pub incarnation_is : NamesNumberOr rows (codes "incarnation") 0 (2 ^ 64 - 1) 1 options.incarnation
  pub defs_is : NamesNumberOr rows (codes "defs") 0 64 0 options.defs
  pub ahead_is : NamesFlag rows (codes "ahead") options.ahead
  pub patience_is : NamesAnyNumber rows (codes "patience") 1 1000000000 options.patience
  pub progress_is : NamesFlag rows (codes "progress") options.progress
  pub rounds_is : NamesFlag rows (codes "rounds") options.rounds
  pub binary_is : NamesFlag rows (codes "binary") options.binary
  pub quiet_is : NamesFlag rows (codes "quiet") options.quiet
  pub witness_is : NamesFlag rows (codes "no-witness") (not options.witness)

-- the words of the command of this name, with these rows, make the request
abbrev pub Makes : Text → List Row → Request → Type 0
Makes name rows (Check input proof session drat progress) =
    (name ≡ codes "check") × NamesFile rows (codes "INPUT") (Some input) × NamesFile rows (codes "PROOF") (Some proof)
    × NamesFlag rows (codes "session") session × NamesFlag rows (codes "drat") drat × NamesFlag rows (codes "progress") progress
Makes name rows (Cubes input depth) =
    (name ≡ codes "cubes") × NamesFile rows (codes "INPUT") (Some input) × NamesNumberOr rows (codes "depth") 0 16 4 depth
    × NamesNothing rows (codes "cubes") × NamesNothing rows (codes "split") × NamesNothing rows (codes "on") × NamesNothing rows (codes "complete")
    × NamesNothing rows (codes "look")
Makes name rows (Look input leaves) =
    (name ≡ codes "cubes") × NamesFile rows (codes "INPUT") (Some input) × NamesNumber rows (codes "look") 1 65536 leaves
    × NamesNothing rows (codes "cubes") × NamesNothing rows (codes "split") × NamesNothing rows (codes "on") × NamesNothing rows (codes "complete")
    × NamesNothing rows (codes "depth")
Makes name rows (Split input cubes leaf on) =
    (name ≡ codes "cubes") × NamesFile rows (codes "INPUT") (Some input) × NamesFile rows (codes "cubes") (Some cubes)
    × NamesNumber rows (codes "split") 1 (2 ^ 32 - 1) leaf × NamesAnyNumber rows (codes "on") 1 (2 ^ 31 - 1) on × NamesNothing rows (codes "depth")
    × NamesNothing rows (codes "complete") × NamesNothing rows (codes "look")
Makes name rows (SplitByLook input cubes leaf) =
    (name ≡ codes "cubes") × NamesFile rows (codes "INPUT") (Some input) × NamesFile rows (codes "cubes") (Some cubes)
    × NamesNumber rows (codes "split") 1 (2 ^ 32 - 1) leaf × NamesNumber rows (codes "look") 2 2 2 × NamesNothing rows (codes "on")
    × NamesNothing rows (codes "depth") × NamesNothing rows (codes "complete")
Makes name rows (Complete input list) =
    (name ≡ codes "cubes") × NamesFile rows (codes "INPUT") (Some input) × NamesFile rows (codes "complete") (Some list)
    × NamesNothing rows (codes "depth") × NamesNothing rows (codes "cubes") × NamesNothing rows (codes "split") × NamesNothing rows (codes "on")
    × NamesNothing rows (codes "look")
Makes name rows (Decide input proof limit progress stats printing binary) =
    (name ≡ codes "decide") × NamesFile rows (codes "INPUT") (Some input) × NamesAnyNumber rows (codes "limit") 1 1000000000 limit
    × NamesFile rows (codes "PROOF") proof × NamesFlag rows (codes "progress") progress × NamesFlag rows (codes "stats") stats
    × NamesPrinting rows printing × NamesFlag rows (codes "binary") binary
Makes name rows (Solve input cubes proof options) =
    (name ≡ codes "solve") × NamesFile rows (codes "INPUT") (Some input) × NamesFile rows (codes "cubes") cubes
    × NamesFile rows (codes "PROOF") proof × NamesOptions Here rows options
Makes name rows (Serve port input cubes proof options) =
    (name ≡ codes "serve") × NamesNumber rows (codes "port") 1 65535 port × NamesFile rows (codes "INPUT") (Some input)
    × NamesFile rows (codes "cubes") cubes × NamesFile rows (codes "PROOF") proof × NamesOptions AtPort rows options
Makes name rows (Work port input proof options) =
    (name ≡ codes "work") × NamesNumber rows (codes "port") 1 65535 port × NamesFile rows (codes "INPUT") (Some input)
    × NamesFile rows (codes "PROOF") proof × NamesOptions Here rows options
Makes name rows (Drill input seed turns) =
    (name ≡ codes "drill") × NamesFile rows (codes "INPUT") (Some input) × NamesNumber rows (codes "seed") 0 (2 ^ 64 - 1) seed
    × NamesNumber rows (codes "turns") 0 100000 turns
Makes name rows (Leaf input cubes leaf) =
    (name ≡ codes "leaf") × NamesFile rows (codes "INPUT") (Some input) × NamesFile rows (codes "cubes") (Some cubes) × NamesLeaf rows leaf
Makes name rows (Refute input cubes leaf to grow limit fragment printing binary) =
    (name ≡ codes "refute") × NamesFile rows (codes "INPUT") (Some input) × NamesFile rows (codes "cubes") (Some cubes) × NamesLeaf rows leaf
    × NamesAnyNumber rows (codes "to") 1 (2 ^ 32 - 1) to × NamesFlag rows (codes "grow") grow × NamesNumber rows (codes "limit") 1 (2 ^ 47) limit
    × NamesFile rows (codes "FRAGMENT") fragment × NamesPrinting rows printing × NamesFlag rows (codes "binary") binary
Makes name rows (Join input cubes proof fragments printing binary) =
    (name ≡ codes "join") × NamesFile rows (codes "INPUT") (Some input) × NamesFile rows (codes "cubes") (Some cubes)
    × NamesJoined rows proof fragments.items × NamesPrinting rows printing × NamesFlag rows (codes "binary") binary
Makes name rows (Lift input cubes leaf to lidrup drat proof fragment binary) =
    (name ≡ codes "lift") × NamesFile rows (codes "INPUT") (Some input) × NamesFile rows (codes "cubes") (Some cubes)
    × NamesAnyNumber rows (codes "leaf") 1 (2 ^ 32 - 1) leaf × NamesAnyNumber rows (codes "to") 1 (2 ^ 32 - 1) to × NamesFlag rows (codes "lidrup") lidrup
    × NamesFlag rows (codes "drat") drat × NamesFile rows (codes "PROOF") (Some proof) × NamesFile rows (codes "FRAGMENT") (Some fragment) × NamesFlag rows (codes "binary") binary
Makes name rows (Model input output) =
    (name ≡ codes "model") × NamesFile rows (codes "INPUT") (Some input) × NamesFile rows (codes "FILE") (Some output)
Makes name rows (Trim input proof out binary) =
    (name ≡ codes "trim") × NamesFile rows (codes "INPUT") (Some input) × NamesFile rows (codes "PROOF") (Some proof) × NamesFile rows (codes "OUT") (Some out)
    × NamesFlag rows (codes "binary") binary
Makes name rows (Elaborate input drat lrat progress binary) =
    (name ≡ codes "elaborate") × NamesFile rows (codes "INPUT") (Some input) × NamesFile rows (codes "DRAT") (Some drat) × NamesFile rows (codes "LRAT") (Some lrat)
    × NamesFlag rows (codes "progress") progress × NamesFlag rows (codes "binary") binary
Makes name rows (Receipt input cubes log receipt) =
    (name ≡ codes "receipt") × NamesFile rows (codes "INPUT") (Some input) × NamesFile rows (codes "cubes") (Some cubes)
    × NamesFile rows (codes "LOG") (Some log) × NamesFile rows (codes "RECEIPT") (Some receipt)
Makes name rows (Cover input cubes receipts quiet) =
    (name ≡ codes "cover") × NamesFile rows (codes "INPUT") (Some input) × NamesFile rows (codes "cubes") (Some cubes)
    × NamesFiles rows (codes "NAME") receipts.items × NamesFlag rows (codes "quiet") quiet
Makes name rows (Session input proof limit witness) =
    (name ≡ codes "session") × NamesFile rows (codes "INPUT") (Some input) × NamesAnyNumber rows (codes "limit") 1 1000000000 limit
    × NamesFile rows (codes "PROOF") proof × NamesFlag rows (codes "no-witness") (not witness)
Makes name rows (Share input folder cubes leaf seed limit turn printing) =
    (name ≡ codes "share") × NamesFile rows (codes "INPUT") (Some input) × NamesFile rows (codes "FOLDER") (Some folder)
    × NamesFile rows (codes "cubes") cubes × NamesAnyNumber rows (codes "leaf") 1 (2 ^ 32 - 1) leaf
    × NamesAnyNumber rows (codes "seed") 0 (2 ^ 64 - 1) seed × NamesAnyNumber rows (codes "limit") 1 1000000000 limit
    × NamesNumberOr rows (codes "turn") 1 1000000 300 turn × NamesPrinting rows printing
Makes name rows (Weave input folder log cubes binary) =
    (name ≡ codes "weave") × NamesFile rows (codes "INPUT") (Some input) × NamesFile rows (codes "FOLDER") (Some folder)
    × NamesFile rows (codes "LOG") (Some log) × NamesFile rows (codes "cubes") cubes × NamesFlag rows (codes "binary") binary

-- the words are within the rules of the command line
pub record AreTaken (words : List Text) : Type 0 where
  pub by_rules : takes program words ≡ true

-- a parse of the words finds no fault
abbrev pub IsParsed : List Text → Type 0
IsParsed words = fault_of program words ≡ []

-- the words make the request: they name its command, and give what it has
pub record AsksFor (words : List Text) (request : Request) : Type 0 where
  pub name : Text
  pub rows : List Row
  pub command : subcommand_of program words ≡ Some (name, rows)
  pub makes : Makes name rows request

-- the words say whether the limits on the input are the large ones; a command that has no word for it takes the written ones
pub record SaysLarge (words : List Text) (large : Bool) : Type 0 where
  pub name : Text
  pub rows : List Row
  pub command : subcommand_of program words ≡ Some (name, rows)
  pub flag : NamesFlag rows (codes "large") large

-- the words ask for help: that is the only fault that a parse finds, unless memory is refused
abbrev pub AsksForHelp : List Text → Type 0
AsksForHelp words = fault_of program words ≡ kind.DisplayHelp ∷ []

-- the words ask for the version: that is the only fault that a parse finds, unless memory is refused
abbrev pub AsksForVersion : List Text → Type 0
AsksForVersion words = fault_of program words ≡ kind.DisplayVersion ∷ []

-- a refusal of words is right: a text to print only if they ask for help or the version; `Usage` only if they do not ask for that alone;
-- refused memory for any words
abbrev pub IsRefusal : List Text → UsageFault → Type 0
IsRefusal words (Help text) = IsAmong kind.DisplayHelp (fault_of program words) ⊎ IsAmong kind.DisplayVersion (fault_of program words)
IsRefusal words Usage = (AsksForHelp words → ⊥) × (AsksForVersion words → ⊥)
IsRefusal words NoMemory = ⊤

-- a number's property: it is that of a port
abbrev pub IsPort : ℕ → Type 0
IsPort port = (1 ≤ port) × (port ≤ 65535)

-- a number's property: it is that of a leaf
abbrev pub IsLeafNumber : ℕ → Type 0
IsLeafNumber leaf = (1 ≤ leaf) × (leaf ≤ 2 ^ 32 - 1)

-- a number's property: it is that of a variable
abbrev pub IsVariable : ℕ → Type 0
IsVariable variable = (1 ≤ variable) × (variable ≤ 2 ^ 31 - 1)

-- a number's property: it is a limit of lemmas of a search
abbrev pub IsLemmaLimit : ℕ → Type 0
IsLemmaLimit limit = (1 ≤ limit) × (limit ≤ 1000000000)

-- the numbers of a request are in their ranges
abbrev pub IsInRange : Request → Type 0
IsInRange (Check input proof session drat progress) = ⊤
IsInRange (Cubes input depth) = depth ≤ 16
IsInRange (Look input leaves) = (1 ≤ leaves) × (leaves ≤ 65536)
IsInRange (Split input cubes leaf on) = IsLeafNumber leaf × IfSome on IsVariable
IsInRange (SplitByLook input cubes leaf) = IsLeafNumber leaf
IsInRange (Complete input list) = ⊤
IsInRange (Decide input proof limit progress stats printing binary) = IfSome limit IsLemmaLimit
IsInRange (Solve input cubes proof options) = AreOptions options
IsInRange (Serve port input cubes proof options) = IsPort port × AreOptions options
IsInRange (Work port input proof options) = IsPort port × AreOptions options
IsInRange (Drill input seed turns) = turns ≤ 100000
IsInRange (Leaf input cubes leaf) = IsLeafNumber leaf
IsInRange (Refute input cubes leaf to grow limit fragment printing binary) = IsLeafNumber leaf × IfSome to IsLeafNumber × (1 ≤ limit) × (limit ≤ 2 ^ 47)
IsInRange (Join input cubes proof fragments printing binary) = 1 ≤ length fragments.items
IsInRange (Lift input cubes leaf to lidrup drat proof fragment binary) = IfSome leaf IsLeafNumber × IfSome to IsLeafNumber
IsInRange (Model input output) = ⊤
IsInRange (Trim input proof out binary) = ⊤
IsInRange (Elaborate input drat lrat progress binary) = ⊤
IsInRange (Receipt input cubes log receipt) = ⊤
IsInRange (Cover input cubes receipts quiet) = 1 ≤ length receipts.items
IsInRange (Session input proof limit witness) = IfSome limit IsLemmaLimit
IsInRange (Share input folder cubes leaf seed limit turn printing) = IfSome leaf IsLeafNumber × IfSome limit IsLemmaLimit × (1 ≤ turn) × (turn ≤ 1000000)
IsInRange (Weave input folder log cubes binary) = ⊤

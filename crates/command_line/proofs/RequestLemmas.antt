-- Which requests the words after a command's name make.
use Rattle.std.proofs.Common.{◌≡◌, ◌∙◌, ℕ, Bool, true, false, List, ◌∷◌, Option, Some, None, Vec, Global, ap, codes, refl, subst, sym}
use Rattle.std.specs.Borrow.{Bor}
use Rattle.std.specs.Str.{bytes_eq}
use Rattle.clap.specs.Words.{Row, Text, subcommand_of}
use Rattle.command_line.specs.CommandLine.{AsksFor, Makes, NamesFiles, NamesJoined}
use Rattle.command_line.specs.Program.{program}
use Rattle.command_line.specs.declared.options.Options.{Options}
use Rattle.command_line.specs.declared.output.Printing.{Printing}
use Rattle.command_line.specs.declared.request.Request.{Request}
use Rattle.command_line.specs.declared.request.Request.TheVariants.{Check, Complete, Cover, Cubes, Decide, Drill, Elaborate, Join, Leaf, Lift, Look, Model, Receipt, Refute, Serve, Session, Share, Solve, Split, SplitByLook, Trim, Weave, Work}

-- two names that a test tells apart
pub differ : (a b : Text) → bytes_eq a b ≡ false → bytes_eq b b ≡ true → a ≡ b → ⊥
differ a b apart same is = let e : false ≡ true = sym apart ∙ ap (λ t. bytes_eq t b) is ∙ same in cc

-- the name of the command of a request
abbrev name_of : Request → Text
name_of (Check input proof session drat progress) = codes "check"
name_of (Cubes input depth) = codes "cubes"
name_of (Split input cubes leaf on) = codes "cubes"
name_of (Look input leaves) = codes "cubes"
name_of (SplitByLook input cubes leaf) = codes "cubes"
name_of (Complete input list) = codes "cubes"
name_of (Decide input proof limit progress stats printing binary) = codes "decide"
name_of (Solve input cubes proof options) = codes "solve"
name_of (Serve port input cubes proof options) = codes "serve"
name_of (Work port input proof options) = codes "work"
name_of (Drill input seed turns) = codes "drill"
name_of (Leaf input cubes leaf) = codes "leaf"
name_of (Refute input cubes leaf to grow limit fragment printing binary) = codes "refute"
name_of (Join input cubes proof fragments printing binary) = codes "join"
name_of (Lift input cubes leaf to lidrup drat proof fragment binary) = codes "lift"
name_of (Model input output) = codes "model"
name_of (Trim input proof out binary) = codes "trim"
name_of (Elaborate input drat lrat progress binary) = codes "elaborate"
name_of (Receipt input cubes log receipt) = codes "receipt"
name_of (Cover input cubes receipts quiet) = codes "cover"
name_of (Session input proof limit witness) = codes "session"
name_of (Share input folder cubes leaf seed limit turn printing) = codes "share"
name_of (Weave input folder log cubes binary) = codes "weave"

is_named : (name : Text) (rows : List Row) (r : Request) → Makes name rows r → name ≡ name_of r
is_named name rows (Check input proof session drat progress) makes = makes.0
is_named name rows (Cubes input depth) makes = makes.0
is_named name rows (Split input cubes leaf on) makes = makes.0
is_named name rows (Look input leaves) makes = makes.0
is_named name rows (SplitByLook input cubes leaf) makes = makes.0
is_named name rows (Complete input list) makes = makes.0
is_named name rows (Decide input proof limit progress stats printing binary) makes = makes.0
is_named name rows (Solve input cubes proof options) makes = makes.0
is_named name rows (Serve port input cubes proof options) makes = makes.0
is_named name rows (Work port input proof options) makes = makes.0
is_named name rows (Drill input seed turns) makes = makes.0
is_named name rows (Leaf input cubes leaf) makes = makes.0
is_named name rows (Refute input cubes leaf to grow limit fragment printing binary) makes = makes.0
is_named name rows (Join input cubes proof fragments printing binary) makes = makes.0
is_named name rows (Lift input cubes leaf to lidrup drat proof fragment binary) makes = makes.0
is_named name rows (Model input output) makes = makes.0
is_named name rows (Trim input proof out binary) makes = makes.0
is_named name rows (Elaborate input drat lrat progress binary) makes = makes.0
is_named name rows (Receipt input cubes log receipt) makes = makes.0
is_named name rows (Cover input cubes receipts quiet) makes = makes.0
is_named name rows (Session input proof limit witness) makes = makes.0
is_named name rows (Share input folder cubes leaf seed limit turn printing) makes = makes.0
is_named name rows (Weave input folder log cubes binary) makes = makes.0

pub only_check : (rows : List Row) → ((input : Bor Text) (proof : Bor Text) (session drat progress : Bool) → Makes (codes "check") rows (Check input proof session drat progress) → ⊥) → (r : Request) → Makes (codes "check") rows r → ⊥
only_check rows none (Check input proof session drat progress) makes = none input proof session drat progress makes
only_check rows none other makes = differ (codes "check") (name_of other) refl refl (is_named (codes "check") rows other makes)

-- none of the requests of `cubes` is made
pub record MakesNoCubes (rows : List Row) : Type 0 where
  pub cubing : (input : Bor Text) (depth : ℕ) → Makes (codes "cubes") rows (Cubes input depth) → ⊥
  pub looking : (input : Bor Text) (leaves : ℕ) → Makes (codes "cubes") rows (Look input leaves) → ⊥
  pub splitting : (input cubes : Bor Text) (leaf : ℕ) (on : Option ℕ) → Makes (codes "cubes") rows (Split input cubes leaf on) → ⊥
  pub by_look : (input cubes : Bor Text) (leaf : ℕ) → Makes (codes "cubes") rows (SplitByLook input cubes leaf) → ⊥
  pub completing : (input list : Bor Text) → Makes (codes "cubes") rows (Complete input list) → ⊥

pub only_cubes : (rows : List Row) → MakesNoCubes rows → (r : Request) → Makes (codes "cubes") rows r → ⊥
only_cubes rows none (Cubes input depth) makes = none.cubing input depth makes
only_cubes rows none (Look input leaves) makes = none.looking input leaves makes
only_cubes rows none (Split input cubes leaf on) makes = none.splitting input cubes leaf on makes
only_cubes rows none (SplitByLook input cubes leaf) makes = none.by_look input cubes leaf makes
only_cubes rows none (Complete input list) makes = none.completing input list makes
only_cubes rows none other makes = differ (codes "cubes") (name_of other) refl refl (is_named (codes "cubes") rows other makes)

pub only_decide : (rows : List Row) → ((input : Bor Text) (proof : Option (Bor Text)) (limit : Option ℕ) (progress stats : Bool) (printing : Printing) (binary : Bool) → Makes (codes "decide") rows (Decide input proof limit progress stats printing binary) → ⊥) → (r : Request) → Makes (codes "decide") rows r → ⊥
only_decide rows none (Decide input proof limit progress stats printing binary) makes = none input proof limit progress stats printing binary makes
only_decide rows none other makes = differ (codes "decide") (name_of other) refl refl (is_named (codes "decide") rows other makes)

pub only_solve : (rows : List Row) → ((input : Bor Text) (cubes : Option (Bor Text)) (proof : Option (Bor Text)) (options : Options) → Makes (codes "solve") rows (Solve input cubes proof options) → ⊥) → (r : Request) → Makes (codes "solve") rows r → ⊥
only_solve rows none (Solve input cubes proof options) makes = none input cubes proof options makes
only_solve rows none other makes = differ (codes "solve") (name_of other) refl refl (is_named (codes "solve") rows other makes)

pub only_serve : (rows : List Row) → ((port : ℕ) (input : Bor Text) (cubes : Option (Bor Text)) (proof : Option (Bor Text)) (options : Options) → Makes (codes "serve") rows (Serve port input cubes proof options) → ⊥) → (r : Request) → Makes (codes "serve") rows r → ⊥
only_serve rows none (Serve port input cubes proof options) makes = none port input cubes proof options makes
only_serve rows none other makes = differ (codes "serve") (name_of other) refl refl (is_named (codes "serve") rows other makes)

pub only_work : (rows : List Row) → ((port : ℕ) (input : Bor Text) (proof : Option (Bor Text)) (options : Options) → Makes (codes "work") rows (Work port input proof options) → ⊥) → (r : Request) → Makes (codes "work") rows r → ⊥
only_work rows none (Work port input proof options) makes = none port input proof options makes
only_work rows none other makes = differ (codes "work") (name_of other) refl refl (is_named (codes "work") rows other makes)

pub only_drill : (rows : List Row) → ((input : Bor Text) (seed : ℕ) (turns : ℕ) → Makes (codes "drill") rows (Drill input seed turns) → ⊥) → (r : Request) → Makes (codes "drill") rows r → ⊥
only_drill rows none (Drill input seed turns) makes = none input seed turns makes
only_drill rows none other makes = differ (codes "drill") (name_of other) refl refl (is_named (codes "drill") rows other makes)

pub only_leaf : (rows : List Row) → ((input : Bor Text) (cubes : Bor Text) (leaf : ℕ) → Makes (codes "leaf") rows (Leaf input cubes leaf) → ⊥) → (r : Request) → Makes (codes "leaf") rows r → ⊥
only_leaf rows none (Leaf input cubes leaf) makes = none input cubes leaf makes
only_leaf rows none other makes = differ (codes "leaf") (name_of other) refl refl (is_named (codes "leaf") rows other makes)

pub only_refute : (rows : List Row) → ((input : Bor Text) (cubes : Bor Text) (leaf : ℕ) (to : Option ℕ) (grow : Bool) (limit : ℕ) (fragment : Option (Bor Text)) (printing : Printing) (binary : Bool) → Makes (codes "refute") rows (Refute input cubes leaf to grow limit fragment printing binary) → ⊥) → (r : Request) → Makes (codes "refute") rows r → ⊥
only_refute rows none (Refute input cubes leaf to grow limit fragment printing binary) makes = none input cubes leaf to grow limit fragment printing binary makes
only_refute rows none other makes = differ (codes "refute") (name_of other) refl refl (is_named (codes "refute") rows other makes)

pub only_join : (rows : List Row) → ((input : Bor Text) (cubes : Bor Text) (proof : Option (Bor Text)) (fragments : Vec (Bor Text) Global) (printing : Printing) (binary : Bool) → Makes (codes "join") rows (Join input cubes proof fragments printing binary) → ⊥) → (r : Request) → Makes (codes "join") rows r → ⊥
only_join rows none (Join input cubes proof fragments printing binary) makes = none input cubes proof fragments printing binary makes
only_join rows none other makes = differ (codes "join") (name_of other) refl refl (is_named (codes "join") rows other makes)

-- each request of `join` names a file
pub joins_some : (rows : List Row) (proof : Option (Bor Text)) (files : List (Bor Text)) → ((names : List (Bor Text)) → NamesFiles rows (codes "NAME") names → ⊥)
    → NamesJoined rows proof files → ⊥
joins_some rows None files none joined = none files joined.1
joins_some rows (Some proof) files none joined = none (proof ∷ files) joined.1

pub only_lift : (rows : List Row) → ((input : Bor Text) (cubes : Bor Text) (leaf to : Option ℕ) (lidrup drat : Bool) (proof : Bor Text) (fragment : Bor Text) (binary : Bool) → Makes (codes "lift") rows (Lift input cubes leaf to lidrup drat proof fragment binary) → ⊥) → (r : Request) → Makes (codes "lift") rows r → ⊥
only_lift rows none (Lift input cubes leaf to lidrup drat proof fragment binary) makes = none input cubes leaf to lidrup drat proof fragment binary makes
only_lift rows none other makes = differ (codes "lift") (name_of other) refl refl (is_named (codes "lift") rows other makes)

pub only_model : (rows : List Row) → ((input : Bor Text) (output : Bor Text) → Makes (codes "model") rows (Model input output) → ⊥) → (r : Request) → Makes (codes "model") rows r → ⊥
only_model rows none (Model input output) makes = none input output makes
only_model rows none other makes = differ (codes "model") (name_of other) refl refl (is_named (codes "model") rows other makes)

pub only_trim : (rows : List Row) → ((input : Bor Text) (proof : Bor Text) (out : Bor Text) (binary : Bool) → Makes (codes "trim") rows (Trim input proof out binary) → ⊥) → (r : Request) → Makes (codes "trim") rows r → ⊥
only_trim rows none (Trim input proof out binary) makes = none input proof out binary makes
only_trim rows none other makes = differ (codes "trim") (name_of other) refl refl (is_named (codes "trim") rows other makes)

pub only_elaborate : (rows : List Row) → ((input : Bor Text) (drat : Bor Text) (lrat : Bor Text) (progress binary : Bool) → Makes (codes "elaborate") rows (Elaborate input drat lrat progress binary) → ⊥) → (r : Request) → Makes (codes "elaborate") rows r → ⊥
only_elaborate rows none (Elaborate input drat lrat progress binary) makes = none input drat lrat progress binary makes
only_elaborate rows none other makes = differ (codes "elaborate") (name_of other) refl refl (is_named (codes "elaborate") rows other makes)

pub only_receipt : (rows : List Row) → ((input : Bor Text) (cubes : Bor Text) (log : Bor Text) (receipt : Bor Text) → Makes (codes "receipt") rows (Receipt input cubes log receipt) → ⊥) → (r : Request) → Makes (codes "receipt") rows r → ⊥
only_receipt rows none (Receipt input cubes log receipt) makes = none input cubes log receipt makes
only_receipt rows none other makes = differ (codes "receipt") (name_of other) refl refl (is_named (codes "receipt") rows other makes)

pub only_cover : (rows : List Row) → ((input : Bor Text) (cubes : Bor Text) (receipts : Vec (Bor Text) Global) (quiet : Bool) → Makes (codes "cover") rows (Cover input cubes receipts quiet) → ⊥) → (r : Request) → Makes (codes "cover") rows r → ⊥
only_cover rows none (Cover input cubes receipts quiet) makes = none input cubes receipts quiet makes
only_cover rows none other makes = differ (codes "cover") (name_of other) refl refl (is_named (codes "cover") rows other makes)

pub only_session : (rows : List Row) → ((input : Bor Text) (proof : Option (Bor Text)) (limit : Option ℕ) (witness : Bool) → Makes (codes "session") rows (Session input proof limit witness) → ⊥) → (r : Request) → Makes (codes "session") rows r → ⊥
only_session rows none (Session input proof limit witness) makes = none input proof limit witness makes
only_session rows none other makes = differ (codes "session") (name_of other) refl refl (is_named (codes "session") rows other makes)

pub only_share : (rows : List Row) → ((input : Bor Text) (folder : Bor Text) (cubes : Option (Bor Text)) (leaf seed limit : Option ℕ) (turn : ℕ) (printing : Printing) → Makes (codes "share") rows (Share input folder cubes leaf seed limit turn printing) → ⊥) → (r : Request) → Makes (codes "share") rows r → ⊥
only_share rows none (Share input folder cubes leaf seed limit turn printing) makes = none input folder cubes leaf seed limit turn printing makes
only_share rows none other makes = differ (codes "share") (name_of other) refl refl (is_named (codes "share") rows other makes)

pub only_weave : (rows : List Row) → ((input : Bor Text) (folder : Bor Text) (log : Bor Text) (cubes : Option (Bor Text)) (binary : Bool) → Makes (codes "weave") rows (Weave input folder log cubes binary) → ⊥) → (r : Request) → Makes (codes "weave") rows r → ⊥
only_weave rows none (Weave input folder log cubes binary) makes = none input folder log cubes binary makes
only_weave rows none other makes = differ (codes "weave") (name_of other) refl refl (is_named (codes "weave") rows other makes)

some_same : {X : Type 0} (a b : X) → Some a ≡ Some b → a ≡ b
some_same a b e = cc

-- what the words ask for is made of the rows of the command that they name
pub asks_of : (words : List Text) (name : Text) (rows : List Row) (r : Request) → subcommand_of program words ≡ Some (name, rows) → AsksFor words r → Makes name rows r
asks_of words name rows r is asks =
    subst (λ (p : Text × List Row). Makes p.0 p.1 r) (some_same (asks.name, asks.rows) (name, rows) (sym asks.command ∙ is)) asks.makes

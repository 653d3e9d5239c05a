-- The rules of the program's words, as rules of `clap`.
use Rattle.std.specs.Prelude.{◌-◌, ◌^◌, true, false, codes}
use Rattle.std.specs.Str.{byte}
use Rattle.clap.specs.Simple.{on_top}
use Rattle.clap.specs.Words.{App, Rule, Text, new_app, with_rule, with_subcommand}
use Rattle.option_table.specs.Rules.{any_number_rule, file_rule, files_rule, flag_rule, long_flag_rule, named_file_rule, needed_file_rule, needed_number_rule, number_rule}

-- with the words `[--workers N] [--depth D] [--limit L] [--cubes FILE]`: N from 1 to 64, by default 2, D by the rule `depth`, and L from 1
-- to 1,000,000,000, by default `limit`
abbrev pub with_search : Rule → Text → App → App
with_search depth limit a =
    with_rule (with_rule (with_rule (with_rule a (number_rule (codes "workers") 1 64 (codes "2"))) depth)
    (number_rule (codes "limit") 1 1000000000 limit)) (named_file_rule (codes "cubes"))

-- with the words `[-q] [-n]`
abbrev pub with_printing : App → App
with_printing a = with_rule (with_rule a (flag_rule (codes "quiet") (byte "q"))) (flag_rule (codes "no-witness") (byte "n"))

-- with the word `[--binary]`
abbrev pub with_binary : App → App
with_binary a = with_rule a (long_flag_rule (codes "binary"))

-- with the words `[--defs K] [--binary] [-q] [-n] INPUT [PROOF]`: K from 0 to 64, by default 0
abbrev pub with_files : App → App
with_files a =
    with_rule (with_rule (with_printing (with_binary (with_rule a (number_rule (codes "defs") 0 64 (codes "0"))))) (file_rule (codes "INPUT") true))
    (file_rule (codes "PROOF") false)

-- with the words `--cubes FILE --leaf I`: I from 1 to 4,294,967,295
abbrev pub with_leaf : App → App
with_leaf a = with_rule (with_rule a (needed_file_rule (codes "cubes"))) (needed_number_rule (codes "leaf") 1 (2 ^ 32 - 1))

-- `[--large]`
abbrev pub large_app : Text → App
large_app name = with_rule (new_app name) (long_flag_rule (codes "large"))

-- `check [--large] [--session] [--drat] [--progress] INPUT PROOF`
abbrev pub check_app : App
check_app =
    with_rule (with_rule (with_rule (with_rule (with_rule (large_app (codes "check")) (long_flag_rule (codes "session"))) (long_flag_rule (codes "drat")))
    (long_flag_rule (codes "progress"))) (file_rule (codes "INPUT") true)) (file_rule (codes "PROOF") true)

-- `cubes [--large] [--depth D] [--look N] [--cubes FILE] [--split I] [--on V] [--complete FILE] INPUT`: D from 0 to 16, N from 1 to 65,536,
-- I from 1 to 4,294,967,295, and V from 1 to 2 ^ 31 - 1
abbrev pub cubes_app : App
cubes_app =
    with_rule (with_rule (with_rule (with_rule (with_rule (with_rule (with_rule (large_app (codes "cubes")) (any_number_rule (codes "depth") 0 16))
    (any_number_rule (codes "look") 1 65536)) (named_file_rule (codes "cubes"))) (any_number_rule (codes "split") 1 (2 ^ 32 - 1)))
    (any_number_rule (codes "on") 1 (2 ^ 31 - 1))) (named_file_rule (codes "complete"))) (file_rule (codes "INPUT") true)

-- `decide [--large] [--limit L] [--progress] [--stats] [--binary] [-q] [-n] INPUT [PROOF]`: L from 1 to 1,000,000,000
abbrev pub decide_app : App
decide_app =
    with_rule (with_rule (with_printing (with_binary (with_rule (with_rule (with_rule (large_app (codes "decide"))
    (any_number_rule (codes "limit") 1 1000000000)) (long_flag_rule (codes "progress"))) (long_flag_rule (codes "stats")))))
    (file_rule (codes "INPUT") true)) (file_rule (codes "PROOF") false)

-- `solve [--large] [--progress]`, and the words of a search and of its files: D from 0 to 16, by default 4, and L by default 100,000
abbrev pub solve_app : App
solve_app = with_files (with_search (number_rule (codes "depth") 0 16 (codes "4")) (codes "100000") (with_rule (large_app (codes "solve")) (long_flag_rule (codes "progress"))))

-- `serve --port P [--session S] [--patience T] [--progress] [--rounds]`, and the words of a search and of its files: P from 1 to 65,535, S
-- any number of 64 bits, by default 1, T from 1 to 1,000,000,000, D from 0 to 16, and L by default 1,000,000
abbrev pub serve_app : App
serve_app =
    with_files (with_search (any_number_rule (codes "depth") 0 16) (codes "1000000")
    (with_rule (with_rule (with_rule (with_rule (with_rule (new_app (codes "serve")) (needed_number_rule (codes "port") 1 65535))
    (number_rule (codes "session") 0 (2 ^ 64 - 1) (codes "1"))) (any_number_rule (codes "patience") 1 1000000000)) (long_flag_rule (codes "progress")))
    (long_flag_rule (codes "rounds"))))

-- `work --port P [--number W] [--incarnation I] [--ahead]`, and the words of files: W from 1 to 64, by default 1, and I any number of 64
-- bits, by default 1
abbrev pub work_app : App
work_app =
    with_files (with_rule (with_rule (with_rule (with_rule (new_app (codes "work")) (needed_number_rule (codes "port") 1 65535))
    (number_rule (codes "number") 1 64 (codes "1"))) (number_rule (codes "incarnation") 0 (2 ^ 64 - 1) (codes "1")))
    (long_flag_rule (codes "ahead")))

-- `drill --seed S --turns T INPUT`: S any number of 64 bits, and T from 0 to 100,000
abbrev pub drill_app : App
drill_app =
    with_rule (with_rule (with_rule (new_app (codes "drill")) (needed_number_rule (codes "seed") 0 (2 ^ 64 - 1)))
    (needed_number_rule (codes "turns") 0 100000)) (file_rule (codes "INPUT") true)

-- `leaf [--large] --cubes FILE --leaf I INPUT`: I from 1 to 4,294,967,295
abbrev pub leaf_app : App
leaf_app = with_rule (with_leaf (large_app (codes "leaf"))) (file_rule (codes "INPUT") true)

-- `refute [--large] --cubes FILE --leaf I [--to J] [--grow] [--limit L] [--binary] [-q] [-n] INPUT [FRAGMENT]`: I and J from 1 to
-- 4,294,967,295, and L from 1 to 140,737,488,355,328 = 2^47, which is the default
abbrev pub refute_app : App
refute_app =
    with_rule (with_rule (with_printing (with_binary (with_rule (with_rule (with_rule (with_leaf (large_app (codes "refute"))) (any_number_rule (codes "to") 1 (2 ^ 32 - 1)))
    (long_flag_rule (codes "grow"))) (number_rule (codes "limit") 1 (2 ^ 47) (codes "140737488355328")))))
    (file_rule (codes "INPUT") true)) (file_rule (codes "FRAGMENT") false)

-- `join [--large] [--dry] --cubes FILE [--binary] [-q] [-n] INPUT NAME..`, with one name or more
abbrev pub join_app : App
join_app =
    with_rule (with_rule (with_printing (with_binary (with_rule (with_rule (large_app (codes "join")) (long_flag_rule (codes "dry"))) (needed_file_rule (codes "cubes")))))
    (file_rule (codes "INPUT") true)) (files_rule (codes "NAME"))

-- `lift [--large] --cubes FILE [--leaf I] [--to J] [--lidrup] [--drat] [--binary] INPUT PROOF FRAGMENT`: I and J from 1 to 4,294,967,295
abbrev pub lift_app : App
lift_app =
    with_rule (with_rule (with_rule (with_binary (with_rule (with_rule (with_rule (with_rule (with_rule (large_app (codes "lift")) (needed_file_rule (codes "cubes")))
    (any_number_rule (codes "leaf") 1 (2 ^ 32 - 1))) (any_number_rule (codes "to") 1 (2 ^ 32 - 1))) (long_flag_rule (codes "lidrup"))) (long_flag_rule (codes "drat"))))
    (file_rule (codes "INPUT") true)) (file_rule (codes "PROOF") true)) (file_rule (codes "FRAGMENT") true)

-- `model [--large] INPUT FILE`
abbrev pub model_app : App
model_app = with_rule (with_rule (large_app (codes "model")) (file_rule (codes "INPUT") true)) (file_rule (codes "FILE") true)

-- `trim [--large] [--binary] INPUT PROOF OUT`
abbrev pub trim_app : App
trim_app =
    with_rule (with_rule (with_rule (with_binary (large_app (codes "trim"))) (file_rule (codes "INPUT") true)) (file_rule (codes "PROOF") true)) (file_rule (codes "OUT") true)

-- `elaborate [--large] [--progress] [--binary] INPUT DRAT LRAT`
abbrev pub elaborate_app : App
elaborate_app =
    with_rule (with_rule (with_rule (with_binary (with_rule (large_app (codes "elaborate")) (long_flag_rule (codes "progress")))) (file_rule (codes "INPUT") true))
    (file_rule (codes "DRAT") true)) (file_rule (codes "LRAT") true)

-- `receipt --cubes FILE INPUT LOG RECEIPT`
abbrev pub receipt_app : App
receipt_app =
    with_rule (with_rule (with_rule (with_rule (new_app (codes "receipt")) (needed_file_rule (codes "cubes"))) (file_rule (codes "INPUT") true))
    (file_rule (codes "LOG") true)) (file_rule (codes "RECEIPT") true)

-- `cover --cubes FILE [-q] INPUT NAME..`, with one name or more
abbrev pub cover_app : App
cover_app =
    with_rule (with_rule (with_rule (with_rule (new_app (codes "cover")) (needed_file_rule (codes "cubes"))) (flag_rule (codes "quiet") (byte "q")))
    (file_rule (codes "INPUT") true)) (files_rule (codes "NAME"))

-- `session [--large] [--limit L] [-n] INPUT [PROOF]`: L from 1 to 1,000,000,000
abbrev pub session_app : App
session_app =
    with_rule (with_rule (with_rule (with_rule (large_app (codes "session")) (any_number_rule (codes "limit") 1 1000000000)) (flag_rule (codes "no-witness") (byte "n")))
    (file_rule (codes "INPUT") true)) (file_rule (codes "PROOF") false)

-- `share [--large] [--cubes FILE] [--leaf I] [--seed S] [--limit L] [--turn N] [-q] [-n] INPUT FOLDER`: I from 1 to 4,294,967,295, S any number
-- of 64 bits, L from 1 to 1,000,000,000, and N from 1 to 1,000,000, by default 300
abbrev pub share_app : App
share_app =
    with_rule (with_rule (with_printing (with_rule (with_rule (with_rule (with_rule (with_rule (large_app (codes "share")) (named_file_rule (codes "cubes")))
    (any_number_rule (codes "leaf") 1 (2 ^ 32 - 1))) (any_number_rule (codes "seed") 0 (2 ^ 64 - 1))) (any_number_rule (codes "limit") 1 1000000000))
    (number_rule (codes "turn") 1 1000000 (codes "300")))) (file_rule (codes "INPUT") true)) (file_rule (codes "FOLDER") true)

-- `weave [--large] [--cubes FILE] [--binary] INPUT FOLDER LOG`
abbrev pub weave_app : App
weave_app =
    with_rule (with_rule (with_rule (with_binary (with_rule (large_app (codes "weave")) (named_file_rule (codes "cubes")))) (file_rule (codes "INPUT") true))
    (file_rule (codes "FOLDER") true)) (file_rule (codes "LOG") true)

-- the program without its commands: it has a version, and a command has to be named
abbrev pub bare_program : App
bare_program = on_top (λ s. record s { has_version = true; subcommand_required = true }) (new_app (codes "satcluster"))

-- with the commands on whole formulas
abbrev pub with_formulas : App → App
with_formulas a =
    with_subcommand (with_subcommand (with_subcommand (with_subcommand (with_subcommand (with_subcommand (with_subcommand a decide_app.top) solve_app.top)
    check_app.top) cubes_app.top) serve_app.top) work_app.top) drill_app.top

-- with the commands on leaves, and on what solvers write
abbrev pub with_leaves : App → App
with_leaves a =
    with_subcommand (with_subcommand (with_subcommand (with_subcommand (with_subcommand (with_subcommand (with_subcommand a leaf_app.top) refute_app.top) join_app.top)
    lift_app.top) model_app.top) trim_app.top) elaborate_app.top

-- with the commands on receipts, and that of a session
abbrev pub with_receipts : App → App
with_receipts a = with_subcommand (with_subcommand (with_subcommand a receipt_app.top) cover_app.top) session_app.top

-- with the commands on cells
abbrev pub with_cells : App → App
with_cells a = with_subcommand (with_subcommand a share_app.top) weave_app.top

-- the program with all commands
abbrev pub program : App
program = with_cells (with_receipts (with_leaves (with_formulas bare_program)))

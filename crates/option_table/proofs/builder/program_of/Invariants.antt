use Rattle.std.proofs.Common.{◌≡◌, drop}
use Rattle.clap.specs.Words.{app_of}
use Rattle.option_table.specs.Rules.{app_of_program, with_commands}
use Rattle.option_table.proofs.builder.program_of.Given as goal

-- the commands that are left make of the program what the rules say
abbrev pub invariant-loop-command : goal.invariant-loop-command
invariant-loop-command l = with_commands (app_of l.program) (drop l.command-index l.command-items) ≡ app_of_program l.rules

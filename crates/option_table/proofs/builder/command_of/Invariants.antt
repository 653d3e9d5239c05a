use Rattle.std.proofs.Common.{◌≡◌, drop}
use Rattle.clap.specs.Words.{app_of}
use Rattle.option_table.specs.Rules.{app_of_command, with_words}
use Rattle.option_table.proofs.builder.command_of.Given as goal

-- the words that are left make of the command what the rules say
abbrev pub invariant-loop-word : goal.invariant-loop-word
invariant-loop-word l = with_words (app_of l.command) (drop l.word-index l.word-items) ≡ app_of_command l.rules

-- The rules of words, as rules of `clap`.
use Rattle.std.specs.Prelude.{ℕ, Bool, true, List, [], ◌∷◌, Some}
use Rattle.clap.specs.Simple.{on_top}
use Rattle.clap.specs.Words.{App, Rule, Text, new_app, new_rule, with_rule, with_subcommand}
use Rattle.clap.specs.declared.builder.ArgAction.TheVariants.{Append, Set, SetTrue}
use Rattle.clap.specs.declared.builder.value_parser.ValueParser.TheVariants as vp
use Rattle.option_table.specs.declared.rule_table.CommandRules.{CommandRules}
use Rattle.option_table.specs.declared.rule_table.Need.{Need}
use Rattle.option_table.specs.declared.rule_table.Need.TheVariants.{Required, Optional, Usual}
use Rattle.option_table.specs.declared.rule_table.ProgramRules.{ProgramRules}
use Rattle.option_table.specs.declared.rule_table.Word.{Word}
use Rattle.option_table.specs.declared.rule_table.Word.TheVariants.{File, Files, NamedFile, Number, Flag, LongFlag}

-- the rule of a file, by its position, which may have to be named
abbrev pub file_rule : Text → Bool → Rule
file_rule name required = record (new_rule name) { action = Some Set; required = required }

-- the rule of one file or more, the last words of a command
abbrev pub files_rule : Text → Rule
files_rule name = record (new_rule name) { action = Some Append; required = true }

-- the rule of `--name FILE`, which may be left out
abbrev pub named_file_rule : Text → Rule
named_file_rule name = record (new_rule name) { long = Some name; action = Some Set }

-- the rule of `--name FILE`, which has to be named
abbrev pub needed_file_rule : Text → Rule
needed_file_rule name = record (named_file_rule name) { required = true }

-- the rule of `--name N`, a number from low to high, which is the text `default` if it is left out
abbrev pub number_rule : Text → ℕ → ℕ → Text → Rule
number_rule name low high default = record (new_rule name) {
  long = Some name;
  action = Some Set;
  parser = Some (vp.Unsigned low high);
  defaults = default ∷ [];
}

-- the rule of `--name N`, a number from low to high, which has to be named
abbrev pub needed_number_rule : Text → ℕ → ℕ → Rule
needed_number_rule name low high = record (new_rule name) {
  long = Some name;
  action = Some Set;
  parser = Some (vp.Unsigned low high);
  required = true;
}

-- the rule of `--name N`, a number from low to high, which may be left out
abbrev pub any_number_rule : Text → ℕ → ℕ → Rule
any_number_rule name low high = record (new_rule name) {
  long = Some name;
  action = Some Set;
  parser = Some (vp.Unsigned low high);
}

-- the rule of a flag of one letter
abbrev pub flag_rule : Text → ℕ → Rule
flag_rule name letter = record (new_rule name) { short = Some letter; action = Some SetTrue }

-- the rule of a flag `--name`
abbrev pub long_flag_rule : Text → Rule
long_flag_rule name = record (new_rule name) { long = Some name; action = Some SetTrue }

-- the rule of a number, by whether it has to be named
abbrev pub rule_of_number : Text → ℕ → ℕ → Need → Rule
rule_of_number name low high Required = needed_number_rule name low high
rule_of_number name low high Optional = any_number_rule name low high
rule_of_number name low high (Usual text) = number_rule name low high text.now

-- the rule of a word
abbrev pub rule_of_word : Word → Rule
rule_of_word (File name required help) = file_rule name.now required
rule_of_word (Files name help) = files_rule name.now
rule_of_word (NamedFile name required help) = record (named_file_rule name.now) { required = required }
rule_of_word (Number name low high need help) = rule_of_number name.now low high need
rule_of_word (Flag name letter help) = flag_rule name.now letter
rule_of_word (LongFlag name help) = long_flag_rule name.now

-- a command with these words in addition
abbrev pub with_words : App → List Word → App
with_words a [] = a
with_words a (word ∷ words) = with_words (with_rule a (rule_of_word word)) words

-- the command that these rules describe
abbrev pub app_of_command : CommandRules → App
app_of_command rules = with_words (new_app rules.name.now) rules.words.now

-- a program with these commands in addition
abbrev pub with_commands : App → List CommandRules → App
with_commands a [] = a
with_commands a (command ∷ commands) = with_commands (with_subcommand a (app_of_command command).top) commands

-- the program that these rules describe: it has a version, and a command has to be named
abbrev pub app_of_program : ProgramRules → App
app_of_program rules = with_commands (on_top (λ s. record s { has_version = true; subcommand_required = true }) (new_app rules.name.now)) rules.commands.now

-- What rules make of a command.
use Rattle.std.proofs.Common.{◌≡◌, ◌∙◌, ℕ, ◌+◌, ◌<◌, ◌≤◌, Bool, true, false, not, ◌&&◌, List, [], ◌∷◌, ap, drop, get_or, length, refl, sym}
use Rattle.std.proofs.lemmas.List.{at_drop_all, at_drop_more}
use Rattle.clap.specs.Words.{App, with_rule, with_subcommand}
use Rattle.option_table.specs.Rules.{app_of_command, rule_of_word, with_commands, with_words}
use Rattle.option_table.specs.declared.rule_table.CommandRules.{CommandRules}
use Rattle.option_table.specs.declared.rule_table.Word.{Word}

-- of a command with plain fields the third says that it has no globals
pub no_globals : (a b g rest : Bool) → (a && (b && (not g && rest))) ≡ true → g ≡ false
no_globals false b g rest h = cc
no_globals true false g rest h = cc
no_globals true true true rest h = cc
no_globals true true false rest h = refl

-- words leave the fields of a command plain
pub stays_plain : (a : App) (words : List Word) → a.top.is_plain ≡ true → (with_words a words).top.is_plain ≡ true
stays_plain a [] plain = plain
stays_plain a (word ∷ words) plain = stays_plain (with_rule a (rule_of_word word)) words plain

-- of two tests that hold together the first holds
pub first_holds : (a b : Bool) → (a && b) ≡ true → a ≡ true
first_holds true b h = refl
first_holds false b h = cc

-- a command with one more of the words that are left comes to the same
pub words_go_on : (a b whole : App) (words : List Word) (i : ℕ) (d : Word) → i < length words → b ≡ with_rule a (rule_of_word (get_or words i d))
    → with_words a (drop i words) ≡ whole → with_words b (drop (i + 1) words) ≡ whole
words_go_on a b whole words i d lt is comes =
    ap (λ (x : App). with_words x (drop (i + 1) words)) is ∙ sym (at_drop_more (with_words a) words i d lt) ∙ comes

-- a command with no word left is what it comes to
pub words_end : (a whole : App) (words : List Word) (i : ℕ) → length words ≤ i → with_words a (drop i words) ≡ whole → a ≡ whole
words_end a whole words i past comes = sym (at_drop_all (with_words a) words i past) ∙ comes

-- a program with one more of the commands that are left comes to the same
pub commands_go_on : (a b whole : App) (commands : List CommandRules) (i : ℕ) (d : CommandRules) → i < length commands
    → b ≡ with_subcommand a (app_of_command (get_or commands i d)).top → with_commands a (drop i commands) ≡ whole → with_commands b (drop (i + 1) commands) ≡ whole
commands_go_on a b whole commands i d lt is comes =
    ap (λ (x : App). with_commands x (drop (i + 1) commands)) is ∙ sym (at_drop_more (with_commands a) commands i d lt) ∙ comes

-- a program with no command left is what it comes to
pub commands_end : (a whole : App) (commands : List CommandRules) (i : ℕ) → length commands ≤ i → with_commands a (drop i commands) ≡ whole → a ≡ whole
commands_end a whole commands i past comes = sym (at_drop_all (with_commands a) commands i past) ∙ comes

use Rattle.std.proofs.Common.{◌∙◌, ap}
use Rattle.clap.specs.Simple.{app_of_fields}
use Rattle.clap.specs.Words.{App}
use Rattle.option_table.specs.Rules.{with_words}
use Rattle.option_table.proofs.RulesLemmas.{words_end, words_go_on}
use Rattle.option_table.proofs.builder.command_of.Goals as goal

pub loop-word-init : goal.loop-word-init
loop-word-init c =
    ap (λ (a : App). with_words a c.args.rules.now.words.now)
    (ap app_of_fields c.after_help-command.ensures ∙ ap app_of_fields c.about.ensures ∙ c.new.ensures.app)

pub loop-word-preserved : goal.loop-word-preserved
loop-word-preserved c =
    words_go_on _ _ _ c.args.rules.now.words.now c.loop-word.word-index _ c.loop-word-test.true c.in_ok-command.ensures c.loop-word.invariant

pub returns : goal.returns
returns c = words_end _ _ c.args.rules.now.words.now c.loop-word.word-index c.loop-word-test.false c.loop-word.invariant

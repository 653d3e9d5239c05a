use Rattle.std.proofs.Common.{◌∙◌, ap, true}
use Rattle.clap.specs.Simple.{app_of_fields, on_top}
use Rattle.clap.specs.Words.{App}
use Rattle.option_table.specs.Rules.{with_commands}
use Rattle.option_table.proofs.RulesLemmas.{commands_end, commands_go_on}
use Rattle.option_table.proofs.builder.program_of.Goals as goal

pub loop-command-init : goal.loop-command-init
loop-command-init c =
    ap (λ (a : App). with_commands a c.args.rules.now.commands.now)
    (ap app_of_fields c.subcommand_required-program.ensures
    ∙ ap (on_top (λ s. record s { subcommand_required = true }))
    (ap app_of_fields c.after_help.ensures ∙ ap app_of_fields c.about.ensures ∙ ap app_of_fields c.version.ensures
    ∙ ap (on_top (λ s. record s { has_version = true })) c.new.ensures.app))

pub loop-command-preserved : goal.loop-command-preserved
loop-command-preserved c =
    commands_go_on _ _ _ c.args.rules.now.commands.now c.loop-command.command-index _ c.loop-command-test.true c.in_ok-program.ensures c.loop-command.invariant

pub returns : goal.returns
returns c = commands_end _ _ c.args.rules.now.commands.now c.loop-command.command-index c.loop-command-test.false c.loop-command.invariant

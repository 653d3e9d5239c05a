use Rattle.std.proofs.Common.{◌≡◌, ◌∙◌, ap, refl, true}
use Rattle.std.proofs.lemmas.Result.{IfOk-weaker}
use Rattle.clap.specs.Words.{App, app_of, new_app, with_subcommand}
use Rattle.option_table.proofs.RulesLemmas.{no_globals, stays_plain}
use Rattle.option_table.proofs.builder.with_command.Goals as goal

pub returns : goal.returns
returns c =
    let same = c.in_ok-command.ensures in
    let plain : (app_of c.in_ok-command.command).top.is_plain ≡ true =
    ap (λ (a : App). a.top.is_plain) same ∙ stays_plain (new_app c.args.rules.now.name.now) c.args.rules.now.words.now refl in
    IfOk-weaker c.subcommand.result _ _
    (λ r h. h.shape (no_globals _ _ _ _ plain) ∙ ap (λ (a : App). with_subcommand (app_of c.args.program) a.top) same)
    c.subcommand.ensures

use Rattle.std.proofs.Common.{◌∙◌, ap, option_map}
use Rattle.std.proofs.lemmas.Option.{IfSome_then}
use Rattle.command_line.specs.CommandLine.{NamesNumberOr}
use Rattle.command_line.proofs.WordLemmas.{given_is, left_out_is, unread}
use Rattle.command_line.proofs.commands.words.number_or.Goals as goal

pub returns-in-Some-clause-found : goal.returns-in-Some-clause-found
returns-in-Some-clause-found c =
    let given = c.text.ensures ∙ ap (option_map (λ s. s.now)) c.in-Some.is in
    IfSome_then c.number_in.result c.number_in.ensures.some
    (λ n read. given_is c.args.given.now.rows c.args.name.now c.args.low c.args.high c.args.usual n c.in-Some.text.now given read)

pub returns-in-Some-clause-none : goal.returns-in-Some-clause-none
returns-in-Some-clause-none c =
    let given = c.text.ensures ∙ ap (option_map (λ s. s.now)) c.in-Some.is in
    unread c.number_in.result _ _
    (λ none n (names : NamesNumberOr c.args.given.now.rows c.args.name.now c.args.low c.args.high c.args.usual n). none n (names.given c.in-Some.text.now given))
    c.number_in.ensures.none

pub returns-in-None-clause-found : goal.returns-in-None-clause-found
returns-in-None-clause-found c =
    left_out_is c.args.given.now.rows c.args.name.now c.args.low c.args.high c.args.usual
    (c.text.ensures ∙ ap (option_map (λ s. s.now)) c.in-None.is)

use Rattle.std.proofs.Common.{◌≡◌, ◌∙◌, ap, subst, Some, option_map}
use Rattle.std.proofs.lemmas.Option.{IfSome_then}
use Rattle.clap.specs.Words.{Text, first_of}
use Rattle.command_line.specs.CommandLine.{IsNumber, NamesNumber}
use Rattle.command_line.proofs.WordLemmas.{none_is_read, one_is_read, unread}
use Rattle.command_line.proofs.commands.words.number_of.Goals as goal

pub returns-in-Some-clause-found : goal.returns-in-Some-clause-found
returns-in-Some-clause-found c =
    let given : first_of c.args.name.now c.args.given.now.rows ≡ Some c.in-Some.text.now =
    c.text.ensures ∙ ap (option_map (λ s. s.now)) c.in-Some.is in
    IfSome_then c.number_in.result c.number_in.ensures.some (λ n read. record { written = c.in-Some.text.now; given = given; read = read })

pub returns-in-Some-clause-none : goal.returns-in-Some-clause-none
returns-in-Some-clause-none c =
    let given : first_of c.args.name.now c.args.given.now.rows ≡ Some c.in-Some.text.now =
    c.text.ensures ∙ ap (option_map (λ s. s.now)) c.in-Some.is in
    unread c.number_in.result _ _
    (λ none n (names : NamesNumber c.args.given.now.rows c.args.name.now c.args.low c.args.high n).
    none n (subst (λ (t : Text). IsNumber c.args.low c.args.high t n) (one_is_read (first_of c.args.name.now c.args.given.now.rows) _ _ names.given given) names.read))
    c.number_in.ensures.none

pub returns-in-None-clause-none : goal.returns-in-None-clause-none
returns-in-None-clause-none c n names =
    none_is_read (first_of c.args.name.now c.args.given.now.rows) c.text.result names.written
    c.text.ensures c.in-None.is names.given

use Rattle.std.proofs.Common.{◌∙◌, ap, option_map}
use Rattle.command_line.proofs.WordLemmas.{unnamed}
use Rattle.command_line.proofs.commands.words.is_named.Goals as goal

pub returns-in-Some-clause-yes : goal.returns-in-Some-clause-yes
returns-in-Some-clause-yes c _ none =
    let given = c.text.ensures ∙ ap (option_map (λ s. s.now)) c.in-Some.is in
    unnamed _ _ none given

pub returns-in-None-clause-no : goal.returns-in-None-clause-no
returns-in-None-clause-no c _ =
    c.text.ensures ∙ ap (option_map (λ s. s.now)) c.in-None.is

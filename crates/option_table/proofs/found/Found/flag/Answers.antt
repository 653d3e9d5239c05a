use Rattle.std.proofs.Common.{◌∙◌, ap}
use Rattle.clap.specs.Words.{found_of, one_of}
use Rattle.clap.proofs.WalkLemmas.{one_text-rows}
use Rattle.option_table.proofs.FoundLemmas.{rows_are}
use Rattle.option_table.proofs.found.Found.flag.Goals as goal

pub returns-in-Some-clause-yes : goal.returns-in-Some-clause-yes
returns-in-Some-clause-yes c is =
    c.get_flag.ensures.value (one_text-rows (found_of c.in-Some.matches.now) c.args.name.now ∙ ap (one_of c.args.name.now)
    (rows_are c.self.inside.matches c.args.self.now c.subcommand.result c.in-Some.field-0-0 c.in-Some.matches c.self.view_is c.subcommand.ensures.rows c.in-Some.is) ∙ is)

pub returns-in-Some-clause-no : goal.returns-in-Some-clause-no
returns-in-Some-clause-no c is =
    c.get_flag.ensures.other (one_text-rows (found_of c.in-Some.matches.now) c.args.name.now ∙ ap (one_of c.args.name.now)
    (rows_are c.self.inside.matches c.args.self.now c.subcommand.result c.in-Some.field-0-0 c.in-Some.matches c.self.view_is c.subcommand.ensures.rows c.in-Some.is) ∙ is)

pub returns-in-Some-clause-none : goal.returns-in-Some-clause-none
returns-in-Some-clause-none c is =
    c.get_flag.ensures.none (one_text-rows (found_of c.in-Some.matches.now) c.args.name.now ∙ ap (one_of c.args.name.now)
    (rows_are c.self.inside.matches c.args.self.now c.subcommand.result c.in-Some.field-0-0 c.in-Some.matches c.self.view_is c.subcommand.ensures.rows c.in-Some.is) ∙ is)

use Rattle.std.proofs.Common.{◌∙◌, ap, sym}
use Rattle.clap.specs.Words.{first_of, found_of}
use Rattle.clap.proofs.WalkLemmas.{first_value-rows}
use Rattle.option_table.proofs.FoundLemmas.{rows_are}
use Rattle.option_table.proofs.found.Found.text.Goals as goal

pub returns-in-Some : goal.returns-in-Some
returns-in-Some c =
    sym (c.get_str.ensures ∙ first_value-rows (found_of c.in-Some.matches.now) c.args.name.now
    ∙ ap (first_of c.args.name.now)
    (rows_are c.self.inside.matches c.args.self.now c.subcommand.result c.in-Some.field-0-0 c.in-Some.matches c.self.view_is c.subcommand.ensures.rows c.in-Some.is))

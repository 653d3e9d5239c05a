use Rattle.std.proofs.Common.{◌≡◌, true, List, [], Some, IfOk, IfErr, map, subst}
use Rattle.clap.specs.Words.{App, Row, Text, fault_of, subcommand_of, takes}
use Rattle.command_line.proofs.ProgramLemmas.{is_simple}
use Rattle.option_table.specs.Refusals.{IsRefusalOf}
use Rattle.option_table.specs.declared.parser.Refusal.TheVariants as refusal
use Rattle.command_line.proofs.parser.read_by.Goals as goal

pub parse-requires : goal.parse-requires
parse-requires c = is_simple _ c.requires

pub returns-clause-met : goal.returns-clause-met
returns-clause-met c =
    subst (λ (a : App). IfOk c.parse.result (λ found. subcommand_of a (map (λ w. w.now) c.args.words.now) ≡ Some (found.name, found.rows))) c.requires c.parse.ensures.met

pub returns-clause-taken : goal.returns-clause-taken
returns-clause-taken c =
    subst (λ (a : App). IfOk c.parse.result (λ _. fault_of a (map (λ w. w.now) c.args.words.now) ≡ [])) c.requires c.parse.ensures.taken

pub returns-clause-complete : goal.returns-clause-complete
returns-clause-complete c =
    let texts = map (λ w. w.now) c.args.words.now in
    subst (λ (a : App). (met : Text × List Row) → takes a texts ≡ true → subcommand_of a texts ≡ Some met → IfErr c.parse.result (λ f. f ≡ refusal.NoMemory)) c.requires c.parse.ensures.complete

pub returns-clause-refused : goal.returns-clause-refused
returns-clause-refused c =
    subst (λ (a : App). IfErr c.parse.result (IsRefusalOf a (map (λ w. w.now) c.args.words.now))) c.requires c.parse.ensures.refused

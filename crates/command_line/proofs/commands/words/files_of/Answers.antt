use Rattle.command_line.proofs.WordLemmas.{names_empty, names_files, names_none, none_there, some_there}
use Rattle.command_line.proofs.commands.words.files_of.Goals as goal

pub returns-in-None-clause-none : goal.returns-in-None-clause-none
returns-in-None-clause-none c =
    names_none c.args.given.now.rows c.args.name.now c.texts.result c.texts.ensures c.in-None.is

pub returns-then-is_empty-clause-none : goal.returns-then-is_empty-clause-none
returns-then-is_empty-clause-none c =
    names_empty c.args.given.now.rows c.args.name.now c.texts.result _ c.texts.ensures c.in-Some.is (none_there _ _ c.is_empty.ensures c.if-is_empty.true)

pub returns-clause-found : goal.returns-clause-found
returns-clause-found c =
    names_files c.args.given.now.rows c.args.name.now c.texts.result _ c.in_ok-from_slice.field-0.items
    c.texts.ensures c.in-Some.is c.in_ok-from_slice.ensures.items
    (some_there _ _ c.is_empty.ensures c.if-is_empty.false)

use Rattle.command_line.proofs.RequestLemmas.{only_cubes}
use Rattle.command_line.proofs.WordLemmas.{if_none, unnamed}
use Rattle.command_line.proofs.commands.cubes.looking.Goals as goal

pub returns-in_err-leaves-clause-none : goal.returns-in_err-leaves-clause-none
returns-in_err-leaves-clause-none c =
    if_none _ _ (only_cubes c.args.given.now.rows (record {
      cubing = λ input depth makes. c.requires.look makes.7;
      looking = λ input leaves makes. c.in_err-leaves.ensures.none leaves makes.2;
      splitting = λ input cubes leaf on makes. unnamed _ cubes.now c.requires.cubes makes.2;
      by_look = λ input cubes leaf makes. unnamed _ cubes.now c.requires.cubes makes.2;
      completing = λ input list makes. unnamed _ list.now c.requires.list makes.2;
    }))

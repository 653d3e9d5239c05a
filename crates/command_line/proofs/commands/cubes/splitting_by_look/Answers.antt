use Rattle.command_line.proofs.RequestLemmas.{only_cubes}
use Rattle.command_line.proofs.WordLemmas.{if_none, unnamed}
use Rattle.command_line.proofs.commands.cubes.splitting_by_look.Goals as goal

pub returns-in_err-leaf-clause-none : goal.returns-in_err-leaf-clause-none
returns-in_err-leaf-clause-none c =
    if_none _ _ (only_cubes c.args.given.now.rows (record {
      cubing = λ input depth makes. unnamed _ c.args.cubes.now makes.3 c.requires.cubes;
      looking = λ input leaves makes. unnamed _ c.args.cubes.now makes.3 c.requires.cubes;
      splitting = λ input cubes leaf on makes. c.in_err-leaf.ensures.none leaf makes.3;
      by_look = λ input cubes leaf makes. c.in_err-leaf.ensures.none leaf makes.3;
      completing = λ input list makes. unnamed _ list.now c.requires.list makes.2;
    }))

pub returns-in_err-_two-clause-none : goal.returns-in_err-_two-clause-none
returns-in_err-_two-clause-none c =
    if_none _ _ (only_cubes c.args.given.now.rows (record {
      cubing = λ input depth makes. unnamed _ c.args.cubes.now makes.3 c.requires.cubes;
      looking = λ input leaves makes. unnamed _ c.args.cubes.now makes.3 c.requires.cubes;
      splitting = λ input cubes leaf on makes. c.requires.look makes.7;
      by_look = λ input cubes leaf makes. c.in_err-_two.ensures.none 2 makes.4;
      completing = λ input list makes. unnamed _ list.now c.requires.list makes.2;
    }))

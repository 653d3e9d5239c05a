use Rattle.command_line.proofs.RequestLemmas.{only_cubes}
use Rattle.command_line.proofs.WordLemmas.{if_none, unnamed}
use Rattle.command_line.proofs.commands.cubes.asked.Goals as goal

pub returns-in_err-input-clause-none : goal.returns-in_err-input-clause-none
returns-in_err-input-clause-none c =
    if_none _ _ (only_cubes c.args.given.now.rows (record {
      cubing = λ input depth makes. unnamed _ input.now c.in_err-input.ensures makes.1;
      looking = λ input leaves makes. unnamed _ input.now c.in_err-input.ensures makes.1;
      splitting = λ input cubes leaf on makes. unnamed _ input.now c.in_err-input.ensures makes.1;
      by_look = λ input cubes leaf makes. unnamed _ input.now c.in_err-input.ensures makes.1;
      completing = λ input list makes. unnamed _ input.now c.in_err-input.ensures makes.1;
    }))

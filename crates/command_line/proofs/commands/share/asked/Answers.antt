use Rattle.command_line.proofs.RequestLemmas.{only_share}
use Rattle.command_line.proofs.WordLemmas.{if_none, unnamed}
use Rattle.command_line.proofs.commands.share.asked.Goals as goal

pub returns-in_err-input-clause-none : goal.returns-in_err-input-clause-none
returns-in_err-input-clause-none c =
    if_none _ _ (only_share c.args.given.now.rows (λ input folder cubes leaf seed limit turn printing makes. unnamed _ input.now c.in_err-input.ensures makes.1))

pub returns-in_err-folder-clause-none : goal.returns-in_err-folder-clause-none
returns-in_err-folder-clause-none c =
    if_none _ _ (only_share c.args.given.now.rows (λ input folder cubes leaf seed limit turn printing makes. unnamed _ folder.now c.in_err-folder.ensures makes.2))

pub returns-in_err-leaf-clause-none : goal.returns-in_err-leaf-clause-none
returns-in_err-leaf-clause-none c =
    if_none _ _ (only_share c.args.given.now.rows (λ input folder cubes leaf seed limit turn printing makes. c.in_err-leaf.ensures.none leaf makes.4))

pub returns-in_err-seed-clause-none : goal.returns-in_err-seed-clause-none
returns-in_err-seed-clause-none c =
    if_none _ _ (only_share c.args.given.now.rows (λ input folder cubes leaf seed limit turn printing makes. c.in_err-seed.ensures.none seed makes.5))

pub returns-in_err-limit-clause-none : goal.returns-in_err-limit-clause-none
returns-in_err-limit-clause-none c =
    if_none _ _ (only_share c.args.given.now.rows (λ input folder cubes leaf seed limit turn printing makes. c.in_err-limit.ensures.none limit makes.6))

pub returns-in_err-turn-clause-none : goal.returns-in_err-turn-clause-none
returns-in_err-turn-clause-none c =
    if_none _ _ (only_share c.args.given.now.rows (λ input folder cubes leaf seed limit turn printing makes. c.in_err-turn.ensures.none turn makes.7))

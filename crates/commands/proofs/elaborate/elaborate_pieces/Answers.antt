use Rattle.commands.proofs.elaborate.elaborate_pieces.Goals as goal

pub returns-clause-accepted : goal.returns-clause-accepted
returns-clause-accepted g c =
    let F = c.args.formula in
    c.finished.ensures F (c.in_ok-text.ensures.of F c.opened-begun.ensures)

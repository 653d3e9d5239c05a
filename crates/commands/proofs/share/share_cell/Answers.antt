use Rattle.commands.proofs.share.share_cell.Goals as goal

pub returns-clause-shares : goal.returns-clause-shares
returns-clause-shares g c = λ f t.
    let x = c.in_ok-end.ensures.ended f t in
    record { bytes = x.0; text = x.1; log = x.2; tells = x.3; how = c.in_ok-end.end; right = x.4; reports = c.in_ok-report.ensures }

use Rattle.std.proofs.Common.{refl}
use Rattle.commands.proofs.LiftLemmas.{refused_of, uncut_of}
use Rattle.commands.proofs.lift.LeafLiftFilter.end.Goals as goal
use Rattle.lrat_forms.specs.Pieces.{is_cut}

pub returns-in_ok-report-in-Err-clause-ended : goal.returns-in_ok-report-in-Err-clause-ended
returns-in_ok-report-in-Err-clause-ended c =
    let l = c.args.self.lift in
    let told = c.in_ok-report-in-Err.ensures in
    let found = c.in-Err.ensures in
    refused_of l c.in-Err.fault c.is_binary-is_binary.result c.in_ok-report-in-Err.report found.complete found.exact
    (uncut_of (is_cut l.form.stage) c.in-Err.fault _ refl found.wanting told.memory) c.is_binary-is_binary.ensures told.memory told.text

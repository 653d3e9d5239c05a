use Rattle.log_join.specs.Written.{leaves_of}
use Rattle.receipts.specs.Coverage.{absurdity}
use Rattle.receipts.proofs.LeavesLemmas.{complete, leaves_are}
use Rattle.receipts.proofs.cover.Cover.is_complete.Goals as goal

pub returns : goal.returns
returns c = λ F cubes texts h.
    complete F cubes texts (leaves_of c.args.self.now.coverage.joiner) c.is_complete.result (leaves_are F cubes texts c.args.self.now h)
    (c.is_complete.ensures absurdity cubes h.covers.logs h.covers.written h.covers.between)

use Rattle.watches.specs.inner.ScanLaws.{here_pushed}
use Rattle.watches.proofs.scan.ScanPropagator.undo.Goals as goal

pub returns-clause-ready : goal.returns-clause-ready
returns-clause-ready c = λ m h. here_pushed m c.args.trail.now c.cut.new.self c.args.self.now h c.cut.ensures.vars

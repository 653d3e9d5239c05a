use Rattle.std.proofs.Common.{◌++◌, refl, sym}
use Rattle.leaves.proofs.LineLemmas.{on_ok}
use Rattle.leaves.specs.declared.join.FileState.TheVariants.{Log}
use Rattle.leaves.proofs.JoinLemmas.{log_feeds, read_as, stops_kind, stops_standing}
use Rattle.leaves.proofs.join.Join.read.Goals as goal

pub returns-in-Ok-clause-stands : goal.returns-in-Ok-clause-stands
returns-in-Ok-clause-stands c = λ F cubes files bytes written h.
    let old = c.args.self.now in
    let now = c.feed.new.taker in
    let left = c.feed.new.self in
    let piece = c.args.piece.now in
    record {
      formula = h.formula;
      few = h.few;
      logs = h.logs;
      closing = h.closing;
      read = read_as Log old.reading F cubes h.logs (bytes ++ piece) left written now (sym c.requires)
          (log_feeds F cubes h.logs bytes old.begun written old.lines piece now left (read_as old.reading Log F cubes h.logs bytes old.begun written old.lines c.requires h.read) c.in-Ok.ensures.taken.1);
    }

pub returns-in-Line-clause-stands : goal.returns-in-Line-clause-stands
returns-in-Line-clause-stands c =
    on_ok c.keep_fault.result _ _ (stops_standing c.in-Err.fault c.in-Line.fault c.args.self.now _ _ c.args.piece.now c.requires refl c.in-Line.is c.in-Err.ensures.taken) c.keep_fault.ensures

pub returns-in-Line-clause-kind : goal.returns-in-Line-clause-kind
returns-in-Line-clause-kind c = on_ok c.keep_fault.result _ _ (stops_kind c.in-Line.fault c.args.self.now.reading _ _ c.requires) c.keep_fault.ensures

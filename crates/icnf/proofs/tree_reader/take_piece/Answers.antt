use Rattle.std.proofs.Common.{◌++◌, subst}
use Rattle.lrat_text.specs.LineSink.{PieceStops}
use Rattle.lrat_text.specs.declared.line_splitter.PieceFault.TheVariants.{Line}
use Rattle.icnf.specs.inner.Lines.{TakesLine, RefusesLine}
use Rattle.icnf.proofs.PieceLemmas.{hands_lead, stops_refuse}
use Rattle.icnf.proofs.tree_reader.take_piece.Goals as goal

pub returns-in-Ok : goal.returns-in-Ok
returns-in-Ok c = hands_lead c.args.lines.now c.feed.new.taker (c.args.begun.now ++ c.args.piece.now) c.feed.new.self c.in-Ok.ensures.taken.1

pub returns-in-Err-Line : goal.returns-in-Err-Line
returns-in-Err-Line c =
    stops_refuse c.args.lines.now c.feed.new.taker (c.args.begun.now ++ c.args.piece.now) (Line c.in-Err-Line.fault)
    (subst (PieceStops TakesLine RefusesLine c.args.lines.now (c.args.begun.now ++ c.args.piece.now) c.feed.new.taker) c.in-Err-Line.field-0-is c.in-Err-Line.ensures.taken)

use Rattle.std.proofs.Common.{◌++◌, subst}
use Rattle.lrat_check.specs.declared.line_checker.CheckFault.{CheckFault}
use Rattle.lrat_text.specs.LineSink.{PieceStops}
use Rattle.lrat_text.specs.declared.line_splitter.PieceFault.{PieceFault}
use Rattle.lidrup.specs.inner.LineEffects.{RefusesLidrupLine, TakesLidrupLine}
use Rattle.lidrup.proofs.StreamLemmas.{hands_lead, refused_leads}
use Rattle.lidrup.proofs.cube_log.take_piece.Goals as goal

pub returns-in-Ok-clause-took : goal.returns-in-Ok-clause-took
returns-in-Ok-clause-took c = hands_lead c.args.begun.now c.args.lines.now c.args.piece.now c.feed.new.self c.feed.new.taker c.in-Ok.ensures.taken.1

pub returns-in-Err-Line-clause-refused : goal.returns-in-Err-Line-clause-refused
returns-in-Err-Line-clause-refused c = refused_leads c.args.begun.now c.args.lines.now c.args.piece.now c.feed.new.taker c.in-Err-Line.fault
    (subst (λ (f : PieceFault CheckFault). PieceStops TakesLidrupLine RefusesLidrupLine c.args.lines.now (c.args.begun.now ++ c.args.piece.now) c.feed.new.taker f) c.in-Err-Line.field-0-is c.in-Err-Line.ensures.taken)

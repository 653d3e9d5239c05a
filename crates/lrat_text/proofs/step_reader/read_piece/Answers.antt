use Rattle.std.proofs.Common.{◌++◌}
use Rattle.lrat_text.specs.inner.Pieces.{AppendsStep, AppendsNone}
use Rattle.lrat_text.specs.LineSink.{LineRefused}
use Rattle.lrat_text.proofs.PieceLemmas.{splits_by, breaks_by, cut_back}
use Rattle.lrat_text.proofs.step_reader.read_piece.Goals as goal

pub returns-in-Ok-clause-steps : goal.returns-in-Ok-clause-steps
returns-in-Ok-clause-steps c = splits_by c.args.steps.now (c.args.begun.now ++ c.args.piece.now) c.feed.new.taker c.feed.new.self c.in-Ok.ensures.taken.1

pub returns-in-Err-Line-clause-steps : goal.returns-in-Err-Line-clause-steps
returns-in-Err-Line-clause-steps c = λ other.
    let all = c.args.begun.now ++ c.args.piece.now in
    let stops : LineRefused AppendsStep AppendsNone c.args.steps.now all c.feed.new.taker c.in-Err-Line.fault = rw c.in-Err-Line.field-0-is at c.in-Err-Line.ensures.taken in
    breaks_by c.args.steps.now all c.feed.new.taker c.in-Err-Line.fault other stops

pub returns-in-Err-NoMemory-clause-front : goal.returns-in-Err-NoMemory-clause-front
returns-in-Err-NoMemory-clause-front c = cut_back c.args.steps.now (c.args.begun.now ++ c.args.piece.now) c.feed.new.taker c.in-Err-NoMemory.field-0 c.in-Err-NoMemory.ensures.taken

pub returns-in-Err-Line-clause-front : goal.returns-in-Err-Line-clause-front
returns-in-Err-Line-clause-front c = cut_back c.args.steps.now (c.args.begun.now ++ c.args.piece.now) c.feed.new.taker c.in-Err-Line.field-0 c.in-Err-Line.ensures.taken

use Rattle.std.proofs.Common.{subst}
use Rattle.std.specs.declared.alloc.AllocError.{AllocError}
use Rattle.lrat_binary.specs.StepSink.{FeedStops}
use Rattle.lrat_binary.specs.declared.step_sink.FeedFault.{FeedFault}
use Rattle.lrat_forms.specs.inner.WrittenLines.{Refuses, Writes}
use Rattle.lrat_forms.proofs.LineLemmas.{breaks_lines, hands_lines}
use Rattle.lrat_forms.proofs.text_form.read_on.Goals as goal

pub returns-in-Ok : goal.returns-in-Ok
returns-in-Ok c = hands_lines c.args.writer.now c.args.reader.now c.args.piece.now c.feed.new.taker c.feed.new.self c.in-Ok.ensures.1

pub returns-in-Ok-put_fault : goal.returns-in-Ok-put_fault
returns-in-Ok-put_fault c =
    breaks_lines c.args.writer.now c.args.reader.now c.args.piece.now c.feed.new.taker c.in-Some.fault c.feed.new.self c.put_fault.new.writer c.in-Some.ensures.1
    (subst (λ (f : FeedFault AllocError). FeedStops Writes Refuses c.args.writer.now c.args.reader.now c.args.piece.now c.feed.new.taker f) c.in-Some.ensures.0 c.in-Err.ensures)
    c.in-Ok-put_fault.ensures

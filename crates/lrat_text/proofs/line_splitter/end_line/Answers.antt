use Rattle.std.proofs.Common.{length, take, ap, ◌∙◌}
use Rattle.std.proofs.Math.Seq.{take-append_seam}
use Rattle.lrat_text.proofs.line_splitter.end_line.Goals as goal

pub returns-in_ok-extend_from_slice-in-Some-clause-front : goal.returns-in_ok-extend_from_slice-in-Some-clause-front
returns-in_ok-extend_from_slice-in-Some-clause-front c = ap (take (length c.args.begun.now.items)) c.in_ok-extend_from_slice-in-Some.ensures.items ∙ take-append_seam c.args.begun.now.items c.in-Some.text.now

pub returns-in_ok-extend_from_slice-in-None-clause-front : goal.returns-in_ok-extend_from_slice-in-None-clause-front
returns-in_ok-extend_from_slice-in-None-clause-front c = ap (take (length c.args.begun.now.items)) c.in_ok-extend_from_slice-in-None.ensures.items ∙ take-append_seam c.args.begun.now.items c.args.piece.now

use Rattle.std.proofs.Common.{Some, None, ◌∙◌, sym}
use Rattle.frames.proofs.Headers.{kind_read}
use Rattle.frames.proofs.header.after_marks.Goals as goal

pub returns-in-Some : goal.returns-in-Some
returns-in-Some c = c.after_kind.ensures ∙ kind_read c.args.bytes.now (Some c.in-Some.kind) c.in-len1-up.len_at_least (sym c.in-Some.is ∙ c.from_number.ensures)

pub returns-in-None : goal.returns-in-None
returns-in-None c = kind_read c.args.bytes.now None c.in-len1-up.len_at_least (sym c.in-None.is ∙ c.from_number.ensures)

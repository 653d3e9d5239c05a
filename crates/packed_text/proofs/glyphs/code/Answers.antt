use Rattle.packed_text.proofs.GlyphLemmas.{code_at}
use Rattle.packed_text.proofs.glyphs.code.Goals as goal

pub overflow_sub-result : goal.overflow_sub-result
overflow_sub-result c = rw (c.digit_code.ensures, c.other_code.ensures) (code_at c.args.byte c.ranges.byte.fits).least

pub returns-clause-half : goal.returns-clause-half
returns-clause-half c = rw (c.digit_code.ensures, c.other_code.ensures) (code_at c.args.byte c.ranges.byte.fits).half

pub returns-clause-text : goal.returns-clause-text
returns-clause-text c = rw (c.digit_code.ensures, c.other_code.ensures) (code_at c.args.byte c.ranges.byte.fits).text

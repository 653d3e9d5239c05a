use Rattle.std.proofs.Common.{◌∙◌, decimal, sym, ap}
use Rattle.shared_lines.proofs.ByteLemmas.{differ, no_two_ways, number_is_read, number_is_text, one_value}
use Rattle.shared_lines.proofs.number.number_of.Goals as goal

pub returns-in-Err : goal.returns-in-Err
returns-in-Err c = λ n low e. c.in-Err.ensures.cases.0 (number_is_text c.args.word.now n low e)

pub returns-in-Err-parse : goal.returns-in-Err-parse
returns-in-Err-parse c = λ n low e. no_two_ways c.parse.result n _ (number_is_read c.in-Ok.text.now n c.parse.result low (c.in-Ok.ensures.cases.0 ∙ e) c.parse.ensures.value.0) c.in-Err-parse.is

pub returns-then-ne : goal.returns-then-ne
returns-then-ne c = λ n low e.
    differ c.ne.result c.as_bytes.result.now c.args.word.now c.ne.ensures c.if-ne.true
    (c.as_bytes.ensures.value ∙ c.format.ensures.text
    ∙ ap decimal (one_value c.parse.result c.in-Ok-parse.number n c.in-Ok-parse.is (number_is_read c.in-Ok.text.now n c.parse.result low (c.in-Ok.ensures.cases.0 ∙ e) c.parse.ensures.value.0)) ∙ sym e)

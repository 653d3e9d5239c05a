use Rattle.std.proofs.Common.{◌∙◌, decimal, sym}
use Rattle.lrat_text.proofs.CutLemmas.{none_cut}
use Rattle.receipts.proofs.HeadLemmas.{number_cut}
use Rattle.receipts.proofs.header_fields.number_in.Goals as goal

pub returns-in_default : goal.returns-in_default
returns-in_default c = λ n rest low e. none_cut c.args.text.now (decimal n) rest c.in_default.ensures e

pub returns-in-None : goal.returns-in-None
returns-in-None c = λ n rest low e. c.in-None.ensures n low (number_cut n c.in-Some.line.now c.in-Some.rest.now rest low c.in-Some.ensures.1 (sym c.in-Some.ensures.0 ∙ e)).0

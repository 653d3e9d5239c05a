use Rattle.std.proofs.Common.{◌∙◌}
use Rattle.std.proofs.lemmas.Result.{on_ok_weaker}
use Rattle.dimacs.proofs.WritingLemmas.{item_more, line_end}
use Rattle.dimacs.specs.text.Grammar.{literal_text}
use Rattle.dimacs.proofs.writer.put_clause.Goals as goal

pub returns-clause-ok : goal.returns-clause-ok
returns-clause-ok c = on_ok_weaker c.put.result (λ e. e ∙ line_end c.args.out.now.items c.loop-literal.out.items c.args.clause.now c.loop-literal.literal-index c.loop-literal-test.false c.loop-literal.invariant) c.put.ensures.ok

pub loop-literal-preserved : goal.loop-literal-preserved
loop-literal-preserved c = c.in_ok-put_literal.ensures.ok ∙ item_more literal_text c.args.out.now.items c.loop-literal.out.items c.args.clause.now c.loop-literal.literal-index c.literal-item.result c.literal-item.result c.loop-literal-test.true c.literal-item.is c.loop-literal.invariant

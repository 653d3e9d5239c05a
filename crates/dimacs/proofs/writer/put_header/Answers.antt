use Rattle.std.proofs.Common.{codes, decimal}
use Rattle.std.proofs.lemmas.Result.{on_ok_weaker}
use Rattle.dimacs.proofs.WritingLemmas.{five_parts}
use Rattle.dimacs.proofs.writer.put_header.Goals as goal

pub returns-clause-ok : goal.returns-clause-ok
returns-clause-ok c =
    on_ok_weaker c.put-3.result
    (five_parts c.args.out.now.items (codes "p cnf ") (decimal c.args.vars) (codes " ") (decimal c.args.count) (codes "\n") _ _ _ _ _
    c.in_ok-put.ensures.ok c.in_ok-put_number.ensures.ok c.in_ok-put-2.ensures.ok c.in_ok-put_number-2.ensures.ok)
    c.put-3.ensures.ok

use Rattle.std.proofs.Common.{append_assoc, codes}
use Rattle.dimacs.proofs.answer.put_satisfiable.Goals as goal

pub returns-in_ok-put_witness-clause-ok : goal.returns-in_ok-put_witness-clause-ok
returns-in_ok-put_witness-clause-ok c = rw (c.if-witness.true, c.in_ok-put_witness.ensures.ok, c.in_ok-put.ensures.ok) (append_assoc c.args.out.now.items (codes "s SATISFIABLE\n") _)

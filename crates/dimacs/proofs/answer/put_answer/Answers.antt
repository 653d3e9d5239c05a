use Rattle.dimacs.proofs.answer.put_answer.Goals as goal

pub returns-in-Satisfiable-clause-ok : goal.returns-in-Satisfiable-clause-ok
returns-in-Satisfiable-clause-ok c = rw (c.in-Satisfiable.is, ← c.values.ensures) c.put_satisfiable.ensures.ok

pub returns-in-Unsatisfiable-clause-ok : goal.returns-in-Unsatisfiable-clause-ok
returns-in-Unsatisfiable-clause-ok c = rw c.in-Unsatisfiable.is c.put.ensures.ok

pub returns-in-Unknown-clause-ok : goal.returns-in-Unknown-clause-ok
returns-in-Unknown-clause-ok c = rw c.in-Unknown.is c.put-in-Unknown.ensures.ok

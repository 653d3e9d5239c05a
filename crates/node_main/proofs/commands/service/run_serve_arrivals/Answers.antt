use Rattle.node_main.proofs.commands.service.run_serve_arrivals.Goals as goal

pub returns-in-Ok-clause-truth : goal.returns-in-Ok-clause-truth
returns-in-Ok-clause-truth g c = c.serve_arrivals.ensures.truth c.args.input.now _ (c.in-Ok.ensures.starts c.args.input.now c.read.ensures.exact)

use Rattle.cube_solve.proofs.solve_cube.solve_observed.Goals as goal

pub run-requires-clause-assuming : goal.run-requires-clause-assuming
run-requires-clause-assuming g c = c.in_ok-search.ensures.assuming c.args.cube.now

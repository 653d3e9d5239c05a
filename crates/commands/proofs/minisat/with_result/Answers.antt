use Rattle.commands.proofs.SolverLemmas.{refuted_so, unknown_so, written_so}
use Rattle.commands.proofs.minisat.with_result.Goals as goal

pub returns-then-solved-eq20-clause-tells : goal.returns-then-solved-eq20-clause-tells
returns-then-solved-eq20-clause-tells g c L limit known few h =
    written_so _ _ L limit known c.args.solved _ c.kept.result c.kept.ensures.kept (λ stands. refuted_so _ _ L limit known c.args.solved c.if-solved-eq20.true h stands)

pub returns-clause-tells : goal.returns-clause-tells
returns-clause-tells g c L limit known few h = unknown_so _ _ L limit known c.args.solved c.if-solved-eq10.false c.if-solved-eq20.false h c.write_unknown.ensures

use Rattle.std.proofs.Common.{refl, ◌∙◌}
use Rattle.commands.proofs.SolverLemmas.{satisfied_so, written_so}
use Rattle.commands.proofs.minisat.satisfied.Goals as goal

pub returns-clause-tells : goal.returns-clause-tells
returns-clause-tells g c L limit known few ten h =
    written_so _ _ L limit known _ c.deref-2.result.now c.kept.result c.kept.ensures.kept
    (satisfied_so _ _ L limit known few c.args.solved _ c.deref-2.result.now ten refl refl refl c.truncate.ensures.items
    (λ values some e. c.deref-2.ensures.value ∙ c.in_ok-text.ensures values some (c.deref.ensures.value ∙ e)) h)

use Rattle.std.proofs.Common.{rules, [], ◌∙◌, sym, ap}
use Rattle.command_line.specs.SolverWords.{last_or}
use Rattle.command_line.proofs.SolverLemmas.{last_more}
use Rattle.command_line.proofs.solver_words.lists.last_part.Goals as goal

pub loop-more-preserved : goal.loop-more-preserved
loop-more-preserved c = (
  search rules,
  sym (last_more [] c.in-Some.field-0-0.now 47 c.in-Some.more.now) ∙ sym (ap (last_or []) c.in-Some.ensures.parts) ∙ c.loop-more.invariant.1,
)

use Rattle.lrat_text.proofs.NextLemmas.{found_is_line, line_is_found}
use Rattle.lrat_text.proofs.cursor.next.Goals as goal

pub returns-clause-found : goal.returns-clause-found
returns-clause-found c = found_is_line c.args.bytes.now c.args.at c.line_step.result c.line_step.ensures

pub returns-clause-only : goal.returns-clause-only
returns-clause-only c = line_is_found c.args.bytes.now c.args.at c.line_step.result c.line_step.ensures

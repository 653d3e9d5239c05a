use Rattle.std.proofs.Common.{sym, arith}
use Rattle.lrat_text.proofs.GroupLemmas.{start_behind}
use Rattle.lrat_text.proofs.groups.start_of.Goals as goal

pub returns-else-i-eq0 : goal.returns-else-i-eq0
returns-else-i-eq0 c = sym (start_behind 0 c.args.heads.now c.args.i _ _ (omega arith) c.requires)

use Rattle.std.proofs.Common.{◌<◌, subst}
use Rattle.dimacs.specs.logic.Cnf.{Cnf}
use Rattle.cube_split.specs.Pairs.{IsBaseWith}
use Rattle.cluster.proofs.members.Members.new.Goals as goal

pub with_defs-requires-clause-inside : goal.with_defs-requires-clause-inside
with_defs-requires-clause-inside c = λ B is. c.requires.inside B (subst (λ (F : Cnf). IsBaseWith F c.args.defs B) c.in_ok-copy.ensures is)

pub with_defs-requires-clause-narrow : goal.with_defs-requires-clause-narrow
with_defs-requires-clause-narrow c = λ more. c.requires.narrow (subst (λ (F : Cnf). 1000000 < F.vars) c.in_ok-copy.ensures more)

use Rattle.std.proofs.Common.{sym, subst}
use Rattle.std.specs.List.{All}
use Rattle.dimacs.specs.logic.Literal.{IsWithin}
use Rattle.cube_solve.proofs.lemma_stats.lbd_up_to.Goals as goal

pub count-requires : goal.count-requires
count-requires c =
    let s = c.in-Some.ensures.some.1 in
    subst (All (IsWithin c.args.trail.now.vars)) (sym (c.clause.ensures.literals s.0 s.1)) (c.requires c.in-Some.at.number s.0 (c.in-Some.at.place, s.1.0))

use Rattle.std.proofs.Common.{sym, subst}
use Rattle.std.specs.List.{All}
use Rattle.dimacs.specs.logic.Literal.{IsWithin}
use Rattle.cube_solve.proofs.root_units.implied_by.Goals as goal

pub true_in-requires : goal.true_in-requires
true_in-requires c =
    let s = c.in-Some.ensures.some.1 in
    subst (All (IsWithin c.args.trail.now.vars)) (sym (c.clause.ensures.literals s.0 s.1)) (c.requires c.in-Some.at.number s.0 (c.in-Some.at.place, s.1.0))

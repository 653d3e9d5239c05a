use Rattle.std.specs.Vec.{vec_len}
use Rattle.lrat_check.proofs.Tables.{AllFit-either, AllFit-longer}
use Rattle.lrat_check.proofs.rup.RupChecker.put.Goals as goal

pub invariant_of-self-2 : goal.invariant_of-self-2
invariant_of-self-2 c =
    AllFit-either c.insert.result (vec_len c.begin.new.self.table) c.self.inside.clauses c.insert.new.self c.args.number c.args.lits.now
    (AllFit-longer (vec_len c.self.inside.marks.table) (vec_len c.begin.new.self.table) c.self.inside.clauses c.begin.ensures.longer c.self.invariant)
    c.in_ok-begin.ensures.fits c.insert.ensures.ok c.insert.ensures.err

use Rattle.std.proofs.Common.{refl, arith}
use Rattle.cube_solve.proofs.stepwise.Stepwise.new.Goals as goal

pub returns : goal.returns
returns g c = λ q distinct within.
    let e = c.in_ok-new.ensures in
    let i = e.searching in
    record {
      steady = i.steady;
      learnt = i.learnt;
      lemmas = i.lemmas;
      noted = i.noted;
      assuming = e.assuming q;
      distinct = distinct;
      within = within;
      base = c.vars.ensures.valid;
      clauses = c.len.ensures;
      most = c.min.ensures;
      few = omega arith;
      taken = refl;
    }

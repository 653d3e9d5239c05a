use Rattle.cube_solve.proofs.SessionLogLemmas.{tells_on}
use Rattle.std.proofs.Common.{sym, ◌∙◌, subst, arith}
use Rattle.std.specs.List.{All}
use Rattle.dimacs.specs.logic.Literal.{IsWithin}
use Rattle.cube_solve.proofs.session.Session.search_query.Goals as goal

pub descend-requires-clause-within : goal.descend-requires-clause-within
descend-requires-clause-within g c = subst (λ v. All (IsWithin v) c.args.query.now) (sym c.turns.invariant.vars) c.requires.within

pub turns-preserved : goal.turns-preserved
turns-preserved g c =
    let t = c.in_ok-handle_conflict-in-Clause.ensures in
    let d = c.descend.ensures in
    let i = c.turns.invariant in
    record {
      ready = t.ready;
      given = λ F h. t.given F (d.given F (i.given F h));
      tells = tells_on c.args.self.now c.turns.self c.handle_conflict.new.self i.tells (tells_on c.turns.self c.descend.new.self c.handle_conflict.new.self d.tells t.tells);
      vars = t.vars ∙ d.vars ∙ i.vars;
      last = (let x = t.last in let y = d.last in let z = i.last in omega arith);
      assuming = t.assuming c.args.query.now d.assuming;
      within = (let w = i.within in let n = c.if-learnt-limit.false in omega arith);
    }

pub returns-in-Model-clause-tells : goal.returns-in-Model-clause-tells
returns-in-Model-clause-tells g c = tells_on c.args.self.now c.turns.self c.descend.new.self c.turns.invariant.tells c.descend.ensures.tells

pub returns-in-Assumption-clause-tells : goal.returns-in-Assumption-clause-tells
returns-in-Assumption-clause-tells g c = tells_on c.args.self.now c.turns.self c.descend.new.self c.turns.invariant.tells c.descend.ensures.tells

pub returns-then-level-self-clause-tells : goal.returns-then-level-self-clause-tells
returns-then-level-self-clause-tells g c = tells_on c.args.self.now c.turns.self c.descend.new.self c.turns.invariant.tells c.descend.ensures.tells

pub returns-then-learnt-limit-clause-tells : goal.returns-then-learnt-limit-clause-tells
returns-then-learnt-limit-clause-tells g c = tells_on c.args.self.now c.turns.self c.descend.new.self c.turns.invariant.tells c.descend.ensures.tells

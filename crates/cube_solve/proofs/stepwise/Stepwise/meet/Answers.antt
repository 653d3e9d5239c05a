use Rattle.std.proofs.Common.{◌≡◌, ◌++◌, arith}
use Rattle.conflict_analysis.specs.declared.final_analysis.Closing.TheVariants as closing
use Rattle.cube_solve.specs.Outcome.{allowed}
use Rattle.cube_solve.proofs.SearchLemmas.{closes_clause, limited}
use Rattle.cube_solve.proofs.StepwiseLemmas.{closed_at}
use Rattle.cube_solve.proofs.stepwise.Stepwise.meet.Goals as goal

pub returns-then-level-self : goal.returns-then-level-self
returns-then-level-self g c = λ B limit before h.
    let s = c.args.self.now in
    let q = c.args.cube.now in
    let e = c.in_ok-close.ensures in
    closed_at g.P.Propagator.is_ready g.P.Propagator.attached B q limit before s h (closing.Clause c.args.number) c.close.new.self e
    (closes_clause q s.search.state.trail.entries s.search.state.assumed c.args.number e.lits h.assuming (let p = c.level.ensures.present in let t = c.if-level-self.true in omega arith) e.negates)

pub returns-then-self : goal.returns-then-self
returns-then-self g c = λ B limit before h.
    let s = c.args.self.now in
    let q = c.args.cube.now in
    let full : s.learnt ≡ allowed limit = (let e = c.if-self.true in let m = h.most in omega arith) in
    let ends = limited B q (allowed limit) s.learnt c.args.number _ s.search.state.arena s.search.state.trail s.search.state.assumed (before ++ s.search.log) h.learnt h.assuming (h.steady).state
    c.entries.ensures.valid c.requires.conflict (let p = c.level.ensures.present in let t = c.if-level-self.false in omega arith) full in
    (h, record { honest = ends.0; fresh = ends.1; conflict = ends.2 }, full)

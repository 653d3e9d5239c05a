use Rattle.std.proofs.Common.{◌++◌}
use Rattle.clause_arena.specs.Clauses.{live_of}
use Rattle.conflict_analysis.specs.declared.final_analysis.Closing.TheVariants as closing
use Rattle.cube_solve.proofs.SearchLemmas.{closes_assumption, false_assumption, model_read, satisfied}
use Rattle.cube_solve.proofs.StepwiseLemmas.{closed_at, few_vars}
use Rattle.cube_solve.proofs.stepwise.Stepwise.turn.Goals as goal

pub read_model-requires : goal.read_model-requires
read_model-requires g c =
    let (B, limit, before, h) = c.requires in
    few_vars g.P.Propagator.is_ready g.P.Propagator.attached B c.args.cube.now limit before c.descend.new.self (c.descend.ensures.under B limit before h)

pub close-requires-clause-under : goal.close-requires-clause-under
close-requires-clause-under g c =
    let (B, limit, before, h) = c.requires in
    (B, c.args.cube.now, limit, before, c.descend.ensures.under B limit before h)

pub close-requires-clause-closing : goal.close-requires-clause-closing
close-requires-clause-closing g c =
    let (B, limit, before, old) = c.requires in
    let s = c.descend.new.self in
    let h = c.descend.ensures.under B limit before old in
    let f = c.in-Assumption.ensures.found in (
      f.1,
      false_assumption c.args.cube.now (live_of s.search.state.arena) s.search.state.trail.entries s.search.state.assumed c.in-Assumption.literal h.distinct h.assuming ((h.steady).state).built f.0 f.1,
    )

pub meet-requires-clause-under : goal.meet-requires-clause-under
meet-requires-clause-under g c =
    let (B, limit, before, h) = c.requires in
    (B, limit, before, c.descend.ensures.under B limit before h)

pub returns-in_ok-values-in-Model : goal.returns-in_ok-values-in-Model
returns-in_ok-values-in-Model g c = λ B limit before old.
    let q = c.args.cube.now in
    let s = c.descend.new.self in
    let h = c.descend.ensures.under B limit before old in
    let f = c.in-Model.ensures.found in
    let e = c.in_ok-values-in-Model.ensures in (
      h,
      model_read B q s.search.state.trail c.in_ok-values-in-Model.values h.within
          (satisfied B q s.learnt _ s.search.state.arena s.search.state.trail (before ++ s.search.log) h.learnt (h.steady).state f.0 f.1 f.2) e.len e.values,
    )

pub returns-in_ok-close-in-Assumption : goal.returns-in_ok-close-in-Assumption
returns-in_ok-close-in-Assumption g c = λ B limit before old.
    let q = c.args.cube.now in
    let s = c.descend.new.self in
    let h = c.descend.ensures.under B limit before old in
    let f = c.in-Assumption.ensures.found in
    let e = c.in_ok-close-in-Assumption.ensures in
    closed_at g.P.Propagator.is_ready g.P.Propagator.attached B q limit before s h (closing.Assumption c.in-Assumption.literal) c.close.new.self e
    (closes_assumption q (live_of s.search.state.arena) s.search.state.trail.entries s.search.state.assumed c.in-Assumption.literal e.lits h.assuming ((h.steady).state).built f.0 f.1 e.negates)

pub returns-in_ok-end-in-Clause : goal.returns-in_ok-end-in-Clause
returns-in_ok-end-in-Clause g c = λ B limit before h. c.in_ok-end-in-Clause.ensures B limit before (c.descend.ensures.under B limit before h)

use Rattle.std.proofs.Common.{◌≡◌, ◌+◌, [], refl, arith}
use Rattle.clause_arena.specs.Clauses.{live_of}
use Rattle.watches.specs.Trails.{present}
use Rattle.cube_solve.proofs.BuiltLemmas.{built_level}
use Rattle.cube_solve.proofs.StateLemmas.{state_decided}
use Rattle.cube_solve.proofs.descent.open_level.Goals as goal

pub overflow_add-level : goal.overflow_add-level
overflow_add-level g c = let b = built_level (live_of c.args.arena.now) [] c.args.trail.now.entries (c.requires.state).built in omega arith

pub returns-clause-ready : goal.returns-clause-ready
returns-clause-ready g c = g.met.P.Propagator.pushed c.args.propagator.now c.args.arena.now c.args.trail.now c.push.new.self _ c.requires.ready c.push.ensures.vars c.push.ensures.entries

pub returns-clause-state : goal.returns-clause-state
returns-clause-state g c =
    let f = c.requires.free in
    let l : c.level-level.result + 1 ≡ present c.args.trail.now.entries + 1 = omega (arith, c.level-level.ensures.present) in
    state_decided _ c.args.arena.now c.args.trail.now c.push.new.self _ c.requires.state (λ n C h. c.requires.quiet n C h.1) (record { reason = refl; not_true = f.not_true; not_false = f.not_false; level = l }) c.push.ensures.vars c.push.ensures.entries

pub returns-clause-entry : goal.returns-clause-entry
returns-clause-entry g c =
    let f = c.requires.free in
    let l : c.level-level.result + 1 ≡ present c.args.trail.now.entries + 1 = omega (arith, c.level-level.ensures.present) in
    (_, c.push.ensures.entries, refl, record { reason = refl; not_true = f.not_true; not_false = f.not_false; level = l })

use Rattle.std.proofs.Common.{◌+◌, length, arith}
use Rattle.clause_arena.specs.Clauses.{live_of}
use Rattle.cube_solve.specs.Outcome.{allowed}
use Rattle.cube_solve.proofs.ReductionLemmas.{lemmas_same}
use Rattle.cube_solve.proofs.CountLemmas.{counted, counts_of_model, log_of_model, counts_refuted, counts_at_limit}
use Rattle.cube_solve.proofs.OutcomeLemmas.{ends_in_model, ends_refuted, ends_at_limit}
use Rattle.cube_solve.proofs.SearchLemmas.{closed, limited, satisfied, model_read, search_same, below_next, next_number, closes_assumption, closes_clause, false_assumption}
use Rattle.cube_solve.proofs.UnitClauseLemmas.{noted_same}
use Rattle.cube_solve.proofs.search.Search.run.Goals as goal

pub returns-in-Model-clause-right : goal.returns-in-Model-clause-right
returns-in-Model-clause-right g c =
    let B = c.args.base.now in
    let q = c.args.cube.now in
    let old = c.turns.self in
    let new = c.descend.new.self in
    let f = c.in-Model.ensures.found in
    let s = search_same B c.turns.learnt old.state.arena new.arena old.state.trail new.trail old.log (c.turns.invariant.searching).learnt c.descend.ensures.clauses c.descend.ensures.vars in
    ends_in_model B q c.args.limit c.in_ok-values-in-Model.values
    (model_read B q new.trail c.in_ok-values-in-Model.values c.requires.within
    (satisfied B q c.turns.learnt _ new.arena new.trail old.log s (c.descend.ensures.steady).state f.0 f.1 f.2) c.in_ok-values-in-Model.ensures.len c.in_ok-values-in-Model.ensures.values)

pub returns-in-Model-clause-counts : goal.returns-in-Model-clause-counts
returns-in-Model-clause-counts g c =
    let B = c.args.base.now in
    let old = c.turns.self in
    let i = c.turns.invariant.searching in
    let told = c.counts-counts.ensures in
    let h = counted B c.turns.learnt old.state.arena old.state.trail old.log old.lemmas.items c.counts-counts.result i.learnt i.lemmas told.conflicts told.lemmas in
    counts_of_model B c.args.limit c.counts-counts.result c.in_ok-values-in-Model.values old.log h told.bytes

pub returns-in-Model-clause-log : goal.returns-in-Model-clause-log
returns-in-Model-clause-log g c =
    let B = c.args.base.now in
    let old = c.turns.self in
    let i = c.turns.invariant.searching in
    let told = c.counts-counts.ensures in
    let h = counted B c.turns.learnt old.state.arena old.state.trail old.log old.lemmas.items c.counts-counts.result i.learnt i.lemmas told.conflicts told.lemmas in
    log_of_model B c.counts-counts.result c.in_ok-values-in-Model.values c.into_packed.result old.log h told.bytes c.into_packed.ensures

pub close-requires-clause-closing : goal.close-requires-clause-closing
close-requires-clause-closing g c =
    let new = c.descend.new.self in
    let f = c.in-Assumption.ensures.found in (
      f.1,
      false_assumption c.args.cube.now (live_of new.arena) new.trail.entries new.assumed c.in-Assumption.literal c.requires.distinct c.descend.ensures.assuming ((c.descend.ensures.steady).state).built f.0 f.1,
    )

pub close-requires-clause-numbers : goal.close-requires-clause-numbers
close-requires-clause-numbers g c =
    let old = c.turns.self in
    below_next c.args.base.now c.turns.learnt (c.len.result + 1 + c.turns.learnt) old.state.arena c.descend.new.self.arena old.state.trail old.log
    (let n = c.len.ensures in omega arith) (c.turns.invariant.searching).learnt c.descend.ensures.clauses

pub returns-in-Assumption-clause-right : goal.returns-in-Assumption-clause-right
returns-in-Assumption-clause-right g c =
    let B = c.args.base.now in
    let q = c.args.cube.now in
    let old = c.turns.self in
    let new = c.descend.new.self in
    let f = c.in-Assumption.ensures.found in
    let s = search_same B c.turns.learnt old.state.arena new.arena old.state.trail new.trail old.log (c.turns.invariant.searching).learnt c.descend.ensures.clauses c.descend.ensures.vars in
    let e = c.in_ok-text-in-Assumption.ensures in
    let id = c.len.result + 1 + c.turns.learnt in
    let number = next_number B c.len.result c.turns.learnt c.vars.ensures.valid c.len.ensures (let w = c.turns.invariant.within in let l = c.min-most.ensures in omega arith) in
    rw c.refuted_by.ensures.outcome (ends_refuted B q c.args.limit c.in_ok-text-in-Assumption.text
    (closed B new.trail.vars c.turns.learnt id (live_of new.arena) e.0 old.log c.in_ok-text-in-Assumption.text s.vars (let n = c.len.ensures in omega arith) number s.learnt e.1 q (allowed c.args.limit)
    (let w = c.turns.invariant.within in let l = c.min-most.ensures in omega arith)
    (closes_assumption q (live_of new.arena) new.trail.entries new.assumed c.in-Assumption.literal e.0 c.descend.ensures.assuming ((c.descend.ensures.steady).state).built f.0 f.1 e.2)))

pub returns-in-Assumption-clause-counts : goal.returns-in-Assumption-clause-counts
returns-in-Assumption-clause-counts g c =
    let B = c.args.base.now in
    let old = c.turns.self in
    let i = c.turns.invariant.searching in
    let told = c.counts-counts-in-Assumption.ensures in
    let h = counted B c.turns.learnt old.state.arena old.state.trail old.log old.lemmas.items c.counts-counts-in-Assumption.result i.learnt i.lemmas told.conflicts told.lemmas in
    let e = c.in_ok-text-in-Assumption.ensures in
    let r = c.refuted_by in
    counts_refuted B c.args.limit c.counts-counts-in-Assumption.result r.result.counts r.result.outcome (live_of c.descend.new.self.arena) c.descend.new.self.trail.vars
    (c.len.result + 1 + c.turns.learnt) e.0 old.log c.in_ok-text-in-Assumption.text h e.1 r.ensures.outcome r.ensures.counts

pub close-requires-then-level-self-clause-numbers : goal.close-requires-then-level-self-clause-numbers
close-requires-then-level-self-clause-numbers g c =
    let old = c.turns.self in
    below_next c.args.base.now c.turns.learnt (c.len.result + 1 + c.turns.learnt) old.state.arena c.descend.new.self.arena old.state.trail old.log
    (let n = c.len.ensures in omega arith) (c.turns.invariant.searching).learnt c.descend.ensures.clauses

pub returns-then-level-self-clause-right : goal.returns-then-level-self-clause-right
returns-then-level-self-clause-right g c =
    let B = c.args.base.now in
    let q = c.args.cube.now in
    let old = c.turns.self in
    let new = c.descend.new.self in
    let s = search_same B c.turns.learnt old.state.arena new.arena old.state.trail new.trail old.log (c.turns.invariant.searching).learnt c.descend.ensures.clauses c.descend.ensures.vars in
    let e = c.in_ok-text-in-Clause.ensures in
    let id = c.len.result + 1 + c.turns.learnt in
    let number = next_number B c.len.result c.turns.learnt c.vars.ensures.valid c.len.ensures (let w = c.turns.invariant.within in let l = c.min-most.ensures in omega arith) in
    rw c.refuted_by-then-level-self.ensures.outcome (ends_refuted B q c.args.limit c.in_ok-text-in-Clause.text
    (closed B new.trail.vars c.turns.learnt id (live_of new.arena) e.0 old.log c.in_ok-text-in-Clause.text s.vars (let n = c.len.ensures in omega arith) number s.learnt e.1 q (allowed c.args.limit)
    (let w = c.turns.invariant.within in let l = c.min-most.ensures in omega arith)
    (closes_clause q new.trail.entries new.assumed c.in-Clause.number e.0 c.descend.ensures.assuming (let p = c.level.ensures.present in let t = c.if-level-self.true in omega arith) e.2)))

pub returns-then-level-self-clause-counts : goal.returns-then-level-self-clause-counts
returns-then-level-self-clause-counts g c =
    let B = c.args.base.now in
    let old = c.turns.self in
    let i = c.turns.invariant.searching in
    let told = c.counts-counts-then-level-self.ensures in
    let h = counted B c.turns.learnt old.state.arena old.state.trail old.log old.lemmas.items c.counts-counts-then-level-self.result i.learnt i.lemmas told.conflicts told.lemmas in
    let e = c.in_ok-text-in-Clause.ensures in
    let r = c.refuted_by-then-level-self in
    counts_refuted B c.args.limit c.counts-counts-then-level-self.result r.result.counts r.result.outcome (live_of c.descend.new.self.arena) c.descend.new.self.trail.vars
    (c.len.result + 1 + c.turns.learnt) e.0 old.log c.in_ok-text-in-Clause.text h e.1 r.ensures.outcome r.ensures.counts

pub returns-then-learnt-most-clause-right : goal.returns-then-learnt-most-clause-right
returns-then-learnt-most-clause-right g c =
    let B = c.args.base.now in
    let q = c.args.cube.now in
    let old = c.turns.self in
    let new = c.descend.new.self in
    let s = search_same B c.turns.learnt old.state.arena new.arena old.state.trail new.trail old.log (c.turns.invariant.searching).learnt c.descend.ensures.clauses c.descend.ensures.vars in
    ends_at_limit B q c.args.limit c.into_packed-then-learnt-most.result
    (rw c.into_packed-then-learnt-most.ensures
    (limited B q (allowed c.args.limit) c.turns.learnt c.in-Clause.number _ new.arena new.trail new.assumed old.log s c.descend.ensures.assuming (c.descend.ensures.steady).state c.entries.ensures.valid
    c.in-Clause.ensures.found (let p = c.level.ensures.present in let t = c.if-level-self.false in omega arith) (let e = c.if-learnt-most.true in let l = c.min-most.ensures in omega arith)))

pub returns-then-learnt-most-clause-counts : goal.returns-then-learnt-most-clause-counts
returns-then-learnt-most-clause-counts g c =
    let B = c.args.base.now in
    let old = c.turns.self in
    let i = c.turns.invariant.searching in
    let told = c.counts-counts-then-learnt-most.ensures in
    let h = counted B c.turns.learnt old.state.arena old.state.trail old.log old.lemmas.items c.counts-counts-then-learnt-most.result i.learnt i.lemmas told.conflicts told.lemmas in
    rw c.into_packed-then-learnt-most.ensures (counts_at_limit B c.args.limit c.counts-counts-then-learnt-most.result old.log h told.bytes
    (let e = c.if-learnt-most.true in let l = c.min-most.ensures in let n = told.conflicts in omega arith))

pub handle_conflict-requires-clause-searching : goal.handle_conflict-requires-clause-searching
handle_conflict-requires-clause-searching g c =
    let B = c.args.base.now in
    let old = c.turns.self in
    let new = c.descend.new.self in
    let i = c.turns.invariant.searching in
    record {
      steady = c.descend.ensures.steady;
      learnt = search_same B c.turns.learnt old.state.arena new.arena old.state.trail new.trail old.log i.learnt c.descend.ensures.clauses c.descend.ensures.vars;
      lemmas = lemmas_same (length B.clauses + 1) old.state.arena new.arena old.lemmas.items c.descend.ensures.clauses i.lemmas;
      noted = noted_same old.state.arena new.arena old.units.numbers.items c.descend.ensures.clauses i.noted;
    }

pub turns-preserved : goal.turns-preserved
turns-preserved g c =
    let t = c.in_ok-handle_conflict-in-Clause.ensures in
    record {
      searching = t.searching;
      assuming = t.assuming c.args.cube.now c.descend.ensures.assuming;
      within = (let w = c.turns.invariant.within in let d = c.if-learnt-most.false in omega arith);
    }

use Rattle.std.proofs.Common.{subst}
use Rattle.std.proofs.lemmas.Result.{on_ok_weaker}
use Rattle.clause_arena.specs.Clauses.{live_of}
use Rattle.conflict_analysis.specs.inner.TrailWalk.{IsWalk}
use Rattle.conflict_analysis.proofs.WalkResultLemmas.{conflict_waits, is_lemma, walk_again, walk_apart}
use Rattle.conflict_analysis.proofs.TallyLemmas.{tally_begins, tally_ends}
use Rattle.conflict_analysis.proofs.analyser.Analyser.analyse_into.Goals as goal

pub descend-requires-clause-waits : goal.descend-requires-clause-waits
descend-requires-clause-waits c =
    let e = c.in_ok-analyse_number.ensures in
    conflict_waits (live_of c.args.arena.now) c.args.trail.now c.args.number c.analyse_number.new.self c.requires
    (subst (λ xs. IsWalk c.args.trail.now xs c.analyse_number.new.self) c.entries-entries.ensures.entries e.walk) e.all

pub returns-clause-lemma : goal.returns-clause-lemma
returns-clause-lemma c =
    let e = c.in_ok-descend.ensures in
    on_ok_weaker c.conclude.result (λ hints. is_lemma (live_of c.args.arena.now) c.args.trail.now c.args.number c.analyse_number.new.self c.descend.new.self c.descend.new.lemma c.conclude.new.self
    c.requires c.in_ok-analyse_number.ensures.all e.seen e.ended c.conclude.ensures.lits c.conclude.ensures.level hints) c.conclude.ensures.hints

pub returns-clause-met : goal.returns-clause-met
returns-clause-met c =
    on_ok_weaker c.conclude.result (λ hints. walk_apart (live_of c.args.arena.now) c.args.trail.now c.descend.new.self c.descend.new.lemma c.in_ok-descend.ensures.ended) c.conclude.ensures.hints

pub returns-clause-again : goal.returns-clause-again
returns-clause-again c =
    on_ok_weaker c.conclude.result (λ hints. walk_again (live_of c.args.arena.now) c.args.trail.now c.descend.new.self c.descend.new.lemma c.in_ok-descend.ensures.ended) c.conclude.ensures.hints

pub returns-clause-tally : goal.returns-clause-tally
returns-clause-tally c =
    let live = live_of c.args.arena.now in
    let e = c.in_ok-analyse_number.ensures.noted in
    let h = c.in_ok-descend.ensures in
    let b = tally_begins live c.args.trail.now c.args.number c.begin.new.self c.analyse_number.new.self e.0 c.in_ok-begin.ensures.fresh e.1 e.2 in
    let p = h.tally c.args.number b in
    on_ok_weaker c.conclude.result (λ hints. tally_ends live c.args.trail.now c.args.number p.0 c.descend.new.self c.descend.new.lemma.hints.items c.conclude.new.self.hints.items p.1
    (h.ended.way.walk).listed hints) c.conclude.ensures.hints

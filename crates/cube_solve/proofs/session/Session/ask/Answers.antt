use Rattle.std.proofs.Common.{◌≡◌, sym, ◌∙◌, subst}
use Rattle.std.specs.List.{All, Contains}
use Rattle.std.proofs.lemmas.List.Elements.{All-contains, Contains-get_or}
use Rattle.dimacs.specs.logic.Literal.{Clause, IsWithin}
use Rattle.clause_arena.specs.Clauses.{live_of}
use Rattle.cube_solve.specs.Session.{IsSolution, vars_of}
use Rattle.cube_solve.specs.inner.Twins.{AreTwins}
use Rattle.cube_solve.specs.inner.Queries.{ArePicked, RefutesQuery, IsQueryResult}
use Rattle.cube_solve.proofs.SessionLemmas.{core_fails, live_true, query_true, solution}
use Rattle.cube_solve.proofs.SubsequenceLemmas.{part_trans}
use Rattle.cube_solve.proofs.SessionLogLemmas.{failure, linked_search, tells_on}
use Rattle.cube_solve.proofs.session.Session.ask.Goals as goal

pub begin-requires-clause-marks : goal.begin-requires-clause-marks
begin-requires-clause-marks g c = λ l m. subst (λ (C : Clause). Contains C l) (sym c.deref.ensures.value) (((c.in_ok-kept.ensures.marks).stamped l).0 m)

pub returns-in-Model-clause-answer : goal.returns-in-Model-clause-answer
returns-in-Model-clause-answer g c = λ F h.
    let A = c.args.query.now in
    let k = c.in_ok-kept in
    let e = c.in_ok-sought.ensures in
    let s = c.search_query.new.self.search in
    let t = s.state.trail in
    let q = c.deref-2.result.now in
    let r = c.in_ok-values-in-Model in
    let v : t.vars ≡ vars_of c.args.self.now = e.vars ∙ c.begin.ensures.vars ∙ k.ensures.vars in
    let f = subst (IsQueryResult s.state.arena t q) c.in-Model.is e.sought in
    subst (λ n. IsSolution n F A r.values) v
    (solution F A q _ s.state.arena t s.lemmas.items r.values (e.given F (c.begin.ensures.given F (k.ensures.given F h))) ((e.ready).steady).state f.0 f.1 f.2
    (subst (λ (C : Clause). AreTwins A C) (sym c.deref-2.ensures.value) (k.ensures.marks).twins) (subst (λ n. All (IsWithin n) A) (sym v) c.requires.within) r.ensures.len r.ensures.values)

pub returns-in-Failed-clause-answer : goal.returns-in-Failed-clause-answer
returns-in-Failed-clause-answer g c = λ F h.
    let A = c.args.query.now in
    let k = c.in_ok-kept in
    let e = c.in_ok-sought.ensures in
    let s = c.search_query.new.self.search in
    let t = s.state.trail in
    let q = c.deref-2.result.now in
    let lemma = c.in-Failed.lemma in
    let core = c.in_ok-core-in-Failed in
    let f = subst (IsQueryResult s.state.arena t q) c.in-Failed.is e.sought in
    core_fails F A k.kept.items (live_of s.state.arena) t.vars s.lemmas.items lemma core.core.items (e.given F (c.begin.ensures.given F (k.ensures.given F h)))
    (subst (λ (C : Clause). RefutesQuery (live_of s.state.arena) t.vars C lemma) c.deref-2.ensures.value f)
    (subst (λ (C : Clause). ArePicked C lemma.lits.items core.core.items) c.deref-in-Failed.ensures.value (subst (λ (C : Clause). ArePicked c.deref-in-Failed.result.now C core.core.items) c.deref-in-Failed-2.ensures.value core.ensures.picked))
    (k.ensures.marks).twins (k.ensures.marks).part (k.ensures.marks).distinct

pub returns-in-Model-clause-tells : goal.returns-in-Model-clause-tells
returns-in-Model-clause-tells g c =
    tells_on c.args.self.now c.begin.new.self c.search_query.new.self (tells_on c.args.self.now c.without_repeats.new.self c.begin.new.self c.in_ok-kept.ensures.tells c.begin.ensures.tells) c.in_ok-sought.ensures.tells

pub returns-clause-tells : goal.returns-clause-tells
returns-clause-tells g c =
    tells_on c.args.self.now c.begin.new.self c.search_query.new.self (tells_on c.args.self.now c.without_repeats.new.self c.begin.new.self c.in_ok-kept.ensures.tells c.begin.ensures.tells) c.in_ok-sought.ensures.tells

pub returns-in-Failed-clause-tells : goal.returns-in-Failed-clause-tells
returns-in-Failed-clause-tells g c =
    tells_on c.args.self.now c.search_query.new.self c.core_of.new.self
    (tells_on c.args.self.now c.begin.new.self c.search_query.new.self (tells_on c.args.self.now c.without_repeats.new.self c.begin.new.self c.in_ok-kept.ensures.tells c.begin.ensures.tells) c.in_ok-sought.ensures.tells)
    c.in_ok-core-in-Failed.ensures.tells

pub returns-in-Model-clause-over : goal.returns-in-Model-clause-over
returns-in-Model-clause-over g c = c.in_ok-values-in-Model.ensures.len ∙ c.in_ok-sought.ensures.vars ∙ c.begin.ensures.vars ∙ c.in_ok-kept.ensures.vars

pub returns-in-Failed-clause-over : goal.returns-in-Failed-clause-over
returns-in-Failed-clause-over g c =
    let s = c.search_query.new.self.search in
    let k = c.in_ok-kept in
    let core = c.in_ok-core-in-Failed in
    let p = subst (λ (C : Clause). ArePicked C c.in-Failed.lemma.lits.items core.core.items) c.deref-in-Failed.ensures.value (subst (λ (C : Clause). ArePicked c.deref-in-Failed.result.now C core.core.items) c.deref-in-Failed-2.ensures.value core.ensures.picked) in (
      (λ i d b. All-contains (IsWithin (vars_of c.args.self.now)) k.kept.items _ k.ensures.within (p.within _ (Contains-get_or core.core.items i d b))),
      (subst (IsQueryResult s.state.arena s.state.trail c.deref-2.result.now) c.in-Failed.is c.in_ok-sought.ensures.sought).numbers,
    )

pub returns-in-Failed-clause-failed : goal.returns-in-Failed-clause-failed
returns-in-Failed-clause-failed g c = λ given M h.
    let e = c.in_ok-sought.ensures in
    let s = c.search_query.new.self.search in
    let t = s.state.trail in
    let q = c.deref-2.result.now in
    let lemma = c.in-Failed.lemma in
    let core = c.in_ok-core-in-Failed in
    let f = subst (IsQueryResult s.state.arena t q) c.in-Failed.is e.sought in
    failure (live_of s.state.arena) t.vars c.in_ok-kept.kept.items lemma core.core.items
    (subst (λ (C : Clause). RefutesQuery (live_of s.state.arena) t.vars C lemma) c.deref-2.ensures.value f)
    (subst (λ (C : Clause). ArePicked C lemma.lits.items core.core.items) c.deref-in-Failed.ensures.value (subst (λ (C : Clause). ArePicked c.deref-in-Failed.result.now C core.core.items) c.deref-in-Failed-2.ensures.value core.ensures.picked))
    M (linked_search c.search_query.new.self c.core_of.new.self core.ensures.search given M h)

pub returns-in-Model-clause-fits : goal.returns-in-Model-clause-fits
returns-in-Model-clause-fits g c =
    let A = c.args.query.now in
    let k = c.in_ok-kept in
    let e = c.in_ok-sought.ensures in
    let s = c.search_query.new.self.search in
    let t = s.state.trail in
    let q = c.deref-2.result.now in
    let r = c.in_ok-values-in-Model in
    let v : t.vars ≡ vars_of c.args.self.now = e.vars ∙ c.begin.ensures.vars ∙ k.ensures.vars in
    let f = subst (IsQueryResult s.state.arena t q) c.in-Model.is e.sought in
    query_true t r.values r.ensures.values A q f.1 (subst (λ (C : Clause). AreTwins A C) (sym c.deref-2.ensures.value) (k.ensures.marks).twins) (subst (λ n. All (IsWithin n) A) (sym v) c.requires.within)

pub returns-in-Failed-clause-fits : goal.returns-in-Failed-clause-fits
returns-in-Failed-clause-fits g c =
    let k = c.in_ok-kept in
    let core = c.in_ok-core-in-Failed in
    let p = subst (λ (C : Clause). ArePicked C c.in-Failed.lemma.lits.items core.core.items) c.deref-in-Failed.ensures.value (subst (λ (C : Clause). ArePicked c.deref-in-Failed.result.now C core.core.items) c.deref-in-Failed-2.ensures.value core.ensures.picked) in
    part_trans core.core.items k.kept.items c.args.query.now p.part (k.ensures.marks).part

pub returns-in-Model-clause-live : goal.returns-in-Model-clause-live
returns-in-Model-clause-live g c = λ given M h n C l.
    let e = c.in_ok-sought.ensures in
    let s = c.search_query.new.self.search in
    let t = s.state.trail in
    let r = c.in_ok-values-in-Model in
    let f = subst (IsQueryResult s.state.arena t c.deref-2.result.now) c.in-Model.is e.sought in
    let d = (h.linked).forth n C l in
    let w = live_true t r.values r.ensures.values _ s.state.arena ((e.ready).steady).state f.0 f.2 n d.0 d.1 in
    (w.0, (d.2 w.0).1 w.1, w.2)

use Rattle.std.proofs.Common.{ap}
use Rattle.cube_solve.proofs.CopiedClauseLemmas.{grown_given, grown_known, grown_ready, parts_below}
use Rattle.cube_solve.proofs.session.Session.grown.Goals as goal

pub search_of-requires-clause-below : goal.search_of-requires-clause-below
search_of-requires-clause-below g c =
    let p = c.into_parts-search in
    parts_below c.args.self p.result.0 p.result.1 (ap (λ x. x.0) p.ensures) (ap (λ x. x.1) p.ensures) (c.requires.ready).below

pub returns-clause-ready : goal.returns-clause-ready
returns-clause-ready g c =
    let p = c.into_parts-search in
    let e = c.in_ok-search_of.ensures in
    grown_ready g.P.Propagator.is_ready g.P.Propagator.attached c.args.self p.result.0 c.in_ok-search_of.field-0 p.result.1 c.in_ok-new.field-0 (ap (λ x. x.0) p.ensures) (ap (λ x. x.1) p.ensures)
    e.linked e.lemmas c.args.vars e.steady e.noted e.vars c.requires.limit c.in_ok-new.ensures c.requires.ready

pub returns-clause-given : goal.returns-clause-given
returns-clause-given g c =
    let p = c.into_parts-search in
    let e = c.in_ok-search_of.ensures in
    grown_given g.P.Propagator.is_ready g.P.Propagator.attached c.args.self p.result.0 c.in_ok-search_of.field-0 p.result.1 c.in_ok-new.field-0 (ap (λ x. x.0) p.ensures) (ap (λ x. x.1) p.ensures) e.linked e.lemmas

pub returns-clause-known : goal.returns-clause-known
returns-clause-known g c =
    let p = c.into_parts-search in
    let e = c.in_ok-search_of.ensures in
    grown_known g.P.Propagator.is_ready g.P.Propagator.attached c.args.self p.result.0 c.in_ok-search_of.field-0 p.result.1 c.in_ok-new.field-0 (ap (λ x. x.0) p.ensures) (ap (λ x. x.1) p.ensures) e.linked e.lemmas

use Rattle.std.proofs.Common.{◌-◌, ◌^◌, ◌++◌, Bool, List, ℕ, [], subst}
use Rattle.dimacs.specs.logic.Cnf.{Cnf}
use Rattle.formula_search.specs.inner.Streams.{HasEnded, IsEndedBy, IsMoved}
use Rattle.formula_search.proofs.StreamLemmas.{if_some, some_weaker}
use Rattle.formula_search.proofs.kept_streaming.search_kept_to.Goals as goal

pub returns-clause-ended : goal.returns-clause-ended
returns-clause-ended g c =
    let k = c.args.kept.now in
    let ending = c.in-Some.ending in
    let st = if_some _ ending _ c.in-Some.is c.in_ok-ending.ensures.ended in
    let moved = subst (λ (xs : List ℕ). IsMoved xs k.all k.eliminated.items st.log st.file) c.deref.ensures.value
    (subst (λ (bs : List Bool). IsMoved c.deref.result.now k.all bs st.log st.file) c.deref-2.ensures.value st.moved) in
    let ends = subst (λ (B : Cnf). IsEndedBy B (2 ^ 47 - k.all) ending.counts st.log ending.end) c.as_base.ensures st.ends in
    some_weaker c.in_ok-found.found _ (HasEnded c.args.formula.now (2 ^ 47) (g.S.LogSink.has c.search_to.new.sink))
    (λ e f.
    let p = f st.log st.file moved st.long ends in
    record { log = k.lines ++ st.file; there = st.handed k.lines (c.in_ok-put.ensures.handed [] c.requires.begins); ends = p.0; bytes = p.1 })
    c.in_ok-found.ensures.ended

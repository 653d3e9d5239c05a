use Rattle.std.proofs.Common.{◌-◌, ◌^◌, List, ℕ, length, ◌∙◌, subst}
use Rattle.dimacs.proofs.Members.{Contains-nil}
use Rattle.cube_solve.specs.declared.stepwise.End.{End}
use Rattle.formula_search.specs.inner.Streams.{AreCountsBehind, IsEndedBy}
use Rattle.formula_search.proofs.MovedLemmas.{long_behind, model_counted, refuted_behind}
use Rattle.formula_search.proofs.StreamLemmas.{if_some}
use Rattle.formula_search.proofs.kept_streaming.settled.Goals as goal

pub extended-requires : goal.extended-requires
extended-requires c =
    let k = c.args.kept.now in
    let left = c.requires.kept in
    let (log, ends) = c.requires.ended in
    let is = subst (λ (x : End). IsEndedBy k.formula (2 ^ 47 - k.all) c.args.ending.counts log x) c.in-Model.is ends in
    (is.0).whole ∙ (left.kept).vars ∙ (left.adds).vars

pub returns-in-Some-2-clause-ended : goal.returns-in-Some-2-clause-ended
returns-in-Some-2-clause-ended c = λ log file moved long ends.
    let F = c.args.formula.now in
    let k = c.args.kept.now in
    let e = c.args.ending in
    let told = c.in-Some.counts in
    let r = c.requires in
    let b = subst (λ n. AreCountsBehind k.all n k.lines e told) c.len.ensures c.in-Some.ensures in
    let is = subst (λ (x : End). IsEndedBy k.formula (2 ^ 47 - k.all) e.counts log x) c.in-Model.is ends in
    let sat = if_some _ c.in-Some-2.values _ c.in-Some-2.is c.in_ok-values-in-Model.ensures.satisfies in (
      (record { whole = sat.0; base = sat.1; cube = λ l i. absurd (Contains-nil l i) }, model_counted F k r.kept r.limit r.some r.few log file moved e told b is.1),
      long_behind F k r.kept r.limit r.some r.few log file moved e told b long,
    )

pub returns-in-Refuted-clause-ended : goal.returns-in-Refuted-clause-ended
returns-in-Refuted-clause-ended c = λ log file moved long ends.
    let F = c.args.formula.now in
    let k = c.args.kept.now in
    let e = c.args.ending in
    let told = c.in-Some.counts in
    let r = c.requires in
    let b = subst (λ n. AreCountsBehind k.all n k.lines e told) c.len.ensures c.in-Some.ensures in
    let is = subst (λ (x : End). IsEndedBy k.formula (2 ^ 47 - k.all) e.counts log x) c.in-Refuted.is ends in (
      refuted_behind F k r.kept r.limit r.some r.few log file moved e told b is.0 is.1 is.2,
      long_behind F k r.kept r.limit r.some r.few log file moved e told b long,
    )

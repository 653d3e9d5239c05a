use Rattle.std.proofs.Common.{◌≡◌, ℕ, ◌+◌, ◌∙◌, ap, arith, drop, get_or, sym, subst}
use Rattle.std.specs.FinMap.{remove}
use Rattle.lrat_check.specs.StepFaults.{removed}
use Rattle.lrat_check.specs.Logs.{ExtendsBase, log_deletion_fault}
use Rattle.lrat_check.proofs.Behind.{behind-remove}
use Rattle.lrat_check.proofs.Logs.{own_on}
use Rattle.lrat_check.specs.inner.Changes.{NoneNew}
use Rattle.lrat_check.specs.inner.Logs.{IsCutAt}
use Rattle.lrat_check.proofs.Cuts.{cut_ends, cut_more}
use Rattle.lrat_check.proofs.Changes.{NoneNew-remove, removed_on}
use Rattle.lrat_check.proofs.log.delete_lemmas.Goals as goal

pub returns-then-not-remove-clause-fewer : goal.returns-then-not-remove-clause-fewer
returns-then-not-remove-clause-fewer c =
    subst (λ M. NoneNew c.args.clauses.now M) (sym c.remove.ensures.after)
    (NoneNew-remove c.args.clauses.now c.loop-id.clauses (get_or c.args.ids.now c.loop-id.id-index 0) c.loop-id.invariant.fewer)

pub returns-then-not-remove-clause-behind : goal.returns-then-not-remove-clause-behind
returns-then-not-remove-clause-behind c = λ M top was.
    subst (λ N. ExtendsBase M c.args.base top N) (sym c.remove.ensures.after)
    (behind-remove M c.args.base top (get_or c.args.ids.now c.loop-id.id-index 0) c.loop-id.clauses c.if-id-base.false (c.loop-id.invariant.behind M top was))

pub returns-then-not-remove-clause-front : goal.returns-then-not-remove-clause-front
returns-then-not-remove-clause-front c =
    cut_ends c.args.base c.args.clauses.now c.args.ids.now (get_or c.args.ids.now c.loop-id.id-index 0) c.loop-id.id-index c.loop-id.cut c.loop-id.clauses c.remove.new.self
    c.loop-id.invariant.out c.remove.ensures.after (sym c.if-not-remove.ensures.live) c.loop-id.invariant.front

pub loop-id-preserved : goal.loop-id-preserved
loop-id-preserved c =
    let id : ℕ = get_or c.args.ids.now c.loop-id.id-index 0 in
    let now : c.remove.new.self ≡ remove c.loop-id.clauses id = c.remove.ensures.after in
    record {
      fault =
          ap (λ M. log_deletion_fault c.args.base M (drop (c.loop-id.id-index + 1) c.args.ids.now)) now
          ∙ sym (own_on c.args.base c.loop-id.clauses c.args.ids.now c.loop-id.id-index c.loop-id-test.true c.if-id-base.false (sym c.if-not-remove.ensures.live))
          ∙ c.loop-id.invariant.fault;
      left =
          ap (λ M. removed M (drop (c.loop-id.id-index + 1) c.args.ids.now)) now
          ∙ sym (removed_on c.loop-id.clauses c.args.ids.now c.loop-id.id-index c.loop-id-test.true)
          ∙ c.loop-id.invariant.left;
      front = subst (λ M. IsCutAt c.args.base c.args.clauses.now c.args.ids.now (c.loop-id.id-index + 1) M) (sym now)
          (cut_more c.args.base c.args.clauses.now c.args.ids.now c.loop-id.id-index c.loop-id.clauses c.loop-id-test.true c.if-id-base.false (sym c.if-not-remove.ensures.live) c.loop-id.invariant.front);
      out = omega (arith, c.loop-id.invariant.out);
      behind = λ M top was. subst (λ N. ExtendsBase M c.args.base top N) (sym now)
          (behind-remove M c.args.base top id c.loop-id.clauses c.if-id-base.false (c.loop-id.invariant.behind M top was));
      fewer = subst (λ M. NoneNew c.args.clauses.now M) (sym now) (NoneNew-remove c.args.clauses.now c.loop-id.clauses id c.loop-id.invariant.fewer);
    }

use Rattle.std.proofs.Common.{◌≡◌, ℕ, ◌-◌, arith, sym, subst}
use Rattle.lrat_check.specs.Logs.{ExtendsBase}
use Rattle.lrat_check.specs.inner.Changes.{NoneNew}
use Rattle.lrat_check.proofs.Behind.{behind-last}
use Rattle.lrat_check.proofs.Changes.{NoneNew-remove}
use Rattle.lrat_check.proofs.log.clear_lemmas.Goals as goal

pub loop-id-preserved : goal.loop-id-preserved
loop-id-preserved c =
    record {
      fewer = subst (λ N. NoneNew c.args.clauses.now N) (sym c.remove.ensures.after) (NoneNew-remove c.args.clauses.now c.loop-id.clauses c.loop-id.id c.loop-id.invariant.fewer);
      rises = λ h. omega arith;
      behind = λ M h was. subst (λ N. ExtendsBase M c.args.base (c.loop-id.id - 1) N) (sym c.remove.ensures.after)
          (behind-last M c.args.base c.loop-id.id c.loop-id.clauses c.loop-id-test.true (c.loop-id.invariant.behind M h was));
    }

pub returns-clause-behind : goal.returns-clause-behind
returns-clause-behind c = λ M h was.
    let low : c.loop-id.id ≡ c.args.base = omega (arith, c.loop-id.invariant.rises h, c.loop-id-test.false) in
    subst (λ (n : ℕ). ExtendsBase M c.args.base n c.loop-id.clauses) low (c.loop-id.invariant.behind M h was)

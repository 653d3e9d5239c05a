use Rattle.std.proofs.Common.{◌≡◌, ◌+◌, arith, sym, subst, vec_len}
use Rattle.dimacs.specs.logic.ClauseMap.{ClauseMap}
use Rattle.lrat_check.specs.Logs.{ExtendsBase}
use Rattle.lrat_check.specs.inner.LiteralTable.{AllFit}
use Rattle.lrat_check.proofs.Behind.{behind-insert}
use Rattle.lrat_check.proofs.Tables.{AllFit-insert, AllFit-longer}
use Rattle.lrat_check.proofs.log.LogClauses.add.Goals as goal

pub invariant_of-self-2 : goal.invariant_of-self-2
invariant_of-self-2 c = record {
  fits = subst (λ M. AllFit (vec_len c.test_log_lemma.new.marks.table) M) (sym c.in-Ok.ensures.ok)
      (AllFit-insert (vec_len c.test_log_lemma.new.marks.table) c.args.self.now.clauses c.args.id c.args.lemma.lits.now
      (AllFit-longer (vec_len c.args.self.now.marks.table) (vec_len c.test_log_lemma.new.marks.table) c.args.self.now.clauses c.test_log_lemma.ensures.longer c.args.self.now.fits)
      c.in_ok-test_log_lemma.ensures.fits);
  rises = omega (arith, c.args.self.now.rises);
  few = c.args.self.now.few;
}

pub returns-clause-behind : goal.returns-clause-behind
returns-clause-behind c = λ M was.
    let next : c.args.id ≡ c.args.self.now.top + 1 = omega arith in
    subst (λ (N : ClauseMap). ExtendsBase M c.args.self.now.base c.args.id N) (sym c.in-Ok.ensures.ok)
    (behind-insert M c.args.self.now.base c.args.self.now.top c.args.id c.args.lemma.lits.now c.args.self.now.clauses c.args.self.now.rises next was)

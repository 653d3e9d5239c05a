use Rattle.std.proofs.Common.{ap, sym, ◌∙◌, refl}
use Rattle.dimacs.specs.layout.Flat.{parts}
use Rattle.dimacs.specs.logic.Cnf.{Cnf}
use Rattle.lrat_text.specs.Log.{log_top}
use Rattle.lrat_check.specs.inner.Store.{numbered}
use Rattle.lrat_check.proofs.Behind.{begun_stands}
use Rattle.lrat_check.proofs.log_checker.LogChecker.of.Goals as goal

pub returns-clause-begun : goal.returns-clause-begun
returns-clause-begun c = record {
  base = c.in_ok-of_parts.ensures.base ∙ c.len-count.ensures;
  live = c.in_ok-of_parts.ensures.clauses
      ∙ ap numbered (ap (parts c.in_ok-literals.literals.items) c.deref.ensures.value ∙ sym (ap (λ (f : Cnf). f.clauses) c.in_ok-literals.ensures.value));
  top = c.in_ok-of_parts.ensures.top ∙ c.len-count.ensures;
  line = refl;
  cut = c.in_ok-of_parts.ensures.cut;
  most = c.log_top-most.ensures.value ∙ ap log_top c.as_base.ensures;
}

pub returns-clause-stands : goal.returns-clause-stands
returns-clause-stands c = begun_stands c.args.formula _ (returns-clause-begun c)

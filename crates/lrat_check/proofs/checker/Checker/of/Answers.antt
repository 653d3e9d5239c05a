use Rattle.std.proofs.Common.{ap, sym, ◌∙◌, length}
use Rattle.std.specs.FinMap.{len}
use Rattle.dimacs.specs.logic.ClauseMap.{ClauseMap}
use Rattle.dimacs.specs.logic.Cnf.{Cnf}
use Rattle.dimacs.specs.layout.Flat.{parts}
use Rattle.dimacs.specs.logic.Literal.{Clause}
use Rattle.lrat_check.proofs.Parts.{len-numbered}
use Rattle.lrat_check.proofs.checker.Checker.of.Goals as goal

pub invariant_of-result : goal.invariant_of-result
invariant_of-result c = (
  c.in_ok-clauses.ensures.fits,
  c.len-top.ensures
      ∙ ap (length {A = Clause}) (ap (λ (f : Cnf). f.clauses) c.in_ok-literals.ensures.value ∙ ap (parts c.in_ok-literals.literals.items) (sym c.deref.ensures.value))
      ∙ len-numbered (parts c.in_ok-literals.literals.items c.deref.result.now)
      ∙ ap (λ (M : ClauseMap). len M) (sym c.in_ok-clauses.ensures.clauses),
)

use Rattle.std.proofs.Common.{List, [], ℕ, refl, sym, subst}
use Rattle.dimacs.specs.logic.Cnf.{Cnf}
use Rattle.lrat_check.specs.Logs.{IsBegun, TakesLogLine}
use Rattle.lrat_text.specs.LineSink.{HandsOn}
use Rattle.receipts.proofs.LogReadLemmas.{none_handed}
use Rattle.receipts.proofs.receipt_builder.ReceiptBuilder.of.Goals as goal

pub returns : goal.returns
returns c = record {
  formula = c.in_ok-digest_of_formula.ensures;
  covers = c.in_ok-of-2.ensures;
  read = record {
    first = c.in_ok-of.field-0;
    begun = subst (λ (F : Cnf). IsBegun F c.in_ok-of.field-0) c.in_ok-copy.ensures c.in_ok-of.ensures.begun;
    checked = subst (λ (xs : List ℕ). HandsOn TakesLogLine c.in_ok-of.field-0 [] c.in_ok-of.field-0 xs) (sym c.new.ensures) (none_handed c.in_ok-of.field-0);
    hashed = c.new-2.ensures;
    counted = refl;
  };
}

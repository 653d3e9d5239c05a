use Rattle.std.proofs.Common.{refl, ◌∙◌, ap, [], arith}
use Rattle.std.specs.FinMap.{get, get-insert}
use Rattle.std.specs.Cmp.{nat_cmp_total}
use Rattle.dimacs.specs.logic.ClauseMap.{ClauseMap}
use Rattle.receipts.specs.Coverage.{absurdity}
use Rattle.receipts.proofs.CoverageStepLemmas.{none_agree}
use Rattle.receipts.proofs.coverage.Coverage.of.Goals as goal

pub invariant_of-result : goal.invariant_of-result
invariant_of-result c = record {
  none = c.new-2.ensures;
  absurd = ap (λ (M : ClauseMap). get M 1) c.in_ok-put.ensures.ok ∙ get-insert nat_cmp_total c.in_ok-tautology_checker.tautology_checker 1 [] 1;
}

pub returns : goal.returns
returns c = record {
  tree = c.leaves.ensures.valid.leaves;
  within = c.requires;
  few = omega (arith, c.leaves.ensures.value, c.leaves.ensures.limit);
  logs = [];
  written = [];
  between = c.in_ok-of.ensures absurdity (omega arith) refl;
  top = omega arith;
  closed = none_agree c.args.tree.now;
}

use Rattle.std.proofs.Common.{◌≡◌, take, false}
use Rattle.dimacs.specs.logic.Literal.{has}
use Rattle.lrat_check.specs.StepFaults.{is_tautology}
use Rattle.sessions.specs.inner.Sets.{set_in}
use Rattle.sessions.proofs.literal_set.LiteralSet.hold_apart.Given as goal

abbrev pub invariant-loop-l : goal.invariant-loop-l
invariant-loop-l l = record {
  held : set_in l.self.stamps.items l.self.stamp ≡ has (take l.l-index l.lits);
  apart : is_tautology (take l.l-index l.lits) ≡ false;
}

use Rattle.std.proofs.Common.{◌≡◌, ◌+◌, take}
use Rattle.incremental.specs.SessionHistory.{literals_from}
use Rattle.incremental.proofs.proved_session.literals_of.Given as goal

abbrev pub invariant-loop-value : goal.invariant-loop-value
invariant-loop-value l = record {
  number : l.number ≡ l.value-index + 1;
  listed : l.literals.items ≡ literals_from 1 (take l.value-index l.values);
}

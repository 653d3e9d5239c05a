use Rattle.std.proofs.Common.{◌≡◌, map, take}
use Rattle.std.specs.Prelude.{All}
use Rattle.lrat_text.specs.Grammar.{IsClauseNumber}
use Rattle.proof_join.specs.RenumberedProof.{raised}
use Rattle.proof_join.proofs.renumbered_proof.Raise.numbers.Given as goal

abbrev pub invariant-loop-number : goal.invariant-loop-number
invariant-loop-number l = record {
  are : l.out.items ≡ map (raised l.self.above l.self.by) (take l.number-index l.numbers);
  fit : All IsClauseNumber l.out.items;
}

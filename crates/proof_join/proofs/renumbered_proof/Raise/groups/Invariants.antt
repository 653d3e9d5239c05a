use Rattle.std.proofs.Common.{◌≡◌, map, take}
use Rattle.std.specs.Prelude.{All}
use Rattle.lrat_text.specs.Grammar.{IsGroup}
use Rattle.proof_join.specs.RenumberedSteps.{renumbered_group}
use Rattle.proof_join.specs.RenumberedProof.{raised}
use Rattle.proof_join.proofs.renumbered_proof.Raise.groups.Given as goal

abbrev pub invariant-loop-i : goal.invariant-loop-i
invariant-loop-i l = record {
  are : l.out ≡ map (renumbered_group (raised l.self.above l.self.by)) (take l.i l.groups);
  fit : All IsGroup l.out;
}

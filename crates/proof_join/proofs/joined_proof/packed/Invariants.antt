use Rattle.std.proofs.Common.{◌≡◌, map, take}
use Rattle.proof_join.proofs.joined_proof.packed.Given as goal

abbrev pub invariant-loop-text : goal.invariant-loop-text
invariant-loop-text l = l.all.items ≡ map (λ v. v.items) (take l.text-index l.texts)

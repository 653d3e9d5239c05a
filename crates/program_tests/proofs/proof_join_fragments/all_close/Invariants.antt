use Rattle.std.proofs.Common.{map, take}
use Rattle.proof_join.specs.JoinedProof.{AllClose}
use Rattle.program_tests.proofs.proof_join_fragments.all_close.Given as goal

-- the leaves so far are closed
abbrev pub invariant-loop-leaf : goal.invariant-loop-leaf
invariant-loop-leaf l = AllClose l.base (take l.leaf l.tree) (take l.leaf (map (λ v. v.items) l.fragments))

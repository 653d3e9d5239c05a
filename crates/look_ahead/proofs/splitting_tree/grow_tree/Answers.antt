use Rattle.std.proofs.Common.{ℕ, subst, sym}
use Rattle.dimacs.specs.logic.Cnf.{AreWithin}
use Rattle.look_ahead.specs.Grown.{IsGrown}
use Rattle.look_ahead.proofs.GrownLemmas.{grown_within}
use Rattle.look_ahead.proofs.splitting_tree.grow_tree.Goals as goal

pub loop-depth-init : goal.loop-depth-init
loop-depth-init c = subst (IsGrown c.greatest_in-last.result) (sym c.in_ok-tree.ensures) IsGrown.leaf

pub returns-clause-within : goal.returns-clause-within
returns-clause-within c =
    subst (λ (n : ℕ). AreWithin n c.loop-depth.tree) c.greatest_in-last.ensures.value (grown_within c.loop-depth.invariant)

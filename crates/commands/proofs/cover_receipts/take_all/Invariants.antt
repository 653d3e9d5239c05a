use Rattle.std.specs.Global.{Vec}
use Rattle.std.proofs.Common.{ℕ, List, map, take}
use Rattle.commands.specs.Cover.{TakesText}
use Rattle.commands.specs.Names.{AreTaken, Gone}
use Rattle.commands.specs.inner.Cover.{IsGone}
use Rattle.commands.proofs.cover_receipts.take_all.Given as goal
use Rattle.dimacs.specs.logic.Cnf.{Cnf}
use Rattle.icnf.specs.Leaves.{Cube}

abbrev pub invariant-loop-name : goal.invariant-loop-name
invariant-loop-name g l =
    (F : Cnf) (cubes : List Cube) (s : Gone) → IsGone F cubes s l.initial.run
    → (t : Gone) × AreTaken (λ name. TakesText F cubes l.quiet (g.D.Disk.holds l.disk name) name) (map (λ (n : Vec ℕ). n.items) (take l.name-index l.names)) s t × IsGone F cubes t l.run

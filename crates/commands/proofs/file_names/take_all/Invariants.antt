use Rattle.std.proofs.Common.{◌≡◌, [], ℕ, List, map, take}
use Rattle.dimacs.specs.logic.Cnf.{Cnf}
use Rattle.icnf.specs.Leaves.{Cube}
use Rattle.commands.specs.Join.{Takes}
use Rattle.commands.specs.Names.{AreTaken, Gone}
use Rattle.commands.specs.inner.Join.{IsAt}
use Rattle.commands.proofs.file_names.take_all.Given as goal

-- the names so far were gone through
abbrev pub invariant-loop-i : goal.invariant-loop-i
invariant-loop-i g l = record {
  goes : (F : Cnf) (cubes : List Cube) (s : Gone) → IsAt g.D.Drafts.made F cubes s [] s.count l.initial.run.joined.join l.initial.run.joined.part l.initial.run.sheet
      → ((t : Gone) × AreTaken (Takes g.D.Disk.holds g.D.Drafts.apart l.initial.run.joined.disk.now l.initial.run.sheet.options F cubes) (map (λ n. n.now) (take l.i l.names)) s t
      × IsAt g.D.Drafts.made F cubes t [] t.count l.run.joined.join l.run.joined.part l.run.sheet);
  disk : l.run.joined.disk ≡ l.initial.run.joined.disk;
  options : l.run.sheet.options ≡ l.initial.run.sheet.options;
}

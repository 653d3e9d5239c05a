use Rattle.std.proofs.Common.{◌++◌, List, ℕ, take}
use Rattle.dimacs.specs.logic.Cnf.{Cnf}
use Rattle.icnf.specs.Leaves.{Cube}
use Rattle.commands.specs.declared.join_run.JoinOptions.{JoinOptions}
use Rattle.commands.specs.inner.Join.{IsListing}
use Rattle.commands.proofs.file_names.ListingFeeds.feed.Given as goal

-- the bytes so far were taken
abbrev pub invariant-loop-i : goal.invariant-loop-i
invariant-loop-i g l = (disk : g.row.D.Denot) (options : JoinOptions) (F : Cnf) (cubes : List Cube) (list : List ℕ)
    → IsListing g.D.Drafts.made g.D.Disk.holds g.D.Drafts.apart disk options F cubes list l.initial.self.run.joined.disk.now l.initial.self.run.joined.join l.initial.self.run.joined.part l.initial.self.run.sheet l.initial.self.begun.items l.initial.self.found
    → IsListing g.D.Drafts.made g.D.Disk.holds g.D.Drafts.apart disk options F cubes (list ++ take l.i l.piece) l.self.run.joined.disk.now l.self.run.joined.join l.self.run.joined.part l.self.run.sheet l.self.begun.items l.self.found

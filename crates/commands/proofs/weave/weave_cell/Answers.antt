use Rattle.std.proofs.Common.{ℕ, List, sym, subst}
use Rattle.commands.specs.Weave.{AreNotes}
use Rattle.commands.specs.Written.{Keeps}
use Rattle.commands.proofs.WeaveLemmas.{fails_so, no_notes}
use Rattle.commands.proofs.weave.weave_cell.Goals as goal

pub returns-in-Ok-clause-weaves : goal.returns-in-Ok-clause-weaves
returns-in-Ok-clause-weaves g c =
    let s = c.args.searched.now in
    let old = c.args.disk.now in
    fails_so (Keeps g.D.Drafts.kept old old c.args.log.binary c.args.log.path.now) old s.formula.now s.tree.now s.is_split c.in_ok-none-in-None.none (c.in_ok-none-in-None.ensures c.in-Ok-told_of.ensures)

pub returns-clause-weaves : goal.returns-clause-weaves
returns-clause-weaves g c =
    let s = c.args.searched.now in
    let old = c.args.disk.now in
    fails_so (Keeps g.D.Drafts.kept old old c.args.log.binary c.args.log.path.now) old s.formula.now s.tree.now s.is_split c.in_ok-refused-in-Err.refused
    (c.in_ok-refused-in-Err.ensures (subst (λ (x : List ℕ). AreNotes x) (sym c.new-notes.ensures.items) no_notes))

pub returns-in-Some-clause-weaves : goal.returns-in-Some-clause-weaves
returns-in-Some-clause-weaves g c = c.in_ok-report-in-Some.ensures.weaves c.in-Ok-told_of.ensures

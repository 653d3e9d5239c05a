use Rattle.std.proofs.Common.{◌≡◌, ◌∙◌, ◌++◌, ◌+◌, ◌<◌, ◌^◌, ℕ, List, codes, subst, sym}
use Rattle.std.specs.List.{All}
use Rattle.std.proofs.lemmas.Result.{IfOk-weaker}
use Rattle.commands.specs.Cover.{EndsCover}
use Rattle.commands.specs.Names.{Gone}
use Rattle.commands.specs.inner.Cover.{IsGone}
use Rattle.commands.proofs.ClosedLemmas.{few_places}
use Rattle.commands.proofs.CoverLemmas.{covers_all, few_leaves, misses_some}
use Rattle.commands.proofs.cover_receipts.Run.finish.Goals as goal
use Rattle.dimacs.specs.logic.Cnf.{Cnf}
use Rattle.icnf.specs.Leaves.{Cube}
use Rattle.leaves.specs.Leaf.{Prints}
use Rattle.leaves.specs.Notes.{missing_text}
use Rattle.reports.specs.declared.report.Report.{Report}

pub returns-then-is_complete-clause-ends : goal.returns-then-is_complete-clause-ends
returns-then-is_complete-clause-ends c =
    let run = c.args.self in
    IfOk-weaker c.covered.result (Prints 0 (run.notes.items ++ codes "s COVERED\n")) (λ (r : Report). (F : Cnf) (cubes : List Cube) (s : Gone) → IsGone F cubes s run → EndsCover F cubes s r)
    (λ r prints F cubes s at. covers_all F cubes s run.notes.items c.is_complete.result r (c.is_complete.ensures F cubes s.files at.holds) c.if-is_complete.true at.notes prints)
    c.covered.ensures.text

pub returns-clause-ends : goal.returns-clause-ends
returns-clause-ends c =
    let run = c.args.self in
    let places = c.deref.result.now in
    let Few : List ℕ → Type 0 = All (λ (p : ℕ). p + 1 < 2 ^ 64) in
    IfOk-weaker c.uncovered.result (λ (r : Report). Few places → Prints 1 (run.notes.items ++ missing_text places ++ codes "s NOT COVERED\n") r)
    (λ (r : Report). (F : Cnf) (cubes : List Cube) (s : Gone) → IsGone F cubes s run → EndsCover F cubes s r)
    (λ r says F cubes s at.
    let found = c.in_ok-places.ensures.places F cubes s.files at.holds in
    let is = c.deref.ensures.value ∙ found.2 in
    misses_some F cubes s run.notes.items places c.is_complete.result found.0 r (c.is_complete.ensures F cubes s.files at.holds) c.if-is_complete.false at.notes found.1 is
    (says (subst Few (sym is) (few_places found.0 (few_leaves F cubes s.files found.0 found.1 at.holds.covers.few)))))
    c.uncovered.ensures.text

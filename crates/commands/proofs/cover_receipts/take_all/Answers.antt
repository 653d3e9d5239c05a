use Rattle.std.specs.Global.{Vec}
use Rattle.std.proofs.Common.{ℕ, List, [], ◌∷◌, ◌++◌, ◌+◌, map, take, ap, subst, sym, ◌∙◌}
use Rattle.std.proofs.lemmas.List.{take_all}
use Rattle.commands.specs.Cover.{TakesText}
use Rattle.commands.specs.Names.{AreTaken, Gone}
use Rattle.commands.specs.inner.Cover.{IsGone}
use Rattle.commands.proofs.CoverLemmas.{names_more, seen_more}
use Rattle.commands.proofs.cover_receipts.take_all.Goals as goal
use Rattle.dimacs.specs.logic.Cnf.{Cnf}
use Rattle.icnf.specs.Leaves.{Cube}

pub loop-name-preserved : goal.loop-name-preserved
loop-name-preserved g c = λ F cubes s h.
    let Takes : List ℕ → Gone → Gone → Type 0 = λ name. TakesText F cubes c.args.quiet (g.D.Disk.holds c.args.disk.now name) name in
    let before = c.loop-name.invariant F cubes s h in
    let after = c.in_ok-take_file.ensures.taken F cubes before.0 before.2 in
    let names = c.args.names.now in
    let i = c.loop-name.name-index in (
      after.0,
      subst (λ (ns : List (List ℕ)). AreTaken Takes ns s after.0)
          (ap (λ (n : List ℕ). map (λ (v : Vec ℕ). v.items) (take i names) ++ n ∷ []) c.deref.ensures.value ∙ names_more names i c.name-item.result c.loop-name-test.true c.name-item.is)
          (seen_more Takes (map (λ (v : Vec ℕ). v.items) (take i names)) c.deref.result.now s before.0 after.0 before.1 after.1),
      after.2,
    )

pub returns-clause-seen : goal.returns-clause-seen
returns-clause-seen g c = λ F cubes s h.
    let Takes : List ℕ → Gone → Gone → Type 0 = λ name. TakesText F cubes c.args.quiet (g.D.Disk.holds c.args.disk.now name) name in
    subst (λ (ns : List (Vec ℕ)). (t : Gone) × AreTaken Takes (map (λ (v : Vec ℕ). v.items) ns) s t × IsGone F cubes t c.loop-name.run) (take_all c.loop-name.name-index c.args.names.now c.loop-name-test.false)
    (c.loop-name.invariant F cubes s h)

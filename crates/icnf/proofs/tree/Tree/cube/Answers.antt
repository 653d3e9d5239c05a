use Rattle.std.proofs.Common.{arith, length, ap}
use Rattle.std.proofs.lemmas.List.{length-map}
use Rattle.icnf.specs.Spans.{cube_in}
use Rattle.icnf.proofs.SpanLemmas.{cube_short}
use Rattle.icnf.proofs.tree.Tree.cube.Goals as goal

pub returns-clause-limit : goal.returns-clause-limit
returns-clause-limit c =
    let short = cube_short c.self.inside.literals.items c.self.inside.spans.items c.args.i c.self.invariant.0 (omega (arith, ap length c.self.view_is, length-map c.self.inside.spans.items (cube_in c.self.inside.literals.items), c.requires)) in
    rw (c.cube_at.ensures, c.deref.ensures.value, c.deref-2.ensures.value) short

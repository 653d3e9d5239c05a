use Rattle.std.proofs.Common.{arith, length, ap}
use Rattle.dimacs.specs.layout.BuilderState.{BuilderState}
use Rattle.dimacs.proofs.FlatLemmas.{length_parts}
use Rattle.dimacs.proofs.builder.Builder.len.Goals as goal

pub returns : goal.returns
returns c =
    let b = c.self.inside in
    let done = ap (λ (s : BuilderState). length s.done) c.self.view_is in
    omega (arith, length_parts b.literals.items b.places.items, b.places.ok.0)

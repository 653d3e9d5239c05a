use Rattle.std.proofs.Common.{◌≡◌, ◌<◌, sym, ap, ◌∙◌, subst, arith, length, get_or}
use Rattle.std.proofs.lemmas.List.{get_or_read}
use Rattle.dimacs.specs.logic.Literal.{IsWithin, index_of}
use Rattle.dimacs.proofs.LiteralLemmas.{index_below}
use Rattle.watches.specs.declared.truth.Truth.TheVariants.{Free}
use Rattle.watches.specs.Trails.{IsTruth}
use Rattle.watches.specs.inner.TrailTables.{truth_of}
use Rattle.watches.proofs.TrailLemmas.{reads}
use Rattle.watches.proofs.trail.Trail.value.Goals as goal

pub returns : goal.returns
returns c =
    let v = c.self.invariant in
    let b : IsWithin c.self.inside.vars c.args.literal = subst (λ t. IsWithin t.vars c.args.literal) (sym c.self.view_is) c.requires in
    let here : index_of c.args.literal < length c.self.inside.values.items = omega (arith, index_below c.self.inside.vars c.args.literal b, v.valued) in
    let e : c.index.result.now ≡ truth_of c.self.inside.entries.items c.args.literal =
    get_or_read c.self.inside.values.items _ _ (subst (λ i. i < length c.self.inside.values.items) (sym c.index-row.ensures.value) here) c.index.ensures Free
    ∙ ap (λ i. get_or c.self.inside.values.items i Free) c.index-row.ensures.value ∙ v.agrees c.args.literal b in
    subst (λ t. IsTruth t.entries c.args.literal c.index.result.now) c.self.view_is (reads c.self.inside.entries.items c.args.literal c.index.result.now v.apart e)

use Rattle.std.proofs.Common.{◌≡◌, ◌∙◌, ◌∷◌, ◌+◌, [], ap, arith, map, subst, sym, take}
use Rattle.std.proofs.lemmas.List.{take_all}
use Rattle.dimacs.specs.layout.BuilderState.{BuilderState}
use Rattle.dimacs.specs.logic.Cnf.{AreWithin}
use Rattle.dimacs.specs.logic.Literal.{Literal}
use Rattle.leaves.proofs.UnitLemmas.{extension_is, unit_done, units_few, units_within}
use Rattle.leaves.proofs.leaf.units.Goals as goal

pub push-requires : goal.push-requires
push-requires c = omega (arith, c.loop-literal.invariant.count, c.loop-literal-test.true, c.requires.short)

pub end_clause-requires : goal.end_clause-requires
end_clause-requires c =
    units_few c.args.cube.now c.loop-literal.literal-index c.loop-literal.builder.done c.push.new.self.done c.loop-literal-test.true c.requires.short c.loop-literal.invariant.done
    (ap (λ (b : BuilderState). b.done) c.in_ok-push.ensures.ok)

pub loop-literal-preserved : goal.loop-literal-preserved
loop-literal-preserved c = record {
  done = unit_done c.args.cube.now c.loop-literal.literal-index c.literal-item.result c.loop-literal.builder.done c.push.new.self.done c.end_clause.new.self.done
      c.loop-literal.builder.open_clause c.push.new.self.open_clause c.loop-literal-test.true c.literal-item.is c.loop-literal.invariant.done c.loop-literal.invariant.closed
      (ap (λ (b : BuilderState). b.done) c.in_ok-push.ensures.ok) (ap (λ (b : BuilderState). b.open_clause) c.in_ok-push.ensures.ok) (ap (λ (b : BuilderState). b.done) c.in_ok-end_clause.ensures.ok);
  closed = ap (λ (b : BuilderState). b.open_clause) c.in_ok-end_clause.ensures.ok;
  count = ap (λ (b : BuilderState). b.total) c.in_ok-end_clause.ensures.ok ∙ (ap (λ (b : BuilderState). b.total) c.in_ok-push.ensures.ok ∙ ap (λ n. n + 1) c.loop-literal.invariant.count);
}

pub finish_extension-requires-clause-within : goal.finish_extension-requires-clause-within
finish_extension-requires-clause-within c =
    let whole : take c.loop-literal.literal-index c.args.cube.now ≡ c.args.cube.now = take_all c.loop-literal.literal-index c.args.cube.now c.loop-literal-test.false in
    let is : c.loop-literal.builder.done ≡ map (λ (x : Literal). x ∷ []) c.args.cube.now = c.loop-literal.invariant.done ∙ ap (map (λ (x : Literal). x ∷ [])) whole in
    subst (AreWithin c.args.vars) (sym is) (units_within c.args.vars c.args.cube.now c.requires.within)

pub returns : goal.returns
returns c =
    let whole : take c.loop-literal.literal-index c.args.cube.now ≡ c.args.cube.now = take_all c.loop-literal.literal-index c.args.cube.now c.loop-literal-test.false in
    let is : c.loop-literal.builder.done ≡ map (λ (x : Literal). x ∷ []) c.args.cube.now = c.loop-literal.invariant.done ∙ ap (map (λ (x : Literal). x ∷ [])) whole in
    extension_is c.args.vars c.args.cube.now c.loop-literal.builder.done c.finish_extension.result c.finish_extension.ensures is

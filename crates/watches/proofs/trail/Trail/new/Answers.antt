use Rattle.std.proofs.Common.{◌≡◌, ◌*◌, ◌+◌, ap, sym, ◌∙◌, arith, rules, replicate, get_or}
use Rattle.std.proofs.lemmas.List.{get_or-replicate}
use Rattle.dimacs.specs.logic.Literal.{index_of}
use Rattle.dimacs.proofs.LiteralLemmas.{index_below}
use Rattle.watches.specs.declared.truth.Truth.TheVariants.{Free}
use Rattle.watches.specs.inner.TrailTables.{truth_of}
use Rattle.watches.proofs.TrailLemmas.{distinct_nil}
use Rattle.watches.proofs.trail.Trail.new.Goals as goal

pub invariant_of-result : goal.invariant_of-result
invariant_of-result c =
    let e = c.in_ok-with_capacity.ensures.items in
    let f : c.in_ok-vec.field-0.items ≡ replicate (2 * c.args.vars + 2) Free = search rules in
    let g : c.in_ok-vec-2.field-0.items ≡ replicate (c.args.vars + 1) 0 = search rules in
    record {
      valued = search rules;
      placed = search rules;
      agrees = λ l b. ap (λ vs. get_or vs (index_of l) Free) f ∙ get_or-replicate _ (index_of l) Free Free (index_below c.args.vars l b) ∙ ap (λ es. truth_of es l) (sym e);
      within = rw e (λ k d h. absurd (omega arith));
      apart = rw e distinct_nil;
      rising = rw e (λ i j d l b. absurd (omega arith));
      found = rw e (λ i d l. absurd (omega arith));
      fits = let x = c.in_ok-with_capacity.ensures.exact in omega arith;
    }

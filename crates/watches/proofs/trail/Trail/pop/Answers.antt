use Rattle.std.proofs.Common.{◌≡◌, ◌∷◌, ◌++◌, [], ap, ◌∙◌, arith, set, get_or}
use Rattle.std.specs.Option.{option_to_list}
use Rattle.std.proofs.lemmas.List.{length-set}
use Rattle.dimacs.specs.logic.Literal.{IsWithin, negation, index_of}
use Rattle.watches.specs.declared.truth.Truth.TheVariants.{Free}
use Rattle.watches.specs.inner.TrailTables.{truth_of}
use Rattle.watches.proofs.TrailLemmas.{agrees_pop, apart_pop, rising_front, found_front, all_front, all_last}
use Rattle.watches.proofs.trail.Trail.pop.Goals as goal

pub invariant_of-self : goal.invariant_of-self
invariant_of-self c =
    let v = c.self.invariant in
    let e : c.self.inside.entries.items ≡ c.pop.new.self.items ++ c.unwrap-entry.result ∷ [] = c.pop.ensures.items ∙ ap (λ o. c.pop.new.self.items ++ option_to_list o) c.unwrap-entry.ensures in
    let within = rw e at v.within in
    let apart = rw e at v.apart in
    let b = all_last (λ x. IsWithin c.self.inside.vars x.literal) c.pop.new.self.items c.unwrap-entry.result within in
    let agrees = agrees_pop c.pop.new.self.items c.unwrap-entry.result c.self.inside.values.items c.self.inside.vars v.valued apart (λ l h. v.agrees l h ∙ ap (λ es. truth_of es l) e) b in
    let one : c.index.result ≡ index_of c.unwrap-entry.result.literal = c.index.ensures.value in
    let two : c.index-2.result ≡ index_of (negation c.unwrap-entry.result.literal) = c.index-2.ensures.value ∙ ap index_of c.negate.ensures in
    record {
      valued = length-set _ _ _ ∙ length-set _ _ _ ∙ v.valued;
      placed = v.placed;
      agrees = λ l here. ap (λ i. get_or (set (set c.self.inside.values.items i Free) c.index-2.result Free) (index_of l) Free) one
          ∙ ap (λ i. get_or (set (set c.self.inside.values.items (index_of c.unwrap-entry.result.literal) Free) i Free) (index_of l) Free) two
          ∙ agrees l here;
      within = all_front (λ x. IsWithin c.self.inside.vars x.literal) c.pop.new.self.items _ within;
      apart = (apart_pop c.pop.new.self.items c.unwrap-entry.result apart).0;
      rising = rising_front c.pop.new.self.items (c.unwrap-entry.result ∷ []) (rw e at v.rising);
      found = found_front c.pop.new.self.items (c.unwrap-entry.result ∷ []) c.self.inside.places.items (rw e at v.found);
      fits = let f = c.pop.ensures.capacity in let g = v.fits in omega arith;
    }

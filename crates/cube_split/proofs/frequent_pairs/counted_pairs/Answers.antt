use Rattle.std.proofs.Common.{◌≡◌, ◌∙◌, ℕ, [], map, sym, ap, subst}
use Rattle.std.specs.List.Sorted.{IsNonDecreasing}
use Rattle.std.proofs.lemmas.List.Sorted.{IsNonDecreasingBy-from_sort}
use Rattle.std.proofs.lemmas.Result.{IfOk-weaker}
use Rattle.cube_split.specs.Pairs.{AreDefined}
use Rattle.cube_split.specs.inner.Ranks.{AreLowest, pair_ranked, ranks_from}
use Rattle.cube_split.proofs.DefinedLemmas.{defined, keys_are, keys_below, ranks_are_pairs}
use Rattle.cube_split.proofs.RankLemmas.{ranks_apart, sorted_from}
use Rattle.cube_split.proofs.frequent_pairs.counted_pairs.Goals as goal

pub best_ranks-requires-clause-below : goal.best_ranks-requires-clause-below
best_ranks-requires-clause-below c =
    let keys = keys_are c.args.formula.now c.args.units.now c.in_ok-marks.marks.items c.deref.result.now c.in_ok-keys.keys.items c.requires c.in_ok-marks.ensures.marked c.deref.ensures.value c.in_ok-keys.ensures in
    rw c.deref-2.ensures.value (keys_below c.args.formula.now c.vars.ensures.valid c.in_ok-keys.keys.items c.sort_unstable.new.self.items keys c.sort_unstable.ensures.permutation)

pub best_ranks-requires-clause-apart : goal.best_ranks-requires-clause-apart
best_ranks-requires-clause-apart c =
    let keys = keys_are c.args.formula.now c.args.units.now c.in_ok-marks.marks.items c.deref.result.now c.in_ok-keys.keys.items c.requires c.in_ok-marks.ensures.marked c.deref.ensures.value c.in_ok-keys.ensures in
    let rises : IsNonDecreasing c.sort_unstable.new.self.items = IsNonDecreasingBy-from_sort (λ (x : ℕ). x) c.sort_unstable.new.self.items c.sort_unstable.ensures.sorted in
    rw c.deref-2.ensures.value (ranks_apart c.sort_unstable.new.self.items (sorted_from c.sort_unstable.new.self.items rises)
    (keys_below c.args.formula.now c.vars.ensures.valid c.in_ok-keys.keys.items c.sort_unstable.new.self.items keys c.sort_unstable.ensures.permutation))

pub pairs_of-requires : goal.pairs_of-requires
pairs_of-requires c =
    let keys = keys_are c.args.formula.now c.args.units.now c.in_ok-marks.marks.items c.deref.result.now c.in_ok-keys.keys.items c.requires c.in_ok-marks.ensures.marked c.deref.ensures.value c.in_ok-keys.ensures in
    let rises : IsNonDecreasing c.sort_unstable.new.self.items = IsNonDecreasingBy-from_sort (λ (x : ℕ). x) c.sort_unstable.new.self.items c.sort_unstable.ensures.sorted in
    let lowest : AreLowest c.args.defs (ranks_from 0 0 c.sort_unstable.new.self.items) c.in_ok-ranks.ranks.items = rw (← c.deref-2.ensures.value) c.in_ok-ranks.ensures in
    rw c.deref-3.ensures.value (ranks_are_pairs c.args.formula.now c.vars.ensures.valid c.args.defs c.in_ok-keys.keys.items c.sort_unstable.new.self.items c.in_ok-ranks.ranks.items keys c.sort_unstable.ensures.permutation rises lowest)

pub returns : goal.returns
returns c =
    let keys = keys_are c.args.formula.now c.args.units.now c.in_ok-marks.marks.items c.deref.result.now c.in_ok-keys.keys.items c.requires c.in_ok-marks.ensures.marked c.deref.ensures.value c.in_ok-keys.ensures in
    let rises : IsNonDecreasing c.sort_unstable.new.self.items = IsNonDecreasingBy-from_sort (λ (x : ℕ). x) c.sort_unstable.new.self.items c.sort_unstable.ensures.sorted in
    let lowest : AreLowest c.args.defs (ranks_from 0 0 c.sort_unstable.new.self.items) c.in_ok-ranks.ranks.items = rw (← c.deref-2.ensures.value) c.in_ok-ranks.ensures in
    let all : AreDefined c.args.formula.now c.args.defs [] (map pair_ranked c.in_ok-ranks.ranks.items) =
    defined c.args.formula.now c.vars.ensures.valid c.args.defs c.in_ok-keys.keys.items c.sort_unstable.new.self.items c.in_ok-ranks.ranks.items keys c.sort_unstable.ensures.permutation rises lowest in
    IfOk-weaker c.pairs_of.result (λ v. v.items ≡ map pair_ranked c.deref-3.result.now) (λ v. AreDefined c.args.formula.now c.args.defs [] v.items)
    (λ v e. subst (AreDefined c.args.formula.now c.args.defs []) (sym (e ∙ ap (map pair_ranked) c.deref-3.ensures.value)) all) c.pairs_of.ensures

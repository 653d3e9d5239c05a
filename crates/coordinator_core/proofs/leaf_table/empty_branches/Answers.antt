use Rattle.std.proofs.Common.{◌≡◌, ◌<◌, ◌∙◌, ℕ, List, [], length, slice_set, ap, rules, arith}
use Rattle.std.specs.List.{insert}
use Rattle.coordinator_core.proofs.SplitLemmas.{inserted}
use Rattle.coordinator_core.proofs.leaf_table.empty_branches.Goals as goal

pub returns : goal.returns
returns c =
    let texts = c.args.fragments.now.items in
    let leaf = c.args.leaf in
    let now : c.insert.new.self.items ≡ insert (slice_set texts leaf c.new.result) leaf c.new-2.result = search rules in
    let inside : leaf < length texts = omega arith in
    now
    ∙ ap (λ (t : List ℕ). insert (slice_set texts leaf t) leaf c.new-2.result) c.new.ensures
    ∙ ap (insert (slice_set texts leaf []) leaf) c.new-2.ensures
    ∙ inserted texts leaf [] inside

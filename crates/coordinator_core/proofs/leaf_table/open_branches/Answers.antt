use Rattle.std.proofs.Common.{◌≡◌, ◌<◌, ◌∙◌, length, slice_set, rules, arith}
use Rattle.std.specs.List.{insert}
use Rattle.coordinator_core.specs.declared.job_state.LeafState.TheVariants.{Open}
use Rattle.coordinator_core.proofs.SplitLemmas.{inserted}
use Rattle.coordinator_core.proofs.leaf_table.open_branches.Goals as goal

pub returns : goal.returns
returns c =
    let now : c.insert.new.self.items ≡ insert (slice_set c.args.states.now.items c.args.leaf Open) c.args.leaf Open = search rules in
    let inside : c.args.leaf < length c.args.states.now.items = omega arith in
    now ∙ inserted c.args.states.now.items c.args.leaf Open inside

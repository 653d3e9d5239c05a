use Rattle.std.proofs.Common.{◌∙◌}
use Rattle.std.proofs.lemmas.Result.{on_ok_weaker}
use Rattle.clause_arena.proofs.CompactionLemmas.{refs_listed}
use Rattle.clause_arena.proofs.slot_map.SlotMap.list.Goals as goal

pub returns-clause-listed : goal.returns-clause-listed
returns-clause-listed c = on_ok_weaker c.list_far.result
    (λ e. e ∙ refs_listed c.args.self.now c.args.refs.now.items c.list.new.refs.items c.requires c.list_far.ensures.ordered c.in_ok-list.ensures.listed)
    c.list_far.ensures.ok

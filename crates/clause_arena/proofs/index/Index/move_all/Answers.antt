use Rattle.std.proofs.Common.{get_or}
use Rattle.clause_arena.specs.declared.reference.Ref.{Ref}
use Rattle.clause_arena.specs.inner.Contents.{slot_of}
use Rattle.clause_arena.proofs.RelocationLemmas.{moved_step, live_step}
use Rattle.clause_arena.proofs.index.Index.move_all.Goals as goal

none : Ref
none = record { number = 0; place = 0; len = 0 }

pub loop-to-preserved : goal.loop-to-preserved
unfolding none
loop-to-preserved c =
    let to = (get_or c.args.moves.now c.loop-to.to-index (none, none)).1 in (
      moved_step c.loop-to.self c.args.self.now c.replace.new.self c.args.moves.now c.loop-to.to-index (none, none) c.loop-to-test.true c.replace.ensures c.loop-to.invariant.0,
      λ q live. live_step c.loop-to.self c.replace.new.self to.number q (slot_of to) c.replace.ensures (c.loop-to.invariant.1 q live),
    )

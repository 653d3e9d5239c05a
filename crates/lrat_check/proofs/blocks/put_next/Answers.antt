use Rattle.std.proofs.Common.{◌∙◌, Some, refl}
use Rattle.std.proofs.lemmas.Result.{on_ok_weaker}
use Rattle.lrat_check.proofs.BlocksLemmas.{put_at}
use Rattle.lrat_check.proofs.blocks.put_next.Goals as goal

pub returns-clause-longer : goal.returns-clause-longer
returns-clause-longer c = on_ok_weaker c.set.result
    (λ e. (put_at c.grow_to.new.blocks c.set.new.self c.args.place (Some c.args.slot) (Some c.args.slot) c.in_ok-grow_to.ensures.longer refl e).0) c.set.ensures.ok

pub returns-clause-here : goal.returns-clause-here
returns-clause-here c = on_ok_weaker c.set.result
    (λ e. (put_at c.grow_to.new.blocks c.set.new.self c.args.place (Some c.args.slot) (Some c.args.slot) c.in_ok-grow_to.ensures.longer refl e).1) c.set.ensures.ok

pub returns-clause-others : goal.returns-clause-others
returns-clause-others c = on_ok_weaker c.set.result
    (λ e q ne. (put_at c.grow_to.new.blocks c.set.new.self c.args.place (Some c.args.slot) (Some c.args.slot) c.in_ok-grow_to.ensures.longer refl e).2 q ne ∙ c.grow_to.ensures.same q)
    c.set.ensures.ok

use Rattle.commands.proofs.JoinLemmas.{left_stands}
use Rattle.commands.proofs.KnownLemmas.{on_ok_before, on_ok_two}
use Rattle.commands.proofs.join_run.abandon.Goals as goal

pub returns-clause-stands : goal.returns-clause-stands
returns-clause-stands g c =
    let a = c.args.joined.now in
    let b = c.abandon.new.self in
    let n = c.write.new.joined in
    let left = on_ok_before c.abandon.result c.map_err.result c.in_ok-map_err.field-0 _ _ c.map_err.ensures.cases c.in_ok-map_err.was c.abandon.ensures.holds in
    on_ok_two c.write.result _ _ _ c.write.ensures.part c.write.ensures.holds
    (λ put moved. left_stands g.D.Drafts.made a.join b n.join a.part n.part b.join.lines.out.items left put moved)

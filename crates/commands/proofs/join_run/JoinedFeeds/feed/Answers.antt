use Rattle.commands.proofs.JoinLemmas.{joined_piece}
use Rattle.commands.proofs.KnownLemmas.{on_ok_before, on_ok_two}
use Rattle.commands.proofs.join_run.JoinedFeeds.feed.Goals as goal

pub returns-clause-taken : goal.returns-clause-taken
returns-clause-taken g c =
    let a = c.args.self.now in
    let b = c.feed.new.self in
    let n = c.write.new.joined in
    let fed = on_ok_before c.feed.result c.map_err.result c.in_ok-map_err.field-0 _ _ c.map_err.ensures.cases c.in_ok-map_err.was c.feed.ensures in
    on_ok_two c.write.result _ _ _ c.write.ensures.part c.write.ensures.holds
    (λ put moved. (c.write.ensures.disk, joined_piece g.D.Drafts.made a.join b n.join a.part n.part c.args.piece.now b.join.lines.out.items fed put moved))

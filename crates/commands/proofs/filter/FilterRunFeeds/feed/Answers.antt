use Rattle.std.proofs.Common.{List, ℕ, subst}
use Rattle.commands.specs.inner.Filter.{Grew, poured_piece}
use Rattle.commands.proofs.filter.FilterRunFeeds.feed.Goals as goal

pub returns-clause-taken : goal.returns-clause-taken
returns-clause-taken g c =
    let Out : List ℕ → Type 0 = Grew g.D.Drafts.made c.args.self.now.part c.append.new.part in
    poured_piece g.D.Drafts.made g.P.Filter.moved g.P.Filter.more _ _ c.args.self.now.taker c.take.new.self c.hand_out.new.self c.args.piece.now _
    c.in_ok-take.ensures.taken (subst Out c.waiting.ensures c.in_ok-append.ensures.written) c.hand_out.ensures

use Rattle.commands.proofs.TextLemmas.{held_more, held_within, left_more}
use Rattle.commands.proofs.pending_text.Text.take.Goals as goal

pub returns-clause-taken : goal.returns-clause-taken
returns-clause-taken g c =
    let t = c.args.self.now in
    left_more (g.S.Read.remaining t.pieces.source) _ _ _ (held_more t.pieces.room.items t.at t.end c.args.count (held_within t.pieces.room.items t.at t.end c.args.count t.ordered c.requires))

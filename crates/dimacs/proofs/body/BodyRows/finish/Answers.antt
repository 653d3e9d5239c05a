use Rattle.std.proofs.Common.{arith, inr}
use Rattle.std.proofs.lemmas.Bool.{MatchBool-at_true, MatchBool-at_false}
use Rattle.dimacs.proofs.BodyLemmas.{finish_open, finish_few, finish_whole}
use Rattle.dimacs.proofs.body.BodyRows.finish.Goals as goal

pub returns-then-is_open : goal.returns-then-is_open
returns-then-is_open c =
    let b = c.self.inside in
    rw (← c.self.view_is, c.at.ensures) (inr (finish_open c.args.lines b.vars b.count b.limit _ _ _ (MatchBool-at_true _ _ c.if-is_open.true c.is_open.ensures)))

pub returns-then-len-count : goal.returns-then-len-count
returns-then-len-count c =
    let b = c.self.inside in
    rw (← c.self.view_is, c.at-then-len-count.ensures) (inr (finish_few c.args.lines b.vars b.count b.limit _ _ _ (MatchBool-at_false _ _ c.if-is_open.false c.is_open.ensures) (omega arith)))

pub returns : goal.returns
returns c =
    let b = c.self.inside in
    rw (← c.self.view_is, c.in_ok-finish.ensures) (finish_whole c.args.lines b.vars b.count b.limit _ _ _ (MatchBool-at_false _ _ c.if-is_open.false c.is_open.ensures) (omega arith))

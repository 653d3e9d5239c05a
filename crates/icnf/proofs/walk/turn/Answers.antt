use Rattle.std.proofs.Common.{arith, rules, ◌≡◌, ◌++◌, ◌∷◌, [], ◌∙◌, sym, ap, Some}
use Rattle.icnf.specs.Walk.{other_place}
use Rattle.icnf.proofs.WalkLemmas.{turn_open, turn_closed}
use Rattle.icnf.proofs.walk.turn.Goals as goal

pub returns-then-place-clause-front : goal.returns-then-place-clause-front
returns-then-place-clause-front c =
    let items : c.push.new.self.items ≡ c.pop.new.self.items ++ other_place c.in-Some.place ∷ [] = search rules in
    turn_open c.args.path.now.items c.loop-place.path.items c.pop.new.self.items c.in-Some.place c.loop-place.invariant.0 c.in-Some.ensures.items c.if-place.true ∙ sym (ap Some items)

pub loop-place-preserved : goal.loop-place-preserved
loop-place-preserved c = (turn_closed c.args.path.now.items c.loop-place.path.items c.pop.new.self.items c.in-Some.place c.loop-place.invariant.0 c.in-Some.ensures.items c.if-place.false, omega arith)

use Rattle.std.proofs.Common.{arith, rules, ◌≡◌, ◌++◌, ◌∷◌, []}
use Rattle.icnf.proofs.SpanLemmas.{literals_more}
use Rattle.icnf.proofs.span.append_literals.Goals as goal

pub loop-place-preserved : goal.loop-place-preserved
loop-place-preserved c =
    let items : c.push.new.self.items ≡ c.loop-place.literals.items ++ c.place-item.result.literal ∷ [] = search rules in (
      literals_more c.args.literals.now.items c.loop-place.literals.items c.push.new.self.items c.args.path.now c.loop-place.place-index c.place-item.result c.loop-place-test.true c.place-item.is c.loop-place.invariant.0 items,
      omega arith,
      search rules,
    )

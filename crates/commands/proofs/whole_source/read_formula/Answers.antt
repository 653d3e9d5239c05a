use Rattle.std.proofs.Common.{List, ℕ, []}
use Rattle.dimacs.specs.logic.Limits.{Limits}
use Rattle.dimacs.specs.text.Parser.{GivesFormula, parse_within}
use Rattle.dimacs.specs.text.Pieces.{HasReadWithin}
use Rattle.commands.specs.inner.Feed.{Extends}
use Rattle.commands.proofs.OfLemmas.{of_map}
use Rattle.commands.proofs.whole_source.read_formula.Goals as goal

pub returns-clause-found : goal.returns-clause-found
returns-clause-found g c =
    let Fed : List ℕ → Type 0 = λ text. (L : Limits) → Extends (λ bytes r. HasReadWithin L r bytes) c.within-reader.result c.feed_all.new.taker text in
    of_map Fed (λ text. GivesFormula c.finish.result (parse_within c.args.limits text)) _
    (λ text fed. c.finish.ensures c.args.limits text (fed c.args.limits [] c.within-reader.ensures)) c.in_ok-feed_all.ensures.fed

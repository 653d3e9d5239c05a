use Rattle.std.proofs.Common.{ℕ, List, []}
use Rattle.commands.specs.Model.{Tests}
use Rattle.commands.specs.inner.Feed.{Extends}
use Rattle.commands.specs.inner.Model.{IsTesting}
use Rattle.commands.proofs.OfLemmas.{of_ok, of_opened}
use Rattle.commands.proofs.model.tested.Goals as goal
use Rattle.dimacs.specs.logic.Cnf.{Cnf}

pub returns-clause-tests : goal.returns-clause-tests
returns-clause-tests g c = λ F start.
    let Fed : List ℕ → Type 0 = λ bytes. (G : Cnf) → Extends (IsTesting G) c.args.check c.feed_all.new.taker bytes in
    of_ok Fed (Tests F) _ c.finished.result (of_opened Fed _ _ c.in_ok-bytes.ensures.bytes c.in_ok-feed_all.ensures.fed)
    (λ bytes fed. c.finished.ensures.tests F bytes (fed F [] start))

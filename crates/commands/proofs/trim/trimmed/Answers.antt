use Rattle.std.proofs.Common.{ℕ, List, []}
use Rattle.commands.specs.Trim.{TellsTrimming}
use Rattle.commands.specs.inner.Feed.{Extends}
use Rattle.commands.specs.inner.Trim.{IsTrimming}
use Rattle.commands.proofs.OfLemmas.{of_ok, of_opened}
use Rattle.commands.proofs.trim.trimmed.Goals as goal
use Rattle.dimacs.specs.logic.Cnf.{Cnf}

pub returns-clause-tells : goal.returns-clause-tells
returns-clause-tells g c =
    let F = c.args.formula in
    let Fed : List ℕ → Type 0 = λ bytes. (G : Cnf) → Extends (IsTrimming G) c.in_ok-text.text c.feed_all.new.taker bytes in
    of_ok Fed (TellsTrimming F) _ c.finished.result (of_opened Fed _ _ c.in_ok-bytes.ensures.bytes c.in_ok-feed_all.ensures.fed)
    (λ bytes fed. c.finished.ensures.tells F bytes (fed F [] c.in_ok-text.ensures.trims))

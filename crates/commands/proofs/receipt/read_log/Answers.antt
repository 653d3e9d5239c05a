use Rattle.std.proofs.Common.{ℕ, List, []}
use Rattle.commands.specs.inner.Feed.{Extends}
use Rattle.commands.specs.inner.Receipts.{ComesTo}
use Rattle.commands.proofs.OfLemmas.{of_ok, of_opened}
use Rattle.commands.proofs.receipt.read_log.Goals as goal
use Rattle.dimacs.specs.logic.Cnf.{Cnf}
use Rattle.icnf.specs.Leaves.{Cube}
use Rattle.receipts.specs.LogReceipt.{HasReadLog}

pub returns-clause-comes : goal.returns-clause-comes
returns-clause-comes g c =
    let s = c.args.split.now in
    let Fed : List ℕ → Type 0 = λ log. (F : Cnf) (cubes : List Cube) → Extends (HasReadLog F cubes) c.in_ok-receiving.receiving c.feed_all.new.taker log in
    of_ok Fed (λ log x. ComesTo s.formula s.tree log x) _ c.finished.result (of_opened Fed _ _ c.in_ok-bytes.ensures.bytes c.in_ok-feed_all.ensures.fed)
    (λ log fed. c.finished.ensures.comes log (fed s.formula s.tree [] c.in_ok-receiving.ensures.reads))

use Rattle.std.proofs.Common.{ℕ, List}
use Rattle.sharing.proofs.exchange.Exchange.meet.Given as goal

abbrev pub invariant-found : goal.invariant-found
invariant-found g l = (log : List ℕ) → g.F.Folder.has_logged l.fn.folder log → g.F.Folder.has_logged l.folder log

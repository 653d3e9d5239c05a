use Rattle.std.proofs.Common.{ℕ, List}
use Rattle.sharing.proofs.exchange.Exchange.read.Given as goal

abbrev pub invariant-loop-row : goal.invariant-loop-row
invariant-loop-row g l = (log : List ℕ) → g.F.Folder.has_logged l.fn.folder log → g.F.Folder.has_logged l.folder log

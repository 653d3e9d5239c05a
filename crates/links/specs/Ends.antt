-- The worker to whose link an end belongs.
use Rattle.std.specs.Prelude.{ℕ}
use Rattle.links.specs.declared.link.End.{End}
use Rattle.links.specs.declared.link.End.TheVariants.{Coordinator, Worker}

-- the number of the worker to whose link an end belongs
abbrev pub link_of : End → ℕ
link_of (Coordinator worker) = worker
link_of (Worker worker) = worker

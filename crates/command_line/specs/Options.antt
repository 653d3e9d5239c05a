-- The ranges of a run's options.
use Rattle.std.specs.Prelude.{◌≤◌}
use Rattle.command_line.specs.declared.options.Options.{Options}

-- the options are in their ranges: 1 to 64 workers, a depth of at most 16, a limit from 1 to 1,000,000,000, a worker's number from 1 to 64,
-- and at most 64 definitions
pub record AreOptions (options : Options) : Type 0 where
  pub some_worker : 1 ≤ options.workers
  pub few_workers : options.workers ≤ 64
  pub depth : options.depth ≤ 16
  pub least : 1 ≤ options.limit
  pub most : options.limit ≤ 1000000000
  pub first_number : 1 ≤ options.number
  pub last_number : options.number ≤ 64
  pub few_definitions : options.defs ≤ 64

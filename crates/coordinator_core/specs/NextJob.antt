-- The number of the next job.
use Rattle.std.specs.Prelude.{ℕ, ◌^◌, Option, Some, None}

-- the number of the next job, from the option that the code keeps: 2^64 if none is left
abbrev pub next_of : Option ℕ → ℕ
next_of None = 2 ^ 64
next_of (Some number) = number

-- The limits on an input that the words give.
use Rattle.std.specs.Prelude.{Bool, true, false}
use Rattle.dimacs.specs.logic.Limits.{Limits, large, written}

-- the limits on an input: the large ones if they are asked for, else the written ones
abbrev pub limits_by : Bool → Limits
limits_by true = large
limits_by false = written

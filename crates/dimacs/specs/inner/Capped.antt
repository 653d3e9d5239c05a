-- Numbers as the code keeps them: the sign, and the absolute value with a cap.
use Rattle.std.specs.Prelude.{suc, min, false, true, ℤ, pos, negsuc}
use Rattle.dimacs.specs.declared.number.Number.{Number}

-- the number as the code keeps it: the sign, and the absolute value, at most 100,000,000
abbrev pub capped : ℤ → Number
capped (pos n) = record { negative = false; size = min 100000000 n }
capped (negsuc n) = record { negative = true; size = min 100000000 (suc n) }

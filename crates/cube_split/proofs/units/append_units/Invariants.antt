use Rattle.std.proofs.Common.{◌≡◌, take}
use Rattle.cube_split.specs.SplitTree.{with_units}
use Rattle.cube_split.proofs.units.append_units.Given as goal

-- the units so far
abbrev pub invariant-loop-unit : goal.invariant-loop-unit
invariant-loop-unit l = l.base ≡ with_units l.fn.front (take l.unit-index l.units)

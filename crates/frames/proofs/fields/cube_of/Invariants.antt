use Rattle.std.proofs.Common.{◌≡◌, ◌%◌, ◌++◌, length}
use Rattle.std.specs.List.{flat_map}
use Rattle.frames.specs.Cubes.{IsCube}
use Rattle.frames.specs.WireFormat.{literal_bytes}
use Rattle.frames.proofs.fields.cube_of.Given as goal

-- the cube so far, and the bytes that are left
abbrev pub invariant-loop-rest : goal.invariant-loop-rest
invariant-loop-rest l = record {
  parts : l.bytes ≡ flat_map literal_bytes l.cube ++ l.rest;
  cube : IsCube l.cube;
  fours : length l.rest % 4 ≡ 0;
}

abbrev pub decreases-loop-rest : goal.decreases-loop-rest
decreases-loop-rest l = length l.rest

use Rattle.std.proofs.Common.{◌≡◌, ◌+◌, ◌^◌, ◌<◌, ◌++◌, take, length}
use Rattle.proof_join.specs.JoinedProof.{unit_steps}
use Rattle.lrat_text.specs.Runs.{text_of}
use Rattle.proof_join.proofs.preamble.put_units.Given as goal

abbrev pub invariant-loop-unit : goal.invariant-loop-unit
invariant-loop-unit l = record {
  text : l.out ≡ l.fn.out ++ text_of l.top (unit_steps l.top (take l.unit-index l.units));
  last : l.last ≡ l.top + l.unit-index;
  short : length l.out < 2 ^ 32;
}

use Rattle.std.proofs.Common.{◌≡◌, ◌+◌, ◌*◌, ◌^◌, ◌<◌, ◌++◌, take, length}
use Rattle.lrat_text.specs.Runs.{text_of}
use Rattle.proof_join.specs.Definitions.{all_steps}
use Rattle.proof_join.proofs.preamble.put_definitions.Given as goal

-- the lines of the pairs so far
abbrev pub invariant-loop-pair : goal.invariant-loop-pair
invariant-loop-pair l = record {
  text : l.out ≡ l.fn.out ++ text_of l.top (all_steps l.top (l.vars + 1) (take l.pair-index l.pairs));
  last : l.last ≡ l.top + 3 * l.pair-index;
  variable : l.variable ≡ l.vars + l.pair-index;
  short : length l.out < 2 ^ 32;
}

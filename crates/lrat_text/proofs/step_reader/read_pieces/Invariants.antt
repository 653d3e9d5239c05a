use Rattle.std.proofs.Common.{◌≡◌, ◌++◌, List, take, Ok}
use Rattle.lrat_text.specs.declared.step.Step.{Step}
use Rattle.lrat_text.specs.Pieces.{HasTaken, answer_in, joined}
use Rattle.lrat_text.proofs.step_reader.read_pieces.Given as goal

-- the reader has taken the pieces so far, and met no fault
abbrev pub invariant-loop-piece : goal.invariant-loop-piece
invariant-loop-piece l = record {
  new : List Step;
  steps : l.steps.items ≡ l.initial.steps.items ++ new;
  taken : HasTaken l.reader (joined (take l.piece-index l.pieces)) new;
  well : answer_in l.reader ≡ Ok tt;
}

use Rattle.coordinator_core.proofs.PollLemmas.{model_part}
use Rattle.std.proofs.Common.{ℕ, List, ◌∙◌, ap, length, take, drop, arith}
use Rattle.std.proofs.lemmas.List.{length-map, length-take}
use Rattle.lrat_check.specs.Judgement.{value_byte}
use Rattle.coordinator_core.proofs.poll.part.Goals as goal

pub from_vec-requires-clause-below : goal.from_vec-requires-clause-below
from_vec-requires-clause-below c = omega (arith, ap length c.in_ok-bytes-in-Model.ensures, length-map c.part_of.result.now value_byte, c.part_of.ensures.few)

pub returns-in_ok-bytes-in-Model : goal.returns-in_ok-bytes-in-Model
returns-in_ok-bytes-in-Model c =
    model_part c.args.verdict.now _ c.part_of.result.now c.args.offset _ c.in-Model.is (c.from_vec.ensures ∙ c.in_ok-bytes-in-Model.ensures)
    (c.part_of.ensures.part ∙ ap (λ v. take 4000 (drop c.args.offset v)) c.values.ensures)

pub from_vec-requires-in-Proof-clause-below : goal.from_vec-requires-in-Proof-clause-below
from_vec-requires-in-Proof-clause-below c =
    omega (arith, ap (λ (ts : List ℕ). length ts) c.in_ok-bytes-in-Proof.ensures, length-take 4000 (drop c.args.offset c.in-Proof.text))

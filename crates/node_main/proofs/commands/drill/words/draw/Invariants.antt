use Rattle.std.proofs.Common.{◌≡◌, ◌*◌, ◌-◌, ◌++◌, All, length}
use Rattle.std.specs.List.{concat}
use Rattle.rand_core.specs.Steps.{stream_of, steps_u64_high}
use Rattle.rand_xoshiro.specs.Xoshiro256.{plus_plus}
use Rattle.node_main.proofs.DrawLemmas.{stream_words}
use Rattle.node_main.proofs.commands.drill.words.draw.Given as goal

-- so many turns were drawn, and the words that are left follow
abbrev pub invariant-loop : goal.invariant-loop
invariant-loop l =
    (length l.words.items ≡ l.counter) × All (λ words. length words ≡ 3) l.words.items
    × (concat l.words.items ++ stream_words (3 * (l.turns - l.counter)) (stream_of (steps_u64_high plus_plus) l.generator)
    ≡ stream_words (3 * l.turns) (stream_of (steps_u64_high plus_plus) l.initial.generator))

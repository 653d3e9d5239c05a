-- The random words of a drill.
use Rattle.std.specs.Prelude.{◌≡◌, ℕ, ◌*◌, List, All, length}
use Rattle.std.specs.List.{concat}
use Rattle.rand_core.specs.Steps.{first_words}
use Rattle.rand_xoshiro.specs.SplitMix64.{splitmix_seed}
use Rattle.rand_xoshiro.specs.Xoshiro256.{plus_plus, of_seed}

-- `words_of_seed seed n`: the first n 64-bit words of xoshiro256++, whose state SplitMix64 makes of the seed
abbrev pub words_of_seed : ℕ → ℕ → List ℕ
words_of_seed seed n = first_words plus_plus n (of_seed (splitmix_seed 32 seed))

-- the words of this many turns, drawn from the seed: a list of three for each turn, in order
pub record AreDrawn (seed turns : ℕ) (drawn : List (List ℕ)) : Type 0 where
  pub each : length drawn ≡ turns
  pub three : All (λ words. length words ≡ 3) drawn
  pub words : concat drawn ≡ words_of_seed seed (3 * turns)

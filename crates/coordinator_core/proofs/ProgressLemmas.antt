-- The number of closed leaves.
use Rattle.std.proofs.Common.{◌≡◌, ℕ, ◌+◌, ◌-◌, cond, List, [], ◌∷◌, length, refl, arith}
use Rattle.std.specs.Prelude.{count_by}
use Rattle.std.proofs.lemmas.List.Sums.{sum_by-cons}
use Rattle.coordinator_core.specs.Progress.{is_closed}
use Rattle.coordinator_core.specs.inner.LeafTable.{IsLeafTable, is_unclosed}
use Rattle.coordinator_core.specs.declared.job_state.LeafState.{LeafState}
use Rattle.coordinator_core.specs.declared.job_state.LeafState.TheVariants.{Open, GivenTo, Closed}

one_more : (l : LeafState) (states : List LeafState) → count_by is_closed (l ∷ states) ≡ cond (is_closed l) 1 0 + count_by is_closed states
one_more l states = sum_by-cons (λ x. cond (is_closed x) 1 0) l states

one_less : (l : LeafState) (states : List LeafState) → count_by is_unclosed (l ∷ states) ≡ cond (is_unclosed l) 1 0 + count_by is_unclosed states
one_less l states = sum_by-cons (λ x. cond (is_unclosed x) 1 0) l states

closed_or_not : (states : List LeafState) → count_by is_closed states + count_by is_unclosed states ≡ length states
closed_or_not [] = refl
closed_or_not (Open ∷ states) = let h = closed_or_not states in omega (arith, h, one_more Open states, one_less Open states)
closed_or_not (GivenTo worker ∷ states) = let h = closed_or_not states in omega (arith, h, one_more (GivenTo worker) states, one_less (GivenTo worker) states)
closed_or_not (Closed ∷ states) = let h = closed_or_not states in omega (arith, h, one_more Closed states, one_less Closed states)

pub closed_is : (states : List LeafState) (fragments : List (List ℕ)) (unclosed from : ℕ) → IsLeafTable states fragments unclosed from
    → length states - unclosed ≡ count_by is_closed states
closed_is states fragments unclosed from table =
    let both = closed_or_not states in
    let count = table.counted in
    omega (arith, both, count)

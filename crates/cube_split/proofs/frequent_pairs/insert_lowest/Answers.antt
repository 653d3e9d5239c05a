use Rattle.std.proofs.Common.{rules, arith, ◌≡◌, ◌∙◌, ℕ, ◌+◌, ◌-◌, ◌≤◌, take, drop, List, sym, ap}
use Rattle.std.proofs.lemmas.List.{take-append-drop}
use Rattle.std.proofs.lemmas.List.Elements.{All-nil}
use Rattle.cube_split.proofs.LowestLemmas.{rising_front}
use Rattle.cube_split.proofs.frequent_pairs.insert_lowest.Goals as goal
use Rattle.cube_split.proofs.frequent_pairs.insert_lowest.Goals.{then-loop-place-test+else-index-number, else-loop-place-test}

pub returns : goal.returns
returns c =
    let place = c.loop-place.place in
    let items : List ℕ = c.args.best.now.items in
    record {
      front = take place items;
      back = drop place items;
      splits = sym (take-append-drop place items);
      below = elim c.loop-place-test.branch [
        | then-loop-place-test+else-index-number w ↦
            let next : place - 1 + 1 ≡ place = omega (arith, w.loop-place-test.true) in
            rw (← next) (rising_front items (place - 1) c.args.number w.index.result.now c.requires (omega (arith, c.loop-place.invariant.inside, c.args.best.now.ok.0, w.loop-place-test.true)) w.index.ensures (search rules))
        | else-loop-place-test w ↦
            let none : place ≡ 0 = omega (arith, w.loop-place-test.false) in
            rw none (All-nil (λ x. x ≤ c.args.number))
      ];
      above = c.loop-place.invariant.above;
      kept = c.truncate.ensures.items ∙ ap (take c.args.limit) c.in_ok-insert.ensures.items;
    }

-- What is left in the buffer after some of it was handed out.
use Rattle.std.proofs.Common.{◌≡◌, ◌<◌, ◌≤◌, ◌+◌, ◌-◌, ℕ, List, [], ◌++◌, length, take, drop, refl, sym, ap, ◌∙◌, arith}
use Rattle.std.proofs.Math.Seq.{take-add}
use Rattle.std.proofs.lemmas.List.{drop-drop, length-take-le, length-drop, take_at}
use Rattle.connections.specs.inner.NextEvent.{IsHandedOut}

-- `count` bytes from `start` on are put at the front of a room
pub handed_out : (items room front : List ℕ) (place start end count : ℕ) → 0 < count → count ≤ end - start → end ≤ length items → front ≡ take count (drop start items)
    → IsHandedOut (record { place = place; bytes = take (end - start) (drop start items) }) place count (front ++ drop count room)
    (record { place = place; bytes = take (end - (start + count)) (drop (start + count) items) })
handed_out items room front place start end count some within inside are = record {
  some = some;
  whose = refl;
  bytes = cut ∙ ap (λ (bs : List ℕ). bs ++ take (end - (start + count)) (drop (start + count) items)) (sym given);
  others = refl;
}
  where
    long : length front ≡ count
    long = ap length are ∙ length-take-le count (drop start items) (omega (arith, length-drop start items))

    given : take count (front ++ drop count room) ≡ take count (drop start items)
    given = take_at front (drop count room) count long ∙ are

    apart : end - start ≡ count + (end - (start + count))
    apart = omega arith

    cut : take (end - start) (drop start items) ≡ take count (drop start items) ++ take (end - (start + count)) (drop (start + count) items)
    cut =
        ap (λ (n : ℕ). take n (drop start items)) apart ∙ take-add count (end - (start + count)) (drop start items)
        ∙ ap (λ (bs : List ℕ). take count (drop start items) ++ take (end - (start + count)) bs) (drop-drop count start items)

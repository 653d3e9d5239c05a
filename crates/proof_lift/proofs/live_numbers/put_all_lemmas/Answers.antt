use Rattle.std.proofs.Common.{◌+◌, ◌%◌, ◌<◌, ◌≤◌, inl, inr, length, arith}
use Rattle.std.proofs.lemmas.Bool.{cases_lt}
use Rattle.proof_lift.specs.inner.Images.{images_of}
use Rattle.proof_lift.specs.inner.Propagation.{HasKey}
use Rattle.proof_lift.proofs.ListingLemmas.{lists_then, key_in_maps, place_in_maps}
use Rattle.proof_lift.proofs.live_numbers.put_all_lemmas.Goals as goal

pub loop-i-preserved : goal.loop-i-preserved
loop-i-preserved c =
    let x = c.args.images.now in
    let i = c.loop-i.i in
    let inside : i < length x.lemmas.maps.items = omega (arith, c.loop-i-test.true, c.len-i-end.ensures) in
    lists_then (images_of x) (λ n. (length x.live.items ≤ n) × (n % 8192 < i)) (HasKey c.index.result.now) (λ n. (length x.live.items ≤ n) × (n % 8192 < i + 1)) c.args.numbers.now.items c.loop-i.numbers.items c.put_lemmas.new.numbers.items
    c.loop-i.invariant c.in_ok-put_lemmas.ensures
    (λ n k D r e. elim (cases_lt (n % 8192) i) [
      | inl t ↦ inl (r.0, t)
      | inr f ↦ (let s = r.1 in inr (key_in_maps x c.index.result.now i n k D r.0 (omega arith) inside c.index.ensures e))
    ])

pub returns : goal.returns
returns c =
    let x = c.args.images.now in
    let past : length x.lemmas.maps.items ≤ c.loop-i.i = omega (arith, c.loop-i-test.false, c.len-i-end.ensures) in
    record {
      numbers = c.loop-i.invariant.numbers;
      stay = c.loop-i.invariant.stay;
      each = λ n k D r e u. c.loop-i.invariant.each n k D (r, place_in_maps x c.loop-i.i n k D r past e) e u;
    }

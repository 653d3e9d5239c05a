use Rattle.std.proofs.Common.{◌+◌, ◌<◌, ◌≡◌, inl, inr, arith}
use Rattle.std.proofs.lemmas.Bool.{cases_lt}
use Rattle.proof_lift.specs.inner.Images.{images_of}
use Rattle.proof_lift.proofs.ListingLemmas.{lists_then}
use Rattle.proof_lift.proofs.live_numbers.put_formula.Goals as goal

pub loop-number-preserved : goal.loop-number-preserved
loop-number-preserved c =
    let k = c.loop-number.number in
    lists_then (images_of c.args.images.now) (λ n. n < k) (λ n. n ≡ k) (λ n. n < k + 1) c.args.numbers.now.items c.loop-number.numbers.items c.push_live.new.numbers.items c.loop-number.invariant c.in_ok-push_live.ensures
    (λ n i D r e. elim (cases_lt n k) [ inl t ↦ inl t | inr f ↦ inr (omega arith) ])

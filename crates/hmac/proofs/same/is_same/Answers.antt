use Rattle.std.proofs.Common.{ap, below_more, get_or, arith, ◌∙◌, refl, sym}
use Rattle.std.proofs.lemmas.Grind.{same_number_lists}
use Rattle.std.proofs.lemmas.Bool.{eqb-true}
use Rattle.hmac.proofs.XorLemmas.{same_from_xor, zero_from_or_l, zero_from_or_r, or_xor_self}
use Rattle.hmac.proofs.same.is_same.Goals as goal

pub loop-i-preserved : goal.loop-i-preserved
loop-i-preserved c = record {
  same = λ zero. below_more _ _ (c.loop-i.invariant.same (zero_from_or_l _ _ zero)) (same_from_xor _ _ (zero_from_or_r _ _ zero));
  none = λ e. or_xor_self _ _ _ (c.loop-i.invariant.none e) (ap (λ xs. get_or xs c.loop-i.i 0) e);
}

pub returns : goal.returns
returns c = (
  λ told. same_number_lists _ _ (c.told-a ∙ sym c.told-b) (λ k within. c.loop-i.invariant.same (eqb-true _ _ told) k (omega (arith, within, c.told-a, c.loop-i-test.false))),
  λ e. rw (c.loop-i.invariant.none e) refl,
)

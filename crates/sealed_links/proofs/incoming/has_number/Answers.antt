use Rattle.std.proofs.Common.{length, take, ap, sym, eq-eqb, ◌∙◌}
use Rattle.std.proofs.lemmas.Bool.{eqb-true}
use Rattle.sealed_links.specs.Numbers.{bytes8, number8}
use Rattle.sealed_links.proofs.NumberLemmas.{bytes8-number8, number8-bytes8, small_front}
use Rattle.sealed_links.proofs.incoming.has_number.Goals as goal

pub returns : goal.returns
returns c =
    let read = c.number_of8.ensures ∙ ap number8 c.copy_from_slice.ensures.after in
    let front = bytes8-number8 (take 8 c.args.bytes.now) (sym (ap length c.copy_from_slice.ensures.after) ∙ c.copy_from_slice.ensures.len) (small_front 8 c.args.bytes.now (λ i. (c.type_inv.bytes i).fits)) in (
      λ told. sym (ap bytes8 (sym (eqb-true _ _ told) ∙ read) ∙ front),
      λ same. eq-eqb _ _ (read ∙ ap number8 same ∙ number8-bytes8 _ c.ranges.number.fits),
    )

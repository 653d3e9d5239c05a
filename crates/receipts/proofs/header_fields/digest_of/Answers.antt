use Rattle.std.proofs.Common.{refl, sym, ◌∙◌}
use Rattle.receipts.proofs.FieldLemmas.{decoded, differ, same_bytes, on_well, undecoded, unwritten}
use Rattle.receipts.proofs.header_fields.digest_of.Goals as goal

pub returns-then-is_err : goal.returns-then-is_err
returns-then-is_err c = undecoded c.args.digits.now _ c.decode_to_slice.result c.decode_to_slice.new.out refl c.decode_to_slice.ensures.value (sym c.is_err.ensures.value ∙ c.if-is_err.true)

pub returns-then-ne : goal.returns-then-ne
returns-then-ne c =
    unwritten c.args.digits.now c.encode_to_slice.new.output _ c.decode_to_slice.result c.decode_to_slice.new.out refl c.decode_to_slice.ensures.value
    (on_well c.encode_to_slice.result (sym c.is_err-2.ensures.value ∙ c.if-is_err-2.false) c.encode_to_slice.ensures.written)
    (λ e. differ c.ne.result c.as_slice.result.now c.args.digits.now c.ne.ensures c.if-ne.true (c.as_slice.ensures ∙ e))

pub returns : goal.returns
returns c = (
  sym (same_bytes c.ne.result c.as_slice.result.now c.args.digits.now c.ne.ensures c.if-ne.false) ∙ c.as_slice.ensures
      ∙ on_well c.encode_to_slice.result (sym c.is_err-2.ensures.value ∙ c.if-is_err-2.false) c.encode_to_slice.ensures.written,
  decoded c.args.digits.now _ c.decode_to_slice.result c.decode_to_slice.new.out refl c.decode_to_slice.ensures.value (sym c.is_err.ensures.value ∙ c.if-is_err.false),
)

use Rattle.std.proofs.Common.{List, ℕ, ◌≡◌, ◌++◌, length, drop, ap, sym, ◌∙◌}
use Rattle.std.proofs.lemmas.List.{take_rest}
use Rattle.sealed_links.specs.SipHash.{tag_of}
use Rattle.sealed_links.proofs.RecordLemmas.{appended_record}
use Rattle.sealed_links.proofs.sealer.append_record.Goals as goal

pub returns : goal.returns
returns c =
    let old : List ℕ = c.args.out.now.items in
    let text : List ℕ = c.deref.result.now in
    let start = ap length c.as_slice-start.ensures.value in
    let from : c.tag-tag.result ≡ tag_of c.args.key.now (drop (length old) text) =
    c.tag-tag.ensures ∙ ap (tag_of c.args.key.now) (take_rest text (length c.as_slice-start.result.now) ∙ ap (λ n. drop n text) start) in
    c.in_ok-extend_from_slice.ensures.items ∙ (λ i. sym c.deref.ensures.value i ++ c.tag-tag.result)
    ∙ appended_record c.args.key.now c.args.number old c.args.payload.now text c.tag-tag.result (c.deref.ensures.value ∙ c.in_ok-append_text.ensures) from

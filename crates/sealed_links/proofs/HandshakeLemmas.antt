-- What a side has heard of its peer: as many bytes as have come.
use Rattle.std.proofs.Common.{◌≡◌, ◌-◌, ℕ, List, ◌++◌, length, min, take, ap, ◌∙◌, arith}
use Rattle.std.proofs.lemmas.List.{length-take-le, take_min}
use Rattle.sealed_links.specs.Handshakes.{HasShown, IsSameHandshake, digest_heard, heard_of}
use Rattle.sealed_links.specs.Meetings.{HasMet}
use Rattle.sealed_links.specs.declared.handshake.Handshake.{Handshake}

pub length-heard_of : (h : Handshake) → length h.heard ≡ 96 → length (heard_of h) ≡ h.count
unfolding heard_of
length-heard_of h long = length-take-le h.count h.heard (omega (arith, h.within, long))

pub has_met : (key : List ℕ) (before after : Handshake) (bytes : List ℕ) (count : ℕ) → IsSameHandshake before after → count ≡ min (96 - length (heard_of before)) (length bytes)
    → heard_of after ≡ heard_of before ++ take count bytes → length (heard_of after) ≡ 96 → HasShown key after → digest_heard after ≡ after.digest → HasMet key before bytes after
has_met key before after bytes count same e heard whole shown formula = record {
  same = same;
  heard = heard ∙ ap (λ n. heard_of before ++ take n bytes) e ∙ ap (λ ys. heard_of before ++ ys) (take_min (96 - length (heard_of before)) bytes);
  whole = whole;
  shown = shown;
  formula = formula;
}

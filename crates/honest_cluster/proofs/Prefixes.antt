-- Prefixes of lists, and parts of lists.
use Rattle.std.proofs.Common.{◌≡◌, ℕ, ◌+◌, ◌<◌, List, [], ◌++◌, length, take, drop, refl, sym, ap, ◌∙◌, append_assoc, length-append, arith}
use Rattle.std.proofs.lemmas.List.{take_at, append-nil, nil_from_length, take-append-drop, length-take-le}
use Rattle.honest_cluster.specs.ClosedLaws.{HasBytesAt}
use Rattle.honest_cluster.proofs.History.{IsPrefix}

-- a prefix with the next bytes is a longer prefix
pub front_grows : (a all b : List ℕ) (offset : ℕ) → IsPrefix a all → HasBytesAt all offset b → offset ≡ length a → IsPrefix (a ++ b) all
front_grows a all b offset f s at =
    let here : length s.before ≡ length a = s.place ∙ at in
    let first : take (length a) all ≡ a = ap (take (length a)) f.whole ∙ take_at a f.rest (length a) refl in
    let second : take (length a) all ≡ s.before = ap (take (length a)) s.whole ∙ take_at s.before (b ++ s.after) (length a) here in
    let same : s.before ≡ a = sym second ∙ first in
    record { rest = s.after; whole = s.whole ∙ ap (λ (x : List ℕ). x ++ (b ++ s.after)) same ∙ sym (append_assoc a b s.after) }

-- a prefix as long as the whole is the whole
pub front_whole : (a all : List ℕ) → IsPrefix a all → length a ≡ length all → a ≡ all
front_whole a all f long =
    let count : length all ≡ length a + length f.rest = ap length f.whole ∙ length-append a f.rest in
    let none : f.rest ≡ [] = nil_from_length f.rest (omega arith) in
    sym (f.whole ∙ ap (λ (x : List ℕ). a ++ x) none ∙ append-nil a)

-- the text has its own bytes from an offset on
pub chunk_stands : (all : List ℕ) (offset n : ℕ) → offset < length all → HasBytesAt all offset (take n (drop offset all))
chunk_stands all offset n inside = record {
  before = take offset all;
  after = drop n (drop offset all);
  whole = sym (ap (λ (x : List ℕ). take offset all ++ x) (take-append-drop n (drop offset all)) ∙ take-append-drop offset all);
  place = length-take-le offset all (omega arith);
}

-- the empty list is a prefix
pub empty_front : (all : List ℕ) → IsPrefix [] all
empty_front all = record { rest = all; whole = refl }

-- The tables of leaves: counts, and the first open place.
use Rattle.std.proofs.Common.{◌≡◌, ◌≢◌, ℕ, zero, suc, ◌+◌, ◌<◌, ◌≤◌, Bool, true, false, cond, List, [], ◌∷◌, length, Some, None, slice_set, get_or, min, refl, sym, ap, ◌∙◌, arith}
use Rattle.std.specs.Prelude.{position, count_by, nat_lt}
use Rattle.std.specs.List.{position_or_len}
use Rattle.std.proofs.lemmas.List.{length-set, get_or-set_other, get_or-set_same, replicate_more, map-append, map-set}
use Rattle.std.proofs.lemmas.List.Elements.{All-nil, All-cons, All-head, All-tail}
use Rattle.std.proofs.lemmas.List.Quantifiers.{position-Some}
use Rattle.std.proofs.lemmas.List.Sums.{sum_by-set, sum_by-cons, position_or_len_is}
use Rattle.std.proofs.lemmas.Bool.{lt-ltb, le-ltb}
use Rattle.coordinator_core.specs.Coordinator.{AreClosed, IsClosed, is_open}
use Rattle.coordinator_core.specs.Splits.{doubled}
use Rattle.coordinator_core.specs.inner.LeafTable.{IsLeafTable, is_unclosed}
use Rattle.coordinator_core.specs.declared.job_state.LeafState.{LeafState}
use Rattle.coordinator_core.specs.declared.job_state.LeafState.TheVariants.{Open, GivenTo, Closed}
use Rattle.coordinator_core.proofs.SplitLemmas.{doubled_before, doubled_length}

-- lists that grow, and whose entries are written
pub ruleset rows = (replicate_more, map-append, map-set)

count_cons : (l : LeafState) (states : List LeafState) → count_by is_unclosed (l ∷ states) ≡ cond (is_unclosed l) 1 0 + count_by is_unclosed states
count_cons l states = sum_by-cons (λ x. cond (is_unclosed x) 1 0) l states

pub none_unclosed : (states : List LeafState) → count_by is_unclosed states ≡ 0 → AreClosed states
none_unclosed [] h = All-nil IsClosed
none_unclosed (Open ∷ states) h = absurd (omega (arith, h, count_cons Open states))
none_unclosed (GivenTo worker ∷ states) h = absurd (omega (arith, h, count_cons (GivenTo worker) states))
none_unclosed (Closed ∷ states) h = All-cons IsClosed Closed states refl (none_unclosed states (omega (arith, h, count_cons Closed states)))

pub closed_count : (states : List LeafState) → AreClosed states → count_by is_unclosed states ≡ 0
closed_count [] all = refl
closed_count (Open ∷ states) all = let e : Open ≡ Closed = All-head IsClosed Open states all in cc
closed_count (GivenTo worker ∷ states) all = let e : GivenTo worker ≡ Closed = All-head IsClosed (GivenTo worker) states all in cc
closed_count (Closed ∷ states) all = let h : count_by is_unclosed states ≡ 0 = closed_count states (All-tail IsClosed Closed states all) in omega (arith, h, count_cons Closed states)

pub open_leaf : (l : LeafState) → is_open l ≡ true → l ≡ Open
open_leaf Open e = refl
open_leaf (GivenTo worker) e = cc
open_leaf Closed e = cc

abbrev one_if : LeafState → ℕ
one_if l = cond (is_unclosed l) 1 0

-- the first open place is given
pub given_table : (states : List LeafState) (fragments : List (List ℕ)) (unclosed from leaf worker : ℕ) → IsLeafTable states fragments unclosed from → position is_open states ≡ Some leaf
    → IsLeafTable (slice_set states leaf (GivenTo worker)) fragments unclosed leaf
given_table states fragments unclosed from leaf worker t at =
    let p = position-Some is_open states leaf Closed at in
    let inside : leaf < length states = p.0 in
    let here : get_or states leaf Closed ≡ Open = open_leaf (get_or states leaf Closed) p.1 in
    let count = sum_by-set (λ x. cond (is_unclosed x) 1 0) states leaf (GivenTo worker) Closed inside in
    let one : one_if (get_or states leaf Closed) ≡ 1 = ap one_if here in
    record {
      same = t.same ∙ sym (length-set states leaf (GivenTo worker));
      counted = omega (arith, count, one, t.counted);
      none_open = λ i lt. ap is_open (get_or-set_other states leaf i (GivenTo worker) Closed (λ e. absurd (omega (arith, e, lt)))) ∙ p.2 i lt;
    }

one_unclosed : (l : LeafState) → l ≢ Closed → one_if l ≡ 1
one_unclosed Open n = refl
one_unclosed (GivenTo worker) n = refl
one_unclosed Closed n = absurd (n refl)

count_doubled : (states : List LeafState) (leaf : ℕ) → leaf < length states → get_or states leaf Closed ≢ Closed → count_by is_unclosed (doubled leaf Open states) ≡ count_by is_unclosed states + 1
count_doubled [] leaf lt n = absurd (omega (arith, lt))
count_doubled (l ∷ states) zero lt n = omega (arith, count_cons Open (Open ∷ states), count_cons Open states, count_cons l states, one_unclosed l n)
count_doubled (l ∷ states) (suc leaf) lt n =
    let h = count_doubled states leaf (omega (arith, lt)) n in omega (arith, h, count_cons l (doubled leaf Open states), count_cons l states)

-- both branches of a leaf that is not closed are open
pub split_table : (states : List LeafState) (fragments : List (List ℕ)) (unclosed from leaf : ℕ) → IsLeafTable states fragments unclosed from → leaf < length states → get_or states leaf Closed ≢ Closed
    → IsLeafTable (doubled leaf Open states) (doubled leaf [] fragments) (unclosed + 1) (min from leaf)
split_table states fragments unclosed from leaf t inside some = record {
  same = doubled_length fragments leaf [] (omega (arith, inside, t.same)) ∙ ap suc t.same ∙ sym (doubled_length states leaf Open inside);
  counted = omega (arith, t.counted, count_doubled states leaf inside some);
  none_open = λ i lt. ap is_open (doubled_before states leaf i Open Closed (omega (arith, lt))) ∙ t.none_open i (omega (arith, lt));
}

pub split_now : (states now : List LeafState) (fragments texts : List (List ℕ)) (unclosed from least leaf : ℕ) → IsLeafTable states fragments unclosed from → leaf < length states → get_or states leaf Closed ≢ Closed
    → now ≡ doubled leaf Open states → texts ≡ doubled leaf [] fragments → least ≡ min from leaf → IsLeafTable now texts (unclosed + 1) least
split_now states now fragments texts unclosed from least leaf t inside some opened emptied first =
    rw (opened, emptied, first) (split_table states fragments unclosed from leaf t inside some)

-- no place is open
pub none_is : (states : List LeafState) (i : ℕ) → length states ≤ i → ((k : ℕ) → k < i → is_open (get_or states k Closed) ≡ false) → position is_open states ≡ None
none_is states i past before =
    let e : position_or_len is_open states ≡ length states = position_or_len_is is_open states (length states) Closed (omega arith) (λ k lt. before k (omega (arith, lt, past))) (λ lt. absurd (omega (arith, lt))) in
    ap (λ (n : ℕ). cond (nat_lt n (length states)) (Some n) None) e ∙ ap (λ (b : Bool). cond b (Some (length states)) None) (le-ltb (length states) (length states) (omega arith))

-- an open place, and no open place before it
pub first_is : (states : List LeafState) (i : ℕ) → i < length states → get_or states i Closed ≡ Open → ((k : ℕ) → k < i → is_open (get_or states k Closed) ≡ false) → position is_open states ≡ Some i
first_is states i lt here before =
    let e : position_or_len is_open states ≡ i = position_or_len_is is_open states i Closed (omega (arith, lt)) before (λ _. ap is_open here) in
    ap (λ (n : ℕ). cond (nat_lt n (length states)) (Some n) None) e ∙ ap (λ (b : Bool). cond b (Some i) None) (lt-ltb i (length states) lt)

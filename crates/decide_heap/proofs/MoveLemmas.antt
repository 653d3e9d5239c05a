-- Moves in the heap, one after another, and the hole that a sifted variable leaves.
use Rattle.std.proofs.Common.{◌≡◌, ◌≢◌, ℕ, ◌<◌, ◌≤◌, List, length, get_or, set, refl, sym, ap, ◌∙◌, arith}
use Rattle.std.proofs.lemmas.List.{get_or-set_other, length-set, set-get_or, get_or_read}
use Rattle.decide_heap.specs.inner.Heap.{Tables, filled, AreRows, AreMoved}
use Rattle.decide_heap.proofs.PairLemmas.{paired_writes, hole_moves}

pub unmoved : (t : Tables) → AreMoved t t
unmoved t = record { long = refl; rest = refl }

pub moved_on : (t u v : Tables) → AreMoved t u → AreMoved u v → AreMoved t v
moved_on t u v a b = record { long = b.long ∙ a.long; rest = b.rest ∙ ap (λ (x : Tables). record x { heap = v.heap; places = v.places }) a.rest }

-- with as long a heap written over
pub moved_over : (t u : Tables) (heap places : List ℕ) → AreMoved t u → length heap ≡ length u.heap → AreMoved t (record u { heap = heap; places = places })
moved_over t u heap places a e = record { long = e ∙ a.long; rest = ap (λ (x : Tables). record x { heap = heap; places = places }) a.rest }

pub same_scores : (t u : Tables) → AreMoved t u → u.scores ≡ t.scores
same_scores t u a = ap (λ (x : Tables). x.scores) a.rest

pub same_len : (t u : Tables) → AreMoved t u → u.len ≡ t.len
same_len t u a = ap (λ (x : Tables). x.len) a.rest

-- what stands at a place, put down there again
pub filled_same : (t : Tables) (at var : ℕ) → AreRows t → at < length t.heap → var ≡ get_or t.heap at var → filled t at var ≡ t
filled_same t at var r lt read =
    let is : var ≡ get_or t.heap at 0 = get_or_read t.heap at var lt read 0 in
    let heap : set t.heap at var ≡ t.heap = ap (λ v. set t.heap at v) is ∙ set-get_or t.heap at 0 in
    let place : get_or t.places var 0 ≡ at = ap (λ v. get_or t.places v 0) is ∙ r.paired.place at lt in
    let places : set t.places var at ≡ t.places = ap (λ k. set t.places var k) (sym place) ∙ set-get_or t.places var 0 in
    ap (λ (xs : List ℕ). record t { heap = xs; places = set t.places var at }) heap ∙ ap (λ (xs : List ℕ). record t { places = xs }) places

-- a hole from which moves went up stands in the heap
pub hole_in : (t u : Tables) (at var start : ℕ) → AreMoved t u → AreRows (filled u at var) → at ≤ start → start < t.len → at < length u.heap
hole_in t u at var start a r le lt = omega (arith, same_len t u a, r.size, r.count, length-set u.heap at var)

-- what stands beside the hole has a row in each table
pub beside_hole : (t : Tables) (at j a b : ℕ) → AreRows (filled t at a) → j < length t.heap → j ≢ at → b ≡ get_or t.heap j b → (b < length t.scores) × (b < length t.places)
beside_hole t at j a b r lt n read =
    let is : b ≡ get_or t.heap j 0 = get_or_read t.heap j b lt read 0 in
    let size = length-set t.heap at a in
    let low = r.paired.variable j (omega (arith, size)) in
    let same = get_or-set_other t.heap at j a 0 n in
    let below : b < length t.heap = omega (arith, size, low, same, is) in
    (omega (arith, below, size, r.size), omega (arith, below, size, r.paired.long, length-set t.places a at))

-- the hole moves from i to j, whose variable goes to i
pub hole_rows : (t : Tables) (i j a b : ℕ) → AreRows (filled t i a) → i < length t.heap → j < length t.heap → i ≢ j → b ≡ get_or t.heap j 0
    → AreRows (filled (record t { heap = set t.heap i b; places = set t.places b i }) j a)
hole_rows t i j a b r li lj n is = record {
  limit = r.limit;
  size = length-set (set t.heap i b) j a ∙ length-set t.heap i b ∙ sym (length-set t.heap i a) ∙ r.size;
  count = r.count;
  paired = (hole_moves t.heap t.places i j a b r.paired li lj n is).0;
}

-- two places change their variables
pub rows_exchanged : (t : Tables) (i j a b : ℕ) → AreRows t → i < length t.heap → j < length t.heap → a ≡ get_or t.heap i 0 → b ≡ get_or t.heap j 0
    → AreRows (record t { heap = set (set t.heap i b) j a; places = set (set t.places b i) a j })
rows_exchanged t i j a b r li lj ea eb = record {
  limit = r.limit;
  size = length-set (set t.heap i b) j a ∙ length-set t.heap i b ∙ r.size;
  count = r.count;
  paired = paired_writes t.heap t.places i j a b r.paired li lj ea eb;
}

-- From the tables to the value of a decision heap.
use Rattle.std.proofs.Common.{◌≡◌, ℕ, ◌+◌, ◌-◌, ◌<◌, ◌≤◌, Bool, true, false, List, length, get_or, set, sym, ap, ◌∙◌, arith, ⊎_elim}
use Rattle.std.proofs.lemmas.Bool.{cases_lt, lt-ltb, ltb-true, false_from_ne_true}
use Rattle.std.proofs.lemmas.List.{set-get_or, get_or-set_same, get_or_past}
use Rattle.decide_heap.specs.Decisions.{Decisions, IsNoWorse, IsBest}
use Rattle.decide_heap.specs.Heap.{members_of}
use Rattle.decide_heap.specs.inner.Heap.{Tables, decisions_of, IsHeap}
use Rattle.decide_heap.proofs.OrderLemmas.{first_is_best}
use Rattle.decide_heap.proofs.MemberLemmas.{member_at, length_members}

abbrev decisions : ℕ → List ℕ → List Bool → Decisions
decisions vars scores members = record { vars = vars; scores = scores; members = members }

-- equal in each part
pub same_decisions : (d e : Decisions) → d.vars ≡ e.vars → d.scores ≡ e.scores → d.members ≡ e.members → d ≡ e
same_decisions d e v s m =
    ap (λ n. decisions n d.scores d.members) v ∙ ap (λ xs. decisions e.vars xs d.members) s ∙ ap (λ bs. decisions e.vars e.scores bs) m

-- with other members alone
pub members_alone : (t u : Tables) (members : List Bool) → u.scores ≡ t.scores → members_of u.places u.len ≡ members → decisions_of u ≡ record (decisions_of t) { members = members }
members_alone t u members s m = same_decisions (decisions_of u) (record (decisions_of t) { members = members }) (ap length s) s m

-- with other scores alone
pub scores_alone : (t u : Tables) (scores : List ℕ) → length scores ≡ length t.scores → u.scores ≡ scores → members_of u.places u.len ≡ members_of t.places t.len
    → decisions_of u ≡ record (decisions_of t) { scores = scores }
scores_alone t u scores long s m = same_decisions (decisions_of u) (record (decisions_of t) { scores = scores }) (ap length s ∙ long) s m

-- a variable that is in stands at one of the first places
pub member_stands : (places : List ℕ) (len v : ℕ) → get_or (members_of places len) v false ≡ true → (v < length places) × (get_or places v 0 < len)
member_stands places len v e = ⊎_elim
    (λ (lt : v < length places). (lt, ltb-true (get_or places v 0) len (sym (member_at places len v lt) ∙ e)))
    (λ (le : length places ≤ v).
    let none : get_or (members_of places len) v false ≡ false = get_or_past (members_of places len) v false (omega (arith, length_members places len)) in
    cc)
    (cases_lt v (length places))

-- what stands at one of the first places is in
pub stands_in : (places : List ℕ) (len v : ℕ) → v < length places → get_or places v 0 < len → get_or (members_of places len) v false ≡ true
stands_in places len v lt inside = member_at places len v lt ∙ lt-ltb (get_or places v 0) len inside

-- no variable is in
pub none_in : (places : List ℕ) (len v : ℕ) → len ≡ 0 → get_or (members_of places len) v false ≡ false
none_in places len v e = false_from_ne_true (get_or (members_of places len) v false) (λ t. let inside = (member_stands places len v t).1 in omega (arith, inside))

-- a member that is put in again
pub in_already : (members : List Bool) (v : ℕ) → get_or members v false ≡ true → set members v true ≡ members
in_already members v e = ap (λ b. set members v b) (sym e) ∙ set-get_or members v false

-- the variable at the first place
pub first_of_heap : (t : Tables) (v : ℕ) → IsHeap t → 0 < t.len → v ≡ get_or t.heap 0 0 + 1 → IsBest (decisions_of t) v
first_of_heap t v h some is =
    let r = h.rows in
    let p = r.paired in
    let room : 0 < length t.heap = omega (arith, r.size, r.count) in
    let small = p.variable 0 room in
    let row : v - 1 ≡ get_or t.heap 0 0 = omega arith in
    record {
      within = (omega arith, omega (arith, small, r.size));
      inside = rw row (stands_in t.places t.len (get_or t.heap 0 0) (omega (arith, p.long)) (omega (arith, p.place 0 room)));
      first = λ w above e. rest w above e;
    } where
      rest : (w : ℕ) → 0 < w → get_or (members_of t.places t.len) (w - 1) false ≡ true → IsNoWorse (λ u. get_or t.scores (u - 1) 0) v w
      rest w above e =
          let p = h.rows.paired in
          let s = member_stands t.places t.len (w - 1) e in
          let i = get_or t.places (w - 1) 0 in
          let at : get_or t.heap i 0 ≡ w - 1 = p.there (w - 1) (omega (arith, p.long, s.0)) in
          let row : v - 1 ≡ get_or t.heap 0 0 = omega arith in
          let best = first_is_best t.scores t.heap t.len h.ordered i s.1 in
          let b = best.greater in
          let x : get_or t.scores (get_or t.heap i 0) 0 ≡ get_or t.scores (w - 1) 0 = ap (λ k. get_or t.scores k 0) at in
          let y : get_or t.scores (get_or t.heap 0 0) 0 ≡ get_or t.scores (v - 1) 0 = ap (λ k. get_or t.scores k 0) (sym row) in
          record {
            greater = omega (arith, b, x, y);
            lower = λ tie. omega (arith, best.lower (omega (arith, x, y, tie)), at);
          }

-- what is put in is in
pub put_is_in : (members new : List Bool) (v : ℕ) → v < length members → new ≡ set members v true → get_or new v false ≡ true
put_is_in members new v lt e = ap (λ ms. get_or ms v false) e ∙ get_or-set_same members v true false lt

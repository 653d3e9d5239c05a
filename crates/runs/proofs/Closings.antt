-- Refusals and open connections, link by link.
use Rattle.std.proofs.Common.{◌≡◌, ◌≢◌, ◌≤◌, ◌<◌, ℕ, zero, suc, ◌+◌, ◌⊎◌, inl, inr, List, [], ◌∷◌, length, Bool, true, false, refl, ap, subst, sym, All, drop, set, get_or, arith}
use Rattle.std.proofs.lemmas.Bool.Decides.{eqb_tells}
use Rattle.std.proofs.lemmas.List.{drop-set-lt, drop_more}
use Rattle.std.proofs.lemmas.List.Elements.{All-head, All-tail}
use Rattle.std.proofs.lemmas.List.Sums.{sum_by-cons, sum_by-set}
use Rattle.runs.specs.Accounts.{OnceEach}
use Rattle.runs.specs.inner.Accounts.{Refuses, one_if_open}
use Rattle.runs.specs.inner.Connections.{Closing, open_at, open_count, open_in}
use Rattle.runs.specs.declared.connection.Connection.{Connection}

-- ---- open connections, counted

at_most_one : (b : Bool) → one_if_open b ≤ 1
at_most_one true = omega arith
at_most_one false = omega arith

-- a connection and those after it
pub split : {P : Type 0} (l : Connection P) (connections : List (Connection P)) → open_count (l ∷ connections) ≡ one_if_open l.is_open + open_count connections
split {P} l connections = sum_by-cons (λ (x : Connection P). one_if_open x.is_open) l connections

-- another connection at a place
pub replaced : {P : Type 0} (connections : List (Connection P)) (i : ℕ) (m d : Connection P) → i < length connections
    → open_count (set connections i m) + one_if_open (get_or connections i d).is_open ≡ open_count connections + one_if_open m.is_open
replaced {P} connections i m d inside = sum_by-set (λ (x : Connection P). one_if_open x.is_open) connections i m d inside

-- at most as many are open as there are
pub open_at_most : {P : Type 0} (connections : List (Connection P)) → open_count connections ≤ length connections
open_at_most [] = omega arith
open_at_most (l ∷ connections) =
    let whole = split l connections in
    let long : length (l ∷ connections) ≡ suc (length connections) = refl in
    let rest : open_count connections ≤ length connections = open_at_most connections in
    let one : one_if_open l.is_open ≤ 1 = at_most_one l.is_open in
    omega (arith, whole, long, rest, one)

-- ---- connections in a row

here_at_most : {P : Type 0} (connections : List (Connection P)) (place : ℕ) → open_in connections place ≤ 1
here_at_most [] place = omega arith
here_at_most (l ∷ connections) zero = at_most_one l.is_open
here_at_most (l ∷ connections) (suc place) = here_at_most connections place

set_here : {P : Type 0} (connections : List (Connection P)) (i : ℕ) (m : Connection P) → i < length connections → open_in (set connections i m) i ≡ one_if_open m.is_open
set_here [] i m inside = absurd (omega (arith, inside))
set_here (l ∷ connections) zero m inside = refl
set_here (l ∷ connections) (suc i) m inside = set_here connections i m (omega (arith, inside))

set_there : {P : Type 0} (connections : List (Connection P)) (i place : ℕ) (m : Connection P) → place ≢ i → open_in (set connections i m) place ≡ open_in connections place
set_there [] i place m other = refl
set_there (l ∷ connections) zero zero m other = absurd (other refl)
set_there (l ∷ connections) zero (suc place) m other = refl
set_there (l ∷ connections) (suc i) zero m other = refl
set_there (l ∷ connections) (suc i) (suc place) m other = set_there connections i place m (λ e. other (ap suc e))

got_here : {P : Type 0} (connections : List (Connection P)) (i : ℕ) (d : Connection P) → i < length connections → open_in connections i ≡ one_if_open (get_or connections i d).is_open
got_here [] i d inside = absurd (omega (arith, inside))
got_here (l ∷ connections) zero d inside = refl
got_here (l ∷ connections) (suc i) d inside = got_here connections i d (omega (arith, inside))

-- what holds of the connections from a place on holds of the first, and of those after it
pub first_of : {A : Type 0} (Q : A → Type 0) (xs : List A) (i : ℕ) (d : A) → i < length xs → All Q (drop i xs) → Q (get_or xs i d)
first_of Q xs i d inside all = All-head Q (get_or xs i d) (drop (i + 1) xs) (subst (λ ys. All Q ys) (drop_more xs i d inside) all)

pub behind : {A : Type 0} (Q : A → Type 0) (xs : List A) (i : ℕ) (y d : A) → i < length xs → All Q (drop i xs) → All Q (drop (i + 1) (set xs i y))
behind Q xs i y d inside all =
    subst (λ ys. All Q ys) (sym (drop-set-lt (i + 1) xs i y (omega arith)))
    (All-tail Q (get_or xs i d) (drop (i + 1) xs) (subst (λ ys. All Q ys) (drop_more xs i d inside) all))

-- ---- a turn

each_turned : {P : Type 0} (old mid new : ℕ → ℕ) (before connections : List (Connection P)) (i worker : ℕ) (m d : Connection P) → worker ≡ i + 1 → i < length connections
    → new worker + one_if_open m.is_open ≤ mid worker + one_if_open (get_or connections i d).is_open
    → ((other : ℕ) → other ≢ worker → new other ≤ mid other)
    → ((w : ℕ) → mid w + open_at connections w ≤ old w + open_at before w)
    → (w : ℕ) → new w + open_at (set connections i m) w ≤ old w + open_at before w
each_turned old mid new before connections i worker m d number inside turn elsewhere each zero =
    let still = elsewhere 0 (λ e. omega (arith, e, number)) in
    let so_far = each 0 in
    omega (arith, still, so_far)
each_turned old mid new before connections i worker m d number inside turn elsewhere each (suc place) = elim (eqb_tells place i) [
  | inl same ↦
      let here = subst (λ v. new v + one_if_open m.is_open ≤ mid v + one_if_open (get_or connections i d).is_open) (the_number same.1) turn in
      let after = subst (λ p. open_in (set connections i m) p ≡ one_if_open m.is_open) (sym same.1) (set_here connections i m inside) in
      let was = subst (λ p. open_in connections p ≡ one_if_open (get_or connections i d).is_open) (sym same.1) (got_here connections i d inside) in
      let so_far = each (suc place) in
      omega (arith, here, after, was, so_far)
  | inr differs ↦
      let still = elsewhere (suc place) (λ e. differs.1 (omega (arith, e, number))) in
      let same = set_there connections i place m differs.1 in
      let so_far = each (suc place) in
      omega (arith, still, same, so_far)
]
  where
    the_number : place ≡ i → worker ≡ suc place
    the_number e = omega (arith, e, number)

-- the turn of one connection in a row
pub turned : {L P : Type 0} (refusals : L → ℕ) (refused : L → ℕ → ℕ) (old mid new : L) (before connections : List (Connection P)) (i worker : ℕ) (m d : Connection P)
    → worker ≡ i + 1 → i < length connections
    → Refuses refusals refused worker (one_if_open (get_or connections i d).is_open) (one_if_open m.is_open) mid new
    → Closing refusals refused old mid before connections → Closing refusals refused old new before (set connections i m)
turned refusals refused old mid new before connections i worker m d number inside turn closing = record {
  all =
      let sums = replaced connections i m d inside in
      let here = turn.all in
      let so_far = closing.all in
      omega (arith, sums, here, so_far);
  each = each_turned (refused old) (refused mid) (refused new) before connections i worker m d number inside turn.here turn.elsewhere closing.each;
}

pub goes_on : {L P : Type 0} (refusals : L → ℕ) (refused : L → ℕ → ℕ) (old mid new : L) (before between after : List (Connection P))
    → Closing refusals refused old mid before between → Closing refusals refused mid new between after → Closing refusals refused old new before after
goes_on refusals refused old mid new before between after first second = record {
  all =
      let one = first.all in
      let two = second.all in
      omega (arith, one, two);
  each = λ worker.
      let one = first.each worker in
      let two = second.each worker in
      omega (arith, one, two);
}

-- ---- the end

-- at most as many calls were refused as there are connections
pub counted : {L P : Type 0} (refusals : L → ℕ) (refused : L → ℕ → ℕ) (old new : L) (before after : List (Connection P))
    → Closing refusals refused old new before after → refusals new ≤ refusals old + length before
counted refusals refused old new before after closing =
    let most = open_at_most before in
    let all = closing.all in
    omega (arith, most, all)

-- and at most one for each link
pub once : {L P : Type 0} (refusals : L → ℕ) (refused : L → ℕ → ℕ) (old new : L) (before after : List (Connection P))
    → Closing refusals refused old new before after → OnceEach (refused old) (refused new)
once refusals refused old new before after closing zero = let so = closing.each 0 in omega (arith, so)
once refusals refused old new before after closing (suc place) =
    let so = closing.each (suc place) in
    let most = here_at_most before place in
    omega (arith, so, most)

-- Refusals and open connections, place by place.
use Rattle.std.proofs.Common.{◌≡◌, ◌≢◌, ◌≤◌, ◌<◌, ℕ, zero, suc, ◌+◌, List, [], ◌∷◌, ◌++◌, Option, Some, None, length, refl, inl, inr, ap, subst, sym, set, get_or, arith}
use Rattle.std.proofs.lemmas.Bool.Decides.{eqb_tells, nat_tests}
use Rattle.links.specs.Arrivals.{begun_at}
use Rattle.links.specs.declared.arrivals.Event.TheVariants.{Linked}
use Rattle.event_loop.specs.Accounts.{one_if_open, open_at}
use Rattle.event_loop.specs.inner.Connections.{AreFresh, IsFresh}
use Rattle.event_loop.specs.declared.connection.Connection.{Connection}

set_here : (slots : List (Option Connection)) (i : ℕ) (connection : Option Connection) → i < length slots → open_at (set slots i connection) i ≡ one_if_open connection
set_here [] i connection at = absurd (omega (arith, at))
set_here (x ∷ slots) zero connection at = refl
set_here (x ∷ slots) (suc i) connection at = set_here slots i connection (omega (arith, at))

set_there : (slots : List (Option Connection)) (i place : ℕ) (connection : Option Connection) → place ≢ i → open_at (set slots i connection) place ≡ open_at slots place
set_there [] i place connection other = refl
set_there (x ∷ slots) zero zero connection other = absurd (other refl)
set_there (x ∷ slots) zero (suc place) connection other = refl
set_there (x ∷ slots) (suc i) zero connection other = refl
set_there (x ∷ slots) (suc i) (suc place) connection other = set_there slots i place connection (λ e. other (ap suc e))

got_here : (slots : List (Option Connection)) (i : ℕ) (d : Option Connection) → i < length slots → open_at slots i ≡ one_if_open (get_or slots i d)
got_here [] i d at = absurd (omega (arith, at))
got_here (x ∷ slots) zero d at = refl
got_here (x ∷ slots) (suc i) d at = got_here slots i d (omega (arith, at))

-- a turn of the connection at one place
pub turned : (old mid new : ℕ → ℕ) (before slots : List (Option Connection)) (i : ℕ) (connection d : Option Connection) → i < length slots
    → new i + one_if_open connection ≤ mid i + one_if_open (get_or slots i d) → ((p : ℕ) → p ≢ i → new p ≤ mid p)
    → ((p : ℕ) → mid p + open_at slots p ≤ old p + open_at before p)
    → (p : ℕ) → new p + open_at (set slots i connection) p ≤ old p + open_at before p
turned old mid new before slots i connection d at here elsewhere so_far p = elim (eqb_tells p i) [
  | inl same ↦
      let turn = subst (λ q. new q + one_if_open connection ≤ mid q + one_if_open (get_or slots i d)) (sym same.1) here in
      let after = subst (λ q. open_at (set slots i connection) q ≡ one_if_open connection) (sym same.1) (set_here slots i connection at) in
      let was = subst (λ q. open_at slots q ≡ one_if_open (get_or slots i d)) (sym same.1) (got_here slots i d at) in
      let far = so_far p in
      omega (arith, turn, after, was, far)
  | inr differs ↦
      let still = elsewhere p differs.1 in
      let same = set_there slots i p connection differs.1 in
      let far = so_far p in
      omega (arith, still, same, far)
]

-- the first turn
pub turned_once : (mid new : ℕ → ℕ) (slots : List (Option Connection)) (i : ℕ) (connection d : Option Connection) → i < length slots
    → new i + one_if_open connection ≤ mid i + one_if_open (get_or slots i d) → ((p : ℕ) → p ≢ i → new p ≤ mid p)
    → (p : ℕ) → new p + open_at (set slots i connection) p ≤ mid p + open_at slots p
turned_once mid new slots i connection d at here elsewhere = turned mid mid new slots slots i connection d at here elsewhere (λ p. omega arith)

pub fresh_at : (slots : List (Option Connection)) (i : ℕ) (d : Option Connection) → i < length slots → AreFresh slots → IsFresh (get_or slots i d)
fresh_at [] i d at fresh = absurd (omega (arith, at))
fresh_at (x ∷ slots) zero d at fresh = fresh.0
fresh_at (x ∷ slots) (suc i) d at fresh = fresh_at slots i d (omega (arith, at)) fresh.1

pub set_fresh : (slots : List (Option Connection)) (i : ℕ) (connection : Option Connection) → IsFresh connection → AreFresh slots → AreFresh (set slots i connection)
set_fresh [] i connection new fresh = tt
set_fresh (x ∷ slots) zero connection new fresh = (new, fresh.1)
set_fresh (x ∷ slots) (suc i) connection new fresh = (fresh.0, set_fresh slots i connection new fresh.1)

-- another connection at a place, which is open if the old one was
pub same_at : (slots : List (Option Connection)) (i : ℕ) (connection d : Option Connection) (p : ℕ) → i < length slots → one_if_open connection ≡ one_if_open (get_or slots i d)
    → open_at (set slots i connection) p ≡ open_at slots p
same_at slots i connection d p at same = elim (eqb_tells p i) [
  | inl here ↦
      let after = subst (λ q. open_at (set slots i connection) q ≡ one_if_open connection) (sym here.1) (set_here slots i connection at) in
      let was = subst (λ q. open_at slots q ≡ one_if_open (get_or slots i d)) (sym here.1) (got_here slots i d at) in
      omega (arith, after, was, same)
  | inr differs ↦ set_there slots i p connection differs.1
]

-- a connection that begins
pub opened : (slots : List (Option Connection)) (i : ℕ) (connection : Connection) (p : ℕ) → i < length slots
    → open_at (set slots i (Some connection)) p ≤ open_at slots p + begun_at (Linked i) p
opened slots i connection p at = elim (eqb_tells p i) [
  | inl here ↦
      let after = subst (λ q. open_at (set slots i (Some connection)) q ≡ 1) (sym here.1) (set_here slots i (Some connection) at) in
      let e = here.1 in
      grind (arith, nat_tests, after, e)
  | inr differs ↦
      let same = set_there slots i p (Some connection) differs.1 in
      omega (arith, same)
]

-- one more place, without a connection
pub pushed : (slots : List (Option Connection)) (p : ℕ) → open_at (slots ++ None ∷ []) p ≡ open_at slots p
pushed [] zero = refl
pushed [] (suc p) = refl
pushed (x ∷ slots) zero = refl
pushed (x ∷ slots) (suc p) = pushed slots p

pub pushed_fresh : (slots : List (Option Connection)) → AreFresh slots → AreFresh (slots ++ None ∷ [])
pushed_fresh [] fresh = (tt, tt)
pushed_fresh (x ∷ slots) fresh = (fresh.0, pushed_fresh slots fresh.1)

-- slots that were lent as `lent`, and came back as `left`
pub each_lent : (old new : ℕ → ℕ) (before lent left after : List (Option Connection)) → lent ≡ before → after ≡ left
    → ((p : ℕ) → new p + open_at left p ≤ old p + open_at lent p) → (p : ℕ) → new p + open_at after p ≤ old p + open_at before p
each_lent old new before lent left after began came each p =
    subst (λ (slots : List (Option Connection)). new p + open_at slots p ≤ old p + open_at before p) (sym came)
    (subst (λ (slots : List (Option Connection)). new p + open_at left p ≤ old p + open_at slots p) began (each p))

-- one turn after another
pub each_then : (old mid new : ℕ → ℕ) (before between after : List (Option Connection)) → ((p : ℕ) → mid p + open_at between p ≤ old p + open_at before p)
    → ((p : ℕ) → new p + open_at after p ≤ mid p + open_at between p) → (p : ℕ) → new p + open_at after p ≤ old p + open_at before p
each_then old mid new before between after first second p =
    let x = first p in
    let y = second p in
    omega (arith, x, y)

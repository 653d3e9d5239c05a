-- What reads and writes do to the bytes that are known of connections.
use Rattle.std.proofs.Common.{◌≡◌, ◌≢◌, ◌<◌, ℕ, zero, suc, List, [], ◌∷◌, ◌++◌, length, get_or, set, take, Option, Some, None, inl, inr, refl, sym, subst, ◌∙◌, arith, get_or-set_same, get_or-set_other}
use Rattle.std.proofs.lemmas.Bool.Decides.{eqb_tells}
use Rattle.std.specs.Io.KnownBytes.{Consumes, Keeps}
use Rattle.connections.specs.declared.connection.Connection.{Connection}
use Rattle.connections.specs.inner.Known.{Reads, ReadsOne, known_at, known_in}

pub keeps_same : (x : Option (List ℕ)) → Keeps x x
keeps_same None = tt
keeps_same (Some xs) = refl

pub keeps_then : (x y z : Option (List ℕ)) → Keeps x y → Keeps y z → Keeps x z
keeps_then None y z first second = tt
keeps_then (Some xs) None z first second = absurd first
keeps_then (Some xs) (Some ys) None first second = absurd second
keeps_then (Some xs) (Some ys) (Some zs) first second = second ∙ first

pub keeps_consumes : (x y z : Option (List ℕ)) (bs : List ℕ) → Keeps x y → Consumes y z bs → Consumes x z bs
keeps_consumes None y z bs first second = tt
keeps_consumes (Some xs) None z bs first second = absurd first
keeps_consumes (Some xs) (Some ys) None bs first second = absurd second
keeps_consumes (Some xs) (Some ys) (Some zs) bs first second = sym first ∙ second

pub consumes_none : (x y : Option (List ℕ)) → Keeps x y → Consumes x y []
consumes_none None y keeps = tt
consumes_none (Some xs) None keeps = absurd keeps
consumes_none (Some xs) (Some ys) keeps = sym keeps

-- what is known of a connection after one slot has changed
pub known_here : {S : Type 0} (known : S → Option (List ℕ)) (slots : List (Option (Connection S))) (i : ℕ) (connection : Option (Connection S)) → i < length slots
    → known_at known (set slots i connection) i ≡ known_in known connection
known_here known [] i connection at = absurd (omega (arith, at))
known_here known (x ∷ slots) zero connection at = refl
known_here known (x ∷ slots) (suc i) connection at = known_here known slots i connection (omega (arith, at))

pub known_there : {S : Type 0} (known : S → Option (List ℕ)) (slots : List (Option (Connection S))) (i place : ℕ) (connection : Option (Connection S)) → place ≢ i
    → known_at known (set slots i connection) place ≡ known_at known slots place
known_there known [] i place connection other = refl
known_there known (x ∷ slots) zero zero connection other = absurd (other refl)
known_there known (x ∷ slots) zero (suc place) connection other = refl
known_there known (x ∷ slots) (suc i) zero connection other = refl
known_there known (x ∷ slots) (suc i) (suc place) connection other = known_there known slots i place connection (λ e. let f : suc place ≡ suc i = cc in other f)

pub known_found : {S : Type 0} (known : S → Option (List ℕ)) (slots : List (Option (Connection S))) (i : ℕ) (d : Option (Connection S)) → i < length slots
    → known_in known (get_or slots i d) ≡ known_at known slots i
known_found known [] i d at = absurd (omega (arith, at))
known_found known (x ∷ slots) zero d at = refl
known_found known (x ∷ slots) (suc i) d at = known_found known slots i d (omega (arith, at))

-- nothing was read at a place
pub reads_none : {S : Type 0} (known : S → Option (List ℕ)) (first slots : List (Option (Connection S))) (i : ℕ) (connection d : Option (Connection S)) → i < length slots
    → ((place : ℕ) → Keeps (known_at known first place) (known_at known slots place)) → Keeps (known_in known (get_or slots i d)) (known_in known connection)
    → (place : ℕ) → Keeps (known_at known first place) (known_at known (set slots i connection) place)
reads_none known first slots i connection d at so_far keeps place = elim (eqb_tells place i) [
  | inl here ↦
      let was = subst (λ (x : Option (List ℕ)). Keeps x (known_in known connection)) (known_found known slots i d at) keeps in
      let is = subst (λ (x : Option (List ℕ)). Keeps (known_at known slots i) x) (sym (known_here known slots i connection at)) was in
      subst (λ (p : ℕ). Keeps (known_at known first p) (known_at known (set slots i connection) p)) (sym here.1)
      (keeps_then (known_at known first i) (known_at known slots i) (known_at known (set slots i connection) i) (so_far i) is)
  | inr differs ↦
      subst (λ (x : Option (List ℕ)). Keeps (known_at known first place) x) (sym (known_there known slots i place connection differs.1)) (so_far place)
]

-- bytes were read at a place, or an end
pub reads_there : {S : Type 0} (known : S → Option (List ℕ)) (first slots : List (Option (Connection S))) (i count : ℕ) (connection d : Option (Connection S)) (room : List ℕ) → i < length slots
    → ((place : ℕ) → Keeps (known_at known first place) (known_at known slots place)) → Consumes (known_in known (get_or slots i d)) (known_in known connection) (take count room)
    → Consumes (known_at known first i) (known_at known (set slots i connection) i) (take count room)
    × ((place : ℕ) → place ≢ i → Keeps (known_at known first place) (known_at known (set slots i connection) place))
reads_there known first slots i count connection d room at so_far takes =
    let was = subst (λ (x : Option (List ℕ)). Consumes x (known_in known connection) (take count room)) (known_found known slots i d at) takes in
    let is = subst (λ (x : Option (List ℕ)). Consumes (known_at known slots i) x (take count room)) (sym (known_here known slots i connection at)) was in (
      keeps_consumes (known_at known first i) (known_at known slots i) (known_at known (set slots i connection) i) (take count room) (so_far i) is,
      λ place other. subst (λ (x : Option (List ℕ)). Keeps (known_at known first place) x) (sym (known_there known slots i place connection other)) (so_far place),
    )

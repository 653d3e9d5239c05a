-- What holds of the bytes that were fed so far, and is extended piece by piece.
use Rattle.std.specs.Prelude.{◌≡◌, ◌++◌, ℕ, List, [], Option, Some, None}
use Rattle.std.proofs.Common.{sym, ◌∙◌, ap, subst, append_assoc, append-nil}

-- from the state `old` to `new` some bytes were taken; they are those that the source had left, up to those that it has left, if these are
-- known
abbrev pub HasFed : {T : Type 0} → (T → T → List ℕ → Type 0) → Option (List ℕ) → Option (List ℕ) → T → T → Type 0
HasFed took None left old new = (fed : List ℕ) × took old new fed
HasFed took (Some all) None old new = ⊥
HasFed took (Some all) (Some left) old new = (fed : List ℕ) × (all ≡ fed ++ left) × took old new fed

-- if P holds of some bytes and the state `old`, it holds of them, followed by `more`, and the state `new`
abbrev pub Extends : {T : Type 0} → (List ℕ → T → Type 0) → T → T → List ℕ → Type 0
Extends P old new more = (bytes : List ℕ) → P bytes old → P (bytes ++ more) new

-- `new` are the bytes `old` followed by `more`
abbrev pub Grows : List ℕ → List ℕ → List ℕ → Type 0
Grows old new more = new ≡ old ++ more

-- no bytes extend what holds of a state
pub extends_nothing : {T : Type 0} (P : List ℕ → T → Type 0) (s : T) → Extends P s s []
extends_nothing P s bytes h =
    let Q : List ℕ → Type 0 = λ all. P all s in
    subst Q (sym (append-nil bytes)) h

-- what is extended by some bytes, and then by others, is extended by their concatenation
pub extends_more : {T : Type 0} (P : List ℕ → T → Type 0) (a b c : T) (xs ys : List ℕ)
    → Extends P a b xs → Extends P b c ys → Extends P a c (xs ++ ys)
extends_more P a b c xs ys h k bytes start =
    let Q : List ℕ → Type 0 = λ all. P all c in
    subst Q (append_assoc bytes xs ys) (k (bytes ++ xs) (h bytes start))

-- bytes followed by none are the same bytes
pub grows_nothing : (xs : List ℕ) → Grows xs xs []
grows_nothing xs = sym (append-nil xs)

-- bytes followed by some, and then by others, are followed by their concatenation
pub grows_more : (a b c xs ys : List ℕ) → Grows a b xs → Grows b c ys → Grows a c (xs ++ ys)
grows_more a b c xs ys h k = k ∙ ap (λ l. l ++ ys) h ∙ append_assoc a xs ys

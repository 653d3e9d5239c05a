-- What takes bytes and hands others out, piece by piece: what holds of all of them so far.
use Rattle.std.specs.Prelude.{◌≡◌, ◌++◌, ℕ, List, []}
use Rattle.std.proofs.Common.{sym, subst, append_assoc, append-nil}

-- if P holds of the bytes taken and handed out by the state `old`, it holds of them, followed by `bytes` and by `out`, by the state `new`
abbrev pub Moves : {T : Type 0} → (List ℕ → List ℕ → T → Type 0) → T → T → List ℕ → List ℕ → Type 0
Moves P old new bytes out = (before written : List ℕ) → P before written old → P (before ++ bytes) (written ++ out) new

-- a step that takes the bytes `xs` and hands out none is a move by `xs` and no bytes
pub moves_taken : {T : Type 0} (P : List ℕ → List ℕ → T → Type 0) (a b : T) (xs : List ℕ)
    → ((before written : List ℕ) → P before written a → P (before ++ xs) written b) → Moves P a b xs []
moves_taken P a b xs h before written start =
    let Q : List ℕ → Type 0 = λ us. P (before ++ xs) us b in
    subst Q (sym (append-nil written)) (h before written start)

-- a step that takes no bytes and hands out the bytes `us` is a move by no bytes and `us`
pub moves_out : {T : Type 0} (P : List ℕ → List ℕ → T → Type 0) (a b : T) (us : List ℕ)
    → ((before written : List ℕ) → P before written a → P before (written ++ us) b) → Moves P a b [] us
moves_out P a b us h before written start =
    let Q : List ℕ → Type 0 = λ xs. P xs (written ++ us) b in
    subst Q (sym (append-nil before)) (h before written start)

-- a state that stays moves by no bytes
pub moves_nothing : {T : Type 0} (P : List ℕ → List ℕ → T → Type 0) (s : T) → Moves P s s [] []
moves_nothing P s = moves_taken P s s [] (λ before written start.
    let Q : List ℕ → Type 0 = λ xs. P xs written s in
    subst Q (sym (append-nil before)) start)

-- two moves are one move, of the bytes of both
pub moves_more : {T : Type 0} (P : List ℕ → List ℕ → T → Type 0) (a b c : T) (xs ys us vs : List ℕ)
    → Moves P a b xs us → Moves P b c ys vs → Moves P a c (xs ++ ys) (us ++ vs)
moves_more P a b c xs ys us vs h k before written start =
    let Q : List ℕ → Type 0 = λ bytes. P bytes ((written ++ us) ++ vs) c in
    let R : List ℕ → Type 0 = λ out. P (before ++ (xs ++ ys)) out c in
    subst R (append_assoc written us vs) (subst Q (append_assoc before xs ys) (k (before ++ xs) (written ++ us) (h before written start)))

-- What is read, and what is fed of it, goes together step by step.
use Rattle.std.specs.Prelude.{◌≡◌, ◌++◌, ℕ, List, [], Option, Some, None, refl}
use Rattle.std.specs.Io.KnownBytes.{Keeps, Consumes, IsAtEnd}
use Rattle.std.proofs.Common.{sym, ◌∙◌, ap, subst, append_assoc, append-nil}
use Rattle.commands.specs.Feed.{IsFed}
use Rattle.commands.specs.inner.Feed.{HasFed}

pub keeps_same : (k : Option (List ℕ)) → Keeps k k
keeps_same None = tt
keeps_same (Some xs) = refl

pub fed_nothing : {T : Type 0} (took : T → T → List ℕ → Type 0) (k : Option (List ℕ)) (s : T) → took s s [] → HasFed took k k s s
fed_nothing took None s h = ([], h)
fed_nothing took (Some xs) s h = ([], refl, h)

pub fed_more : {T : Type 0} (took : T → T → List ℕ → Type 0)
    (more : (a b c : T) (xs ys : List ℕ) → took a b xs → took b c ys → took a c (xs ++ ys))
    (a b c : Option (List ℕ)) (r s t : T) (piece : List ℕ)
    → HasFed took a b r s → Consumes b c piece → took s t piece → HasFed took a c r t
fed_more took more None b c r s t piece h k m = (h.0 ++ piece, more r s t h.0 piece h.1 m)
fed_more took more (Some xs) None c r s t piece h k m = absurd h
fed_more took more (Some xs) (Some ys) None r s t piece h k m = absurd k
fed_more took more (Some xs) (Some ys) (Some zs) r s t piece h k m =
    (h.0 ++ piece, h.1 ∙ ap (λ l. h.0 ++ l) k ∙ sym (append_assoc h.0 piece zs), more r s t h.0 piece h.2 m)

pub fed_to_end : {T : Type 0} (took : T → T → List ℕ → Type 0) (a b : Option (List ℕ)) (r s : T)
    → HasFed took a b r s → IsAtEnd b → IsFed took a r s
fed_to_end took None b r s h k = h
fed_to_end took (Some xs) None r s h k = absurd h
fed_to_end took (Some xs) (Some ys) r s h k =
    let P : List ℕ → Type 0 = took r s in
    subst P (sym (h.1 ∙ ap (λ l. h.0 ++ l) k ∙ append-nil h.0)) h.2

pub fed_enough : {T : Type 0} (took : T → T → List ℕ → Type 0)
    (more : (a b c : T) (xs ys : List ℕ) → took a b xs → took b c ys → took a c (xs ++ ys))
    (a b : Option (List ℕ)) (r s : T)
    → HasFed took a b r s → ((rest : List ℕ) → took s s rest) → IsFed took a r s
fed_enough took more None b r s h k = h
fed_enough took more (Some xs) None r s h k = absurd h
fed_enough took more (Some xs) (Some ys) r s h k =
    let P : List ℕ → Type 0 = took r s in
    subst P (sym h.1) (more r s s h.0 ys h.2 (k ys))

pub fed_some : {T : Type 0} (took : T → T → List ℕ → Type 0) (a b : Option (List ℕ)) (r s : T)
    → HasFed took a b r s → (bytes : List ℕ) × took r s bytes
fed_some took None b r s h = h
fed_some took (Some xs) None r s h = absurd h
fed_some took (Some xs) (Some ys) r s h = (h.0, h.2)

-- What is so for the bytes of a source.
use Rattle.std.specs.Prelude.{◌≡◌, ℕ, List, Option, Some, None, Result, Ok, Err, IfOk, IfSome}
use Rattle.std.proofs.Common.{subst}
use Rattle.commands.specs.Known.{HoldsOf}

pub of_map : (P Q : List ℕ → Type 0) (k : Option (List ℕ)) → ((bytes : List ℕ) → P bytes → Q bytes) → HoldsOf k P → HoldsOf k Q
of_map P Q None f h = (h.0, f h.0 h.1)
of_map P Q (Some bytes) f h = f bytes h

-- a source that was opened has the bytes of its file left, if these are known
pub of_opened : (P : List ℕ → Type 0) (left holds : Option (List ℕ)) → IfSome holds (λ bytes. left ≡ Some bytes) → HoldsOf left P → HoldsOf holds P
of_opened P None None e h = h
of_opened P (Some bytes) None e h = (bytes, h)
of_opened P left (Some bytes) e h =
    let Q : Option (List ℕ) → Type 0 = λ k. HoldsOf k P in
    subst Q e h

-- what comes of whatever the bytes are
pub of_ok : {T E : Type 0} (P : List ℕ → Type 0) (Q : List ℕ → T → Type 0) (k : Option (List ℕ)) (r : Result T E)
    → HoldsOf k P → ((bytes : List ℕ) → P bytes → IfOk r (Q bytes)) → IfOk r (λ x. HoldsOf k (λ bytes. Q bytes x))
of_ok P Q None (Ok x) h f = (h.0, f h.0 h.1)
of_ok P Q (Some bytes) (Ok x) h f = f bytes h
of_ok P Q k (Err e) h f = tt

pub of_opened_ok : {T E : Type 0} (P : List ℕ → T → Type 0) (left holds : Option (List ℕ)) (r : Result T E)
    → IfSome holds (λ bytes. left ≡ Some bytes) → IfOk r (λ x. HoldsOf left (λ bytes. P bytes x)) → IfOk r (λ x. HoldsOf holds (λ bytes. P bytes x))
of_opened_ok P left holds (Ok x) e h = of_opened (λ bytes. P bytes x) left holds e h
of_opened_ok P left holds (Err f) e h = tt

-- the same of two sources, which two values hold
pub both_opened_ok : {T E : Type 0} (P : List ℕ → List ℕ → T → Type 0) (r : Result T E) (l k holds m j others : Option (List ℕ))
    → l ≡ k → IfSome holds (λ bytes. k ≡ Some bytes) → m ≡ j → IfSome others (λ bytes. j ≡ Some bytes)
    → IfOk r (λ x. HoldsOf l (λ text. HoldsOf m (λ bytes. P text bytes x))) → IfOk r (λ x. HoldsOf holds (λ text. HoldsOf others (λ bytes. P text bytes x)))
both_opened_ok P (Ok x) l k holds m j others le he me ge h =
    let Q : List ℕ → List ℕ → Type 0 = λ text bytes. P text bytes x in
    let first : HoldsOf l (λ text. HoldsOf others (Q text)) =
    of_map (λ text. HoldsOf m (Q text)) (λ text. HoldsOf others (Q text)) l (λ text g. of_opened (Q text) j others ge (subst (λ (o : Option (List ℕ)). HoldsOf o (Q text)) me g)) h in
    of_opened (λ text. HoldsOf others (Q text)) k holds he (subst (λ (o : Option (List ℕ)). HoldsOf o (λ text. HoldsOf others (Q text))) le first)
both_opened_ok P (Err f) l k holds m j others le he me ge h = tt

-- what follows of the first source whatever the bytes of the second are
pub of_first_ok : {T E : Type 0} (P : List ℕ → List ℕ → T → Type 0) (Q : List ℕ → T → Type 0) (r : Result T E) (k j : Option (List ℕ)) → ((text bytes : List ℕ) (x : T) → P text bytes x → Q text x)
    → IfOk r (λ x. HoldsOf k (λ text. HoldsOf j (λ bytes. P text bytes x))) → IfOk r (λ x. HoldsOf k (λ text. Q text x))
of_first_ok P Q (Ok x) k j f h = of_map (λ text. HoldsOf j (λ bytes. P text bytes x)) (λ text. Q text x) k (λ text g. any text j g) h
  where
    any : (text : List ℕ) (o : Option (List ℕ)) → HoldsOf o (λ bytes. P text bytes x) → Q text x
    any text None g = f text g.0 x g.1
    any text (Some bytes) g = f text bytes x g
of_first_ok P Q (Err e) k j f h = tt

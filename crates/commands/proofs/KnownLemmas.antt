-- What is so whatever the bytes of a source are, and where a call went well.
use Rattle.std.specs.Prelude.{◌≡◌, ℕ, List, [], Option, Some, None, Result, Ok, Err, IfOk, MatchResult, OnOk}
use Rattle.std.specs.Result.{IsErrAnd, IsOk}
use Rattle.std.proofs.Common.{sym, subst, ◌∙◌}
use Rattle.commands.specs.Known.{HoldsOf}

pub of_any : (P : List ℕ → Type 0) (k : Option (List ℕ)) → ((bytes : List ℕ) → P bytes) → HoldsOf k P
of_any P None f = ([], f [])
of_any P (Some bytes) f = f bytes

pub on_ok_at : {T E : Type 0} (r : Result T E) (x : T) (P : Type 0) → r ≡ Ok x → OnOk r P → P
on_ok_at {T = T} {E = E} r x P e h =
    let Q : Result T E → Type 0 = λ s. OnOk s P in
    subst Q e h

-- ---- a result whose error was told otherwise
ok_same : {T E : Type 0} (x y : T) → ◌≡◌ {A = Result T E} (Ok x) (Ok y) → x ≡ y
ok_same x y e = cc

pub if_ok_before : {T D E : Type 0} (s : Result T E) (r : Result T D) (x : T) (P : T → Type 0) (F : E → D → Type 0)
    → MatchResult s (λ y. r ≡ Ok y) (λ e. IsErrAnd r (F e)) → r ≡ Ok x → IfOk s P → P x
if_ok_before {D = D} (Ok y) r x P F c e h = subst P (ok_same {E = D} y x (sym c ∙ e)) h
if_ok_before {T = T} {D = D} (Err f) r x P F c e h =
    let Q : Result T D → Type 0 = λ s. IsErrAnd s (F f) in
    absurd (subst Q e c)

pub on_ok_before : {T D E : Type 0} (s : Result T E) (r : Result T D) (x : T) (P : Type 0) (F : E → D → Type 0)
    → MatchResult s (λ y. r ≡ Ok y) (λ e. IsErrAnd r (F e)) → r ≡ Ok x → OnOk s P → P
on_ok_before (Ok y) r x P F c e h = h
on_ok_before {T = T} {D = D} (Err f) r x P F c e h =
    let Q : Result T D → Type 0 = λ s. IsErrAnd s (F f) in
    absurd (subst Q e c)

pub on_ok_two : {T E : Type 0} (r : Result T E) (P Q R : Type 0) → OnOk r P → OnOk r Q → (P → Q → R) → OnOk r R
on_ok_two (Ok x) P Q R h k f = f h k
on_ok_two (Err e) P Q R h k f = tt

-- ---- where a call went well
pub if_ok_at : {T E : Type 0} (r : Result T E) (x : T) (P : T → Type 0) → r ≡ Ok x → IfOk r P → P x
if_ok_at {T = T} {E = E} r x P e h =
    let Q : Result T E → Type 0 = λ s. IfOk s P in
    subst Q e h

pub if_ok_as : {T E A : Type 0} (r : Result T E) (P : A → T → Type 0) (a b : A) → OnOk r (a ≡ b) → IfOk r (P a) → IfOk r (P b)
if_ok_as {A = A} (Ok x) P a b e h =
    let Q : A → Type 0 = λ c. P c x in
    subst Q e h
if_ok_as (Err f) P a b e h = tt

pub ok_on : {T E : Type 0} (r : Result T E) (P : Type 0) → IsOk r → OnOk r P → P
ok_on (Ok x) P e h = h
ok_on (Err f) P e h = absurd cc

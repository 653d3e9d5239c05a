-- What a call promises if it returns Ok.
use Rattle.std.proofs.Common.{Result, Ok, Err, OnOk, IfOk}

pub ok_gives : {A E : Type 0} (r : Result A E) (P Q : Type 0) → (P → Q) → OnOk r P → OnOk r Q
ok_gives (Ok x) P Q f h = f h
ok_gives (Err e) P Q f h = tt

pub ok_both : {A E : Type 0} (r : Result A E) (P Q R : Type 0) → (P → Q → R) → OnOk r P → OnOk r Q → OnOk r R
ok_both (Ok x) P Q R f h g = f h g
ok_both (Err e) P Q R f h g = tt

pub if_ok : {A E : Type 0} (r : Result A E) (P Q : A → Type 0) → ((x : A) → P x → Q x) → IfOk r P → IfOk r Q
if_ok (Ok x) P Q f h = f x h
if_ok (Err e) P Q f h = tt

pub if_ok_both : {A E : Type 0} (r : Result A E) (P R : A → Type 0) (Q : Type 0) → ((x : A) → P x → Q → R x) → IfOk r P → OnOk r Q → IfOk r R
if_ok_both (Ok x) P R Q f h g = f x h g
if_ok_both (Err e) P R Q f h g = tt

-- Texts that are taken as far as they are wanted.
use Rattle.std.proofs.Common.{◌≡◌, inl, inr, ◌≤◌, ℕ, ◌+◌, ◌-◌, Bool, true, false, List, [], ◌∷◌, ◌++◌, Option, Some, None, Result, Ok, Err, IfOk, IfErr, refl, sym, ◌∙◌, ap, subst, append_assoc, append-nil, take, drop, length, eqb, arith}
use Rattle.std.proofs.lemmas.Bool.{eqb-true}
use Rattle.std.proofs.lemmas.List.{drop-drop, drop-take, length-take, nil_from_length, take-append-drop}
use Rattle.std.specs.Io.KnownBytes.{Consumes, IsAtEnd, Keeps, prepend_known}
use Rattle.commands.specs.Known.{HoldsOf}
use Rattle.commands.specs.Refusals.{IsOneOf}
use Rattle.commands.specs.inner.Texts.{IsRead, IsTaken}
use Rattle.reports.specs.declared.refusal.Refusal.{Refusal}
use Rattle.reports.specs.declared.refusal.Refusal.TheVariants as refusal
use Rattle.reports.specs.declared.report.Report.{Report}
use Rattle.dimacs.specs.logic.Limits.{Limits}
use Rattle.sessions.specs.Check.{HasTaken, KeepsEnds, OfTexts, events_ended, proof_ended, wanted}
use Rattle.sessions.specs.Reports.{HasNoReport}
use Rattle.sessions.specs.Sides.{Ends}
use Rattle.sessions.specs.declared.check.SessionCheck.{SessionCheck}
use Rattle.sessions.specs.declared.check.Wants.TheVariants as wants

-- ---- one text
ends_nil : (b : Bool) → Ends {X = ℕ} b []
ends_nil true = refl
ends_nil false = tt

no_more : (xs ys : List ℕ) → xs ++ ys ≡ [] → ys ≡ []
no_more [] ys e = e
no_more (x ∷ xs) ys e = absurd cc

ends_behind : (b : Bool) (xs ys : List ℕ) → Ends b (xs ++ ys) → Ends b ys
ends_behind true xs ys e = no_more xs ys e
ends_behind false xs ys e = tt

pub begun_taken : (a : Option (List ℕ)) (b : Bool) → b ≡ false → IsTaken a [] a b
begun_taken None b e = tt
begun_taken (Some all) b e = (refl, subst (λ c. Ends c all) (sym e) tt)

kept_taken : (a l m : Option (List ℕ)) (xs : List ℕ) (b : Bool) → Keeps l m → IsTaken a xs l b → IsTaken a xs m b
kept_taken None l m xs b k h = tt
kept_taken (Some all) None m xs b k h = absurd h
kept_taken (Some all) (Some l) None xs b k h = absurd k
kept_taken (Some all) (Some l) (Some m) xs b k h = (h.0 ∙ ap (λ r. xs ++ r) (sym k), subst (λ r. Ends b r) (sym k) h.1)

more_taken : (a l m : Option (List ℕ)) (xs ys : List ℕ) (b : Bool) → Consumes l m ys → IsTaken a xs l b → IsTaken a (xs ++ ys) m b
more_taken None l m xs ys b k h = tt
more_taken (Some all) None m xs ys b k h = absurd h
more_taken (Some all) (Some l) None xs ys b k h = absurd k
more_taken (Some all) (Some l) (Some m) xs ys b k h =
    (h.0 ∙ ap (λ r. xs ++ r) k ∙ sym (append_assoc xs ys m), ends_behind b ys m (subst (λ r. Ends b r) k h.1))

end_taken : (a l : Option (List ℕ)) (xs : List ℕ) (b c : Bool) → IsAtEnd l → IsTaken a xs l b → IsTaken a xs l c
end_taken None l xs b c e h = tt
end_taken (Some all) None xs b c e h = absurd h
end_taken (Some all) (Some l) xs b c e h = (h.0, subst (λ r. Ends c r) (sym e) (ends_nil c))

flag_taken : (a l : Option (List ℕ)) (xs : List ℕ) (b c : Bool) → c ≡ b → IsTaken a xs l b → IsTaken a xs l c
flag_taken a l xs b c e h = subst (λ d. IsTaken a xs l d) (sym e) h

of_taken : (P : List ℕ → Type 0) (a l : Option (List ℕ)) (xs : List ℕ) (b : Bool) → IsTaken a xs l b → ((d : List ℕ) → Ends b d → P (xs ++ d)) → HoldsOf a P
of_taken P None l xs b h f = (xs ++ [], f [] (ends_nil b))
of_taken P (Some all) None xs b h f = absurd h
of_taken P (Some all) (Some l) xs b h f = subst P (sym h.0) (f l h.1)

-- ---- both texts
pub read_kept_proof : (L : Limits) (e p l m n : Option (List ℕ)) (x : SessionCheck) → Keeps m n → IsRead L e p l m x → IsRead L e p l n x
read_kept_proof L e p l m n x k h = record { e = h.e; p = h.p; taken = h.taken; of_events = h.of_events; of_proof = kept_taken p m n h.p (proof_ended x) k h.of_proof }

pub read_kept_events : (L : Limits) (e p l m n : Option (List ℕ)) (x : SessionCheck) → Keeps m n → IsRead L e p m l x → IsRead L e p n l x
read_kept_events L e p l m n x k h = record { e = h.e; p = h.p; taken = h.taken; of_events = kept_taken e m n h.e (events_ended x) k h.of_events; of_proof = h.of_proof }

pub read_end_proof : (L : Limits) (e p l m : Option (List ℕ)) (x y : SessionCheck) → IsAtEnd m → events_ended y ≡ events_ended x → ((a b : List ℕ) → HasTaken L a b x → HasTaken L a b y) → IsRead L e p l m x → IsRead L e p l m y
read_end_proof L e p l m x y k flag goes h = record {
  e = h.e;
  p = h.p;
  taken = goes h.e h.p h.taken;
  of_events = flag_taken e l h.e (events_ended x) (events_ended y) flag h.of_events;
  of_proof = end_taken p m h.p (proof_ended x) (proof_ended y) k h.of_proof;
}

pub read_end_events : (L : Limits) (e p l m : Option (List ℕ)) (x y : SessionCheck) → IsAtEnd m → proof_ended y ≡ proof_ended x → ((a b : List ℕ) → HasTaken L a b x → HasTaken L a b y) → IsRead L e p m l x → IsRead L e p m l y
read_end_events L e p l m x y k flag goes h = record {
  e = h.e;
  p = h.p;
  taken = goes h.e h.p h.taken;
  of_events = end_taken e m h.e (events_ended x) (events_ended y) k h.of_events;
  of_proof = flag_taken p l h.p (proof_ended x) (proof_ended y) flag h.of_proof;
}

pub read_more_proof : (L : Limits) (e p l m n : Option (List ℕ)) (x y : SessionCheck) (bs : List ℕ) → Consumes m n bs → KeepsEnds x y → ((a b : List ℕ) → HasTaken L a b x → HasTaken L a (b ++ bs) y) → IsRead L e p l m x → IsRead L e p l n y
read_more_proof L e p l m n x y bs k flags goes h = record {
  e = h.e;
  p = h.p ++ bs;
  taken = goes h.e h.p h.taken;
  of_events = flag_taken e l h.e (events_ended x) (events_ended y) flags.events h.of_events;
  of_proof = flag_taken p n (h.p ++ bs) (proof_ended x) (proof_ended y) flags.proof (more_taken p m n h.p bs (proof_ended x) k h.of_proof);
}

pub read_more_events : (L : Limits) (e p l m n : Option (List ℕ)) (x y : SessionCheck) (bs : List ℕ) → Consumes m n bs → KeepsEnds x y → ((a b : List ℕ) → HasTaken L a b x → HasTaken L (a ++ bs) b y) → IsRead L e p m l x → IsRead L e p n l y
read_more_events L e p l m n x y bs k flags goes h = record {
  e = h.e ++ bs;
  p = h.p;
  taken = goes h.e h.p h.taken;
  of_events = flag_taken e n (h.e ++ bs) (events_ended x) (events_ended y) flags.events (more_taken e m n h.e bs (events_ended x) k h.of_events);
  of_proof = flag_taken p l h.p (proof_ended x) (proof_ended y) flags.proof h.of_proof;
}

-- nothing was read
pub read_begun : (L : Limits) (e p : Option (List ℕ)) (x : SessionCheck) → HasTaken L [] [] x → events_ended x ≡ false → proof_ended x ≡ false → IsRead L e p e p x
read_begun L e p x h none_e none_p = record { e = []; p = []; taken = h; of_events = begun_taken e (events_ended x) none_e; of_proof = begun_taken p (proof_ended x) none_p }

-- what is so whatever is left is so of both texts
pub of_read : (L : Limits) (P : List ℕ → List ℕ → Type 0) (e p l m : Option (List ℕ)) (x : SessionCheck) → IsRead L e p l m x → ((a b : List ℕ) → HasTaken L a b x → OfTexts a b x P) → HoldsOf e (λ text. HoldsOf p (P text))
of_read L P e p l m x h f =
    of_taken (λ text. HoldsOf p (P text)) e l h.e (events_ended x) h.of_events (λ d ends.
    of_taken (P (h.e ++ d)) p m h.p (proof_ended x) h.of_proof (λ b rest.
    f h.e h.p h.taken d b ends rest))

pub of_read_ok : {T E : Type 0} (L : Limits) (P : List ℕ → List ℕ → T → Type 0) (r : Result T E) (e p l m : Option (List ℕ)) (x : SessionCheck) → IsRead L e p l m x
    → ((a b : List ℕ) → HasTaken L a b x → OfTexts a b x (λ text bytes. IfOk r (P text bytes))) → IfOk r (λ t. HoldsOf e (λ text. HoldsOf p (λ bytes. P text bytes t)))
of_read_ok L P (Ok t) e p l m x h f = of_read L (λ text bytes. P text bytes t) e p l m x h f
of_read_ok L P (Err f) e p l m x h g = tt

-- a check of which nothing is wanted has no report if memory ran out
pub no_report_read : (L : Limits) (r : Result Report Refusal) (x : SessionCheck) (one other : Refusal) (e p l m : Option (List ℕ)) → IsRead L e p l m x → wanted x ≡ wants.Nothing
    → ((a b : List ℕ) → HasTaken L a b x → IfErr r (HasNoReport x)) → IfErr r (IsOneOf one other)
no_report_read L (Ok r) x one other e p l m h none told = tt
no_report_read L (Err f) x one other e p l m h none told = at (told h.e h.p h.taken)
  where
    at : HasNoReport x f → IsOneOf one other f
    at (inl ran_out) = inl ran_out
    at (inr w) = absurd (w.1 none)

pub unread_as : (r : Result Report Refusal) (one other : Refusal) → one ≡ refusal.Input → other ≡ refusal.Proof → IfErr r (IsOneOf one other) → IfErr r (IsOneOf refusal.Input refusal.Proof)
unread_as r one other i j h = subst (λ (f : Refusal). IfErr r (IsOneOf f refusal.Proof)) i (subst (λ (f : Refusal). IfErr r (IsOneOf one f)) j h)

-- ---- a piece
pub none_held : (xs : List ℕ) → eqb (length xs) 0 ≡ true → xs ≡ []
none_held xs e = nil_from_length xs (eqb-true (length xs) 0 e)

-- so many bytes are held
pub held_within : (xs : List ℕ) (at end n : ℕ) → at ≤ end → n ≤ length (take (end - at) (drop at xs)) → at + n ≤ end
held_within xs at end n ordered some = let e = length-take (end - at) (drop at xs) in omega (arith, e)

-- what is held begins with those that are taken
pub held_more : (xs : List ℕ) (at end n : ℕ) → at + n ≤ end → take (end - at) (drop at xs) ≡ take n (take (end - at) (drop at xs)) ++ take (end - (at + n)) (drop (at + n) xs)
held_more xs at end n within =
    sym (take-append-drop n (take (end - at) (drop at xs)))
    ∙ ap (λ r. take n (take (end - at) (drop at xs)) ++ r)
    (ap (λ (m : ℕ). drop n (take m (drop at xs))) all ∙ drop-take n (end - (at + n)) (drop at xs) ∙ ap (λ (r : List ℕ). take (end - (at + n)) r) (drop-drop n at xs))
  where
    all : end - at ≡ n + (end - (at + n))
    all = omega arith

pub left_more : (k : Option (List ℕ)) (old new front : List ℕ) → old ≡ front ++ new → Consumes (prepend_known old k) (prepend_known new k) front
left_more None old new front e = tt
left_more (Some xs) old new front e = ap (λ l. l ++ xs) e ∙ append_assoc front new xs

-- The stage of a proof after a piece.
use Rattle.std.proofs.Common.{◌≡◌, ℕ, true, false, List, [], ◌∷◌, ◌++◌, Some, None, refl, sym, ap, subst, ◌∙◌}
use Rattle.std.specs.Prelude.{slice_get}
use Rattle.dimacs.specs.logic.Cnf.{Cnf}
use Rattle.proof_check.specs.Forms.{is_letter}
use Rattle.proof_check.specs.ProofChecks.{Reaches}
use Rattle.proof_check.specs.inner.Checks.{IsBegun, IsFed}
use Rattle.proof_check.specs.declared.stage.Stage.{Stage}
use Rattle.proof_check.specs.declared.stage.Stage.TheVariants.{Awaiting, Text, Binary}
use Rattle.proof_check.proofs.FormLemmas.{form_more}

pub nothing_first : (xs : List ℕ) → None ≡ slice_get xs 0 → xs ≡ []
nothing_first [] e = refl
nothing_first (x ∷ xs) e = absurd cc

pub first_is : (xs : List ℕ) (x : ℕ) → Some x ≡ slice_get xs 0 → (rest : List ℕ) × (xs ≡ x ∷ rest)
first_is [] x e = absurd cc
first_is (y ∷ xs) x e = (xs, (let h : y ≡ x = cc in ap (λ (b : ℕ). b ∷ xs) h))

-- in a form that is known
goes_on : (F : Cnf) (s t : Stage) (proof piece : List ℕ) → ((G : Cnf) → s ≡ Awaiting G → ⊥) → IsFed s piece t → Reaches F s proof → Reaches F t (proof ++ piece)
goes_on F (Awaiting G) t proof piece known fed h = absurd (known G refl)
goes_on F (Text p) (Text q) proof piece known fed h = (form_more false proof piece h.0, fed F proof h.1)
goes_on F (Text p) (Awaiting G) proof piece known fed h = absurd fed
goes_on F (Text p) (Binary q) proof piece known fed h = absurd fed
goes_on F (Binary p) (Binary q) proof piece known fed h = (form_more true proof piece h.0, fed F proof h.1)
goes_on F (Binary p) (Awaiting G) proof piece known fed h = absurd fed
goes_on F (Binary p) (Text q) proof piece known fed h = absurd fed

pub known_fed : (F : Cnf) (s t : Stage) (proof piece : List ℕ) → ((G : Cnf) → s ≡ Awaiting G → ⊥) → IsFed s piece t → Reaches F s proof → Reaches F t (proof ++ piece)
known_fed = goes_on

pub nothing_fed : (F : Cnf) (s t : Stage) (proof piece : List ℕ) → piece ≡ [] → IsFed s piece t → Reaches F s proof → Reaches F t (proof ++ piece)
nothing_fed F (Awaiting G) t proof piece none fed h = subst (λ (x : Stage). Reaches F x (proof ++ piece)) (sym fed) (h.0, ap (λ (xs : List ℕ). xs ++ piece) h.1 ∙ none)
nothing_fed F (Text p) t proof piece none fed h = goes_on F (Text p) t proof piece (λ G e. absurd cc) fed h
nothing_fed F (Binary p) t proof piece none fed h = goes_on F (Binary p) t proof piece (λ G e. absurd cc) fed h

-- the first piece
begins : (F : Cnf) (s t : Stage) (b : ℕ) (bytes : List ℕ) → IsBegun F (is_letter b) s → IsFed s (b ∷ bytes) t → Reaches F t (b ∷ bytes)
begins F (Awaiting G) t b bytes begun fed = absurd begun
begins F (Text p) (Text q) b bytes begun fed = (begun.0, fed F [] begun.1)
begins F (Text p) (Awaiting G) b bytes begun fed = absurd fed
begins F (Text p) (Binary q) b bytes begun fed = absurd fed
begins F (Binary p) (Binary q) b bytes begun fed = (begun.0, fed F [] begun.1)
begins F (Binary p) (Awaiting G) b bytes begun fed = absurd fed
begins F (Binary p) (Text q) b bytes begun fed = absurd fed

pub first_fed : (F G : Cnf) (s t : Stage) (proof piece : List ℕ) (b : ℕ) (bytes : List ℕ) → piece ≡ b ∷ bytes → IsBegun G (is_letter b) s → IsFed s piece t → Reaches F (Awaiting G) proof → Reaches F t (proof ++ piece)
first_fed F G s t proof piece b bytes split begun fed h =
    let whole : proof ++ piece ≡ b ∷ bytes = ap (λ (xs : List ℕ). xs ++ piece) h.1 ∙ split in
    subst (λ (xs : List ℕ). Reaches F t xs) (sym whole)
    (begins F s t b bytes (subst (λ (H : Cnf). IsBegun H (is_letter b) s) h.0 begun) (subst (λ (xs : List ℕ). IsFed s xs t) split fed))

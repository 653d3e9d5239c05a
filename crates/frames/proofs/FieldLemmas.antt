-- What the parsers of fields find.
use Rattle.std.proofs.Common.{◌≡◌, ◌≢◌, ℕ, ◌^◌, ◌<◌, ◌≤◌, List, [], ◌∷◌, ◌++◌, length, take, drop, get_or, refl, sym, ap, subst, ◌∙◌, arith, length-take, inl, inr}
use Rattle.std.specs.Int.{w32, w64, to_be_bytes, from_be_bytes}
use Rattle.std.proofs.lemmas.Nat.{be_bytes_4, be_bytes_8}
use Rattle.std.proofs.lemmas.Bool.{cases_lt}
use Rattle.std.proofs.lemmas.List.{take-append-drop, get_or-take, get_or_past}
use Rattle.frames.specs.declared.answer.Finding.TheVariants.{Refuted, Assignment}
use Rattle.frames.specs.declared.answer.Ending.TheVariants.{Decided, Limit}
use Rattle.frames.specs.WireFormat.{attempt_bytes, finding_bytes, ending_bytes, IsWorker, IsAttempt, IsFinding, IsEnding}
use Rattle.frames.specs.inner.Decoder.{BeginsWithField, BeginsWithNoField, SpellsNone}
use Rattle.frames.proofs.SameFields.{same_32, same_64, worker_fits}

abbrev pub IsBytes : List ℕ → Type 0
IsBytes bytes = (i : ℕ) → get_or bytes i 0 < 256

IsBytes-take : (n : ℕ) (bytes : List ℕ) → IsBytes bytes → IsBytes (take n bytes)
IsBytes-take n bytes h i =
    elim (cases_lt i n) [
      | inl lt ↦ rw (get_or-take n bytes i 0 lt) (h i)
      | inr le ↦ rw (get_or_past (take n bytes) i 0 (omega (arith, length-take n bytes))) (omega arith)
    ]

pub parts_32 : (bytes : List ℕ) (n : ℕ) → IsBytes bytes → 4 ≤ length bytes → n ≡ from_be_bytes w32 (take 4 bytes) → bytes ≡ to_be_bytes w32 n ++ drop 4 bytes
parts_32 bytes n fits long e =
    sym (take-append-drop 4 bytes) ∙ ap (λ (x : List ℕ). x ++ drop 4 bytes) (sym (be_bytes_4 (take 4 bytes) n (omega (arith, length-take 4 bytes)) (IsBytes-take 4 bytes fits) e))

pub parts_64 : (bytes : List ℕ) (n : ℕ) → IsBytes bytes → 8 ≤ length bytes → n ≡ from_be_bytes w64 (take 8 bytes) → bytes ≡ to_be_bytes w64 n ++ drop 8 bytes
parts_64 bytes n fits long e =
    sym (take-append-drop 8 bytes) ∙ ap (λ (x : List ℕ). x ++ drop 8 bytes) (sym (be_bytes_8 (take 8 bytes) n (omega (arith, length-take 8 bytes)) (IsBytes-take 8 bytes fits) e))

-- the bytes begin with no worker's number
pub no_worker : (bytes : List ℕ) (n : ℕ) (rest : List ℕ) → bytes ≡ to_be_bytes w32 n ++ rest → n < 2 ^ 32 → (IsWorker n → ⊥) → BeginsWithNoField (to_be_bytes w32) IsWorker bytes
no_worker bytes n rest e fits none m more right same =
    let s = same_32 n m rest more fits (worker_fits m right) (sym e ∙ same) in
    none (subst IsWorker (sym s.value) right)

pub attempt_found : (b0 b1 b2 b3 b4 : List ℕ) (s j w i : ℕ) → b0 ≡ to_be_bytes w64 s ++ b1 → s < 2 ^ 64 → b1 ≡ to_be_bytes w64 j ++ b2 → j < 2 ^ 64 → BeginsWithField (to_be_bytes w32) IsWorker b2 w b3 → b3 ≡ to_be_bytes w64 i ++ b4 → i < 2 ^ 64
    → BeginsWithField attempt_bytes IsAttempt b0 (record { session = s; job = j; worker = w; incarnation = i }) b4
attempt_found b0 b1 b2 b3 b4 s j w i e0 f0 e1 f1 e2 e3 f3 =
    record {
      parts = e0 ∙ ap (λ (x : List ℕ). to_be_bytes w64 s ++ x) (e1 ∙ ap (λ (x : List ℕ). to_be_bytes w64 j ++ x) (e2.parts ∙ ap (λ (x : List ℕ). to_be_bytes w32 w ++ x) e3));
      fits = record { session = f0; job = f1; worker = e2.fits; incarnation = f3 };
    }

pub no_attempt : (b0 b1 b2 : List ℕ) (s j : ℕ) → b0 ≡ to_be_bytes w64 s ++ b1 → s < 2 ^ 64 → b1 ≡ to_be_bytes w64 j ++ b2 → j < 2 ^ 64 → BeginsWithNoField (to_be_bytes w32) IsWorker b2 → BeginsWithNoField attempt_bytes IsAttempt b0
no_attempt b0 b1 b2 s j e0 f0 e1 f1 none a rest right same =
    let x = same_64 s a.session b1 (to_be_bytes w64 a.job ++ (to_be_bytes w32 a.worker ++ (to_be_bytes w64 a.incarnation ++ rest))) f0 right.session (sym e0 ∙ same) in
    let y = same_64 j a.job b2 (to_be_bytes w32 a.worker ++ (to_be_bytes w64 a.incarnation ++ rest)) f1 right.job (sym e1 ∙ x.rest) in
    none a.worker (to_be_bytes w64 a.incarnation ++ rest) right.worker y.rest

-- five bytes: an answer's number, and a length
pub five : (bytes : List ℕ) (b n : ℕ) (rest : List ℕ) → length bytes ≡ 5 → b ≡ get_or bytes 0 0 → drop 1 bytes ≡ to_be_bytes w32 n ++ rest → bytes ≡ b ∷ to_be_bytes w32 n
five [] b n rest l e h = absurd (omega arith)
five (c ∷ bytes) b n rest l e h =
    let none : rest ≡ [] = nothing rest (omega (arith, ap length h)) in
    ap (λ k. k ∷ bytes) (sym e) ∙ ap (λ (x : List ℕ). b ∷ x) (h ∙ ap (λ (x : List ℕ). to_be_bytes w32 n ++ x) none)
  where
    nothing : (xs : List ℕ) → length xs ≡ 0 → xs ≡ []
    nothing [] h = refl
    nothing (x ∷ xs) h = absurd (omega arith)

pub no_finding : (bytes : List ℕ) (b n : ℕ) → bytes ≡ b ∷ to_be_bytes w32 n → n < 2 ^ 32 → (b ≡ 1 → n < 1) → b ≢ 2 → SpellsNone finding_bytes IsFinding bytes
no_finding bytes b n e fits one two (Refuted m) right same =
    let both : b ∷ to_be_bytes w32 n ≡ 1 ∷ to_be_bytes w32 m = sym e ∙ same in
    let s = same_32 n m [] [] fits right.1 (ap (drop 1) both) in
    let is_one : b ≡ 1 = cc in
    let below : n < 1 = one is_one in
    omega (arith, right.0, s.value)
no_finding bytes b n e fits one two (Assignment m) right same =
    let both : b ∷ to_be_bytes w32 n ≡ 2 ∷ to_be_bytes w32 m = sym e ∙ same in
    two cc

pub no_ending : (bytes : List ℕ) (b n : ℕ) → bytes ≡ b ∷ to_be_bytes w32 n → n < 2 ^ 32 → (b ≡ 3 → n ≢ 0) → SpellsNone finding_bytes IsFinding bytes → SpellsNone ending_bytes IsEnding bytes
no_ending bytes b n e fits three none (Decided f) right same = none f right same
no_ending bytes b n e fits three none Limit right same =
    let both : b ∷ to_be_bytes w32 n ≡ 3 ∷ to_be_bytes w32 0 = sym e ∙ same in
    let s = same_32 n 0 [] [] fits (omega arith) (ap (drop 1) both) in
    let is_three : b ≡ 3 = cc in
    three is_three s.value

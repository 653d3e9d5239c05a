-- No field's encoding is a prefix of another's: if two encodings of a field begin alike, the values are equal.
use Rattle.std.proofs.Common.{◌≡◌, ℕ, zero, suc, ◌^◌, ◌<◌, List, [], ◌∷◌, ◌++◌, take, drop, refl, sym, ap, ◌∙◌, arith}
use Rattle.std.specs.Int.{w16, w32, w64, to_be_bytes, from_be_bytes, cast_unsigned}
use Rattle.std.specs.List.{flat_map, AllByRecursion}
use Rattle.std.proofs.lemmas.Nat.{from_be_bytes-to_be_bytes_2, from_be_bytes-to_be_bytes_4, from_be_bytes-to_be_bytes_8}
use Rattle.std.proofs.lemmas.List.Concat.{flat_map-cons}
use Rattle.dimacs.specs.logic.Literal.{Literal, Pos, Neg, number_of, IsWithin}
use Rattle.frames.specs.declared.answer.Answer.{Answer}
use Rattle.frames.specs.declared.answer.Answer.TheVariants as answers
use Rattle.frames.specs.declared.answer.Finding.{Finding}
use Rattle.frames.specs.declared.answer.Finding.TheVariants.{Refuted, Assignment}
use Rattle.frames.specs.declared.answer.Ending.{Ending}
use Rattle.frames.specs.declared.answer.Ending.TheVariants.{Decided, Limit}
use Rattle.frames.specs.declared.frame.Attempt.{Attempt}
use Rattle.frames.specs.Answers.{answer_number}
use Rattle.frames.specs.WireFormat.{literal_bytes, attempt_bytes, finding_bytes, ending_bytes, IsWorker, IsAttempt, IsFinding, IsEnding}

-- equal values, and equal rests
pub record Same {X : Type 0} (x y : X) (a b : List ℕ) : Type 0 where
  pub value : x ≡ y
  pub rest : a ≡ b

pub same_16 : (m n : ℕ) (a b : List ℕ) → m < 2 ^ 16 → n < 2 ^ 16 → to_be_bytes w16 m ++ a ≡ to_be_bytes w16 n ++ b → Same m n a b
same_16 m n a b lm ln e =
    let bytes : to_be_bytes w16 m ≡ to_be_bytes w16 n = ap (take 2) e in
    record { value = sym (from_be_bytes-to_be_bytes_2 m lm) ∙ ap (from_be_bytes w16) bytes ∙ from_be_bytes-to_be_bytes_2 n ln; rest = ap (drop 2) e }

pub same_32 : (m n : ℕ) (a b : List ℕ) → m < 2 ^ 32 → n < 2 ^ 32 → to_be_bytes w32 m ++ a ≡ to_be_bytes w32 n ++ b → Same m n a b
same_32 m n a b lm ln e =
    let bytes : to_be_bytes w32 m ≡ to_be_bytes w32 n = ap (take 4) e in
    record { value = sym (from_be_bytes-to_be_bytes_4 m lm) ∙ ap (from_be_bytes w32) bytes ∙ from_be_bytes-to_be_bytes_4 n ln; rest = ap (drop 4) e }

pub same_64 : (m n : ℕ) (a b : List ℕ) → m < 2 ^ 64 → n < 2 ^ 64 → to_be_bytes w64 m ++ a ≡ to_be_bytes w64 n ++ b → Same m n a b
same_64 m n a b lm ln e =
    let bytes : to_be_bytes w64 m ≡ to_be_bytes w64 n = ap (take 8) e in
    record { value = sym (from_be_bytes-to_be_bytes_8 m lm) ∙ ap (from_be_bytes w64) bytes ∙ from_be_bytes-to_be_bytes_8 n ln; rest = ap (drop 8) e }

pub worker_fits : (n : ℕ) → IsWorker n → n < 2 ^ 32
worker_fits n h = omega (arith, h.1)

pub same_worker : (m n : ℕ) (a b : List ℕ) → IsWorker m → IsWorker n → to_be_bytes w32 m ++ a ≡ to_be_bytes w32 n ++ b → Same m n a b
same_worker m n a b hm hn e = same_32 m n a b (worker_fits m hm) (worker_fits n hn) e

pub same_attempt : (x y : Attempt) (a b : List ℕ) → IsAttempt x → IsAttempt y → attempt_bytes x ++ a ≡ attempt_bytes y ++ b → Same x y a b
same_attempt x y a b hx hy e =
    let s = same_64 x.session y.session (to_be_bytes w64 x.job ++ (to_be_bytes w32 x.worker ++ (to_be_bytes w64 x.incarnation ++ a))) (to_be_bytes w64 y.job ++ (to_be_bytes w32 y.worker ++ (to_be_bytes w64 y.incarnation ++ b))) hx.session hy.session e in
    let j = same_64 x.job y.job (to_be_bytes w32 x.worker ++ (to_be_bytes w64 x.incarnation ++ a)) (to_be_bytes w32 y.worker ++ (to_be_bytes w64 y.incarnation ++ b)) hx.job hy.job s.rest in
    let w = same_worker x.worker y.worker (to_be_bytes w64 x.incarnation ++ a) (to_be_bytes w64 y.incarnation ++ b) hx.worker hy.worker j.rest in
    let i = same_64 x.incarnation y.incarnation a b hx.incarnation hy.incarnation w.rest in
    record { value = alike x y s.value j.value w.value i.value; rest = i.rest }
  where
    alike : (x y : Attempt) → x.session ≡ y.session → x.job ≡ y.job → x.worker ≡ y.worker → x.incarnation ≡ y.incarnation → x ≡ y
    alike x y s j w i =
        let made : ℕ → ℕ → ℕ → ℕ → Attempt = λ a b c d. record { session = a; job = b; worker = c; incarnation = d } in
        ap (λ n. made n x.job x.worker x.incarnation) s ∙ ap (λ n. made y.session n x.worker x.incarnation) j ∙ ap (λ n. made y.session y.job n x.incarnation) w ∙ ap (λ n. made y.session y.job y.worker n) i

pub same_answer : (x y : Answer) (a b : List ℕ) → answer_number x ∷ a ≡ answer_number y ∷ b → Same x y a b
same_answer answers.Refuted answers.Refuted a b e = record { value = refl; rest = ap (drop 1) e }
same_answer answers.Assignment answers.Assignment a b e = record { value = refl; rest = ap (drop 1) e }
same_answer answers.Refuted answers.Assignment a b e = absurd cc
same_answer answers.Assignment answers.Refuted a b e = absurd cc

pub same_finding : (x y : Finding) (a b : List ℕ) → IsFinding x → IsFinding y → finding_bytes x ++ a ≡ finding_bytes y ++ b → Same x y a b
same_finding (Refuted m) (Refuted n) a b hx hy e = let s = same_32 m n a b hx.1 hy.1 (ap (drop 1) e) in record { value = ap Refuted s.value; rest = s.rest }
same_finding (Assignment m) (Assignment n) a b hx hy e = let s = same_32 m n a b hx hy (ap (drop 1) e) in record { value = ap Assignment s.value; rest = s.rest }
same_finding (Refuted m) (Assignment n) a b hx hy e = absurd cc
same_finding (Assignment m) (Refuted n) a b hx hy e = absurd cc

pub same_ending : (x y : Ending) (a b : List ℕ) → IsEnding x → IsEnding y → ending_bytes x ++ a ≡ ending_bytes y ++ b → Same x y a b
same_ending (Decided f) (Decided g) a b hx hy e = let s = same_finding f g a b hx hy e in record { value = ap Decided s.value; rest = s.rest }
same_ending Limit Limit a b hx hy e = record { value = refl; rest = ap (drop 5) e }
same_ending (Decided (Refuted m)) Limit a b hx hy e = absurd cc
same_ending (Decided (Assignment m)) Limit a b hx hy e = absurd cc
same_ending Limit (Decided (Refuted m)) a b hx hy e = absurd cc
same_ending Limit (Decided (Assignment m)) a b hx hy e = absurd cc

-- the 32 bits of a literal's number
pub word_fits : (l : Literal) → IsWithin 2000000 l → cast_unsigned w32 (number_of l) < 2 ^ 32
word_fits (Pos v) h = omega (arith, h.1)
word_fits (Neg zero) h = omega arith
word_fits (Neg (suc n)) h = omega arith

pub word_same : (l m : Literal) → IsWithin 2000000 l → IsWithin 2000000 m → cast_unsigned w32 (number_of l) ≡ cast_unsigned w32 (number_of m) → l ≡ m
word_same (Pos v) (Pos w) hl hm e = ap Pos e
word_same (Neg zero) m hl hm e = absurd (omega (arith, hl.0))
word_same (Pos v) (Neg zero) hl hm e = absurd (omega (arith, hm.0))
word_same (Neg (suc n)) (Neg zero) hl hm e = absurd (omega (arith, hm.0))
word_same (Pos v) (Neg (suc n)) hl hm e = absurd (omega (arith, hl.1, hm.1))
word_same (Neg (suc n)) (Pos v) hl hm e = absurd (omega (arith, hl.1, hm.1))
word_same (Neg (suc m)) (Neg (suc n)) hl hm e = let k : m ≡ n = omega (arith, hl.1, hm.1) in ap (λ i. Neg (suc i)) k

pub same_literal : (l m : Literal) (a b : List ℕ) → IsWithin 2000000 l → IsWithin 2000000 m → literal_bytes l ++ a ≡ literal_bytes m ++ b → Same l m a b
same_literal l m a b hl hm e =
    let s = same_32 (cast_unsigned w32 (number_of l)) (cast_unsigned w32 (number_of m)) a b (word_fits l hl) (word_fits m hm) e in
    record { value = word_same l m hl hm s.value; rest = s.rest }

pub same_literals : (ls ms : List Literal) → AllByRecursion (IsWithin 2000000) ls → AllByRecursion (IsWithin 2000000) ms → flat_map literal_bytes ls ≡ flat_map literal_bytes ms → ls ≡ ms
same_literals [] [] hl hm e = refl
same_literals (l ∷ ls) (m ∷ ms) hl hm e =
    let s = same_literal l m (flat_map literal_bytes ls) (flat_map literal_bytes ms) hl.0 hm.0 (sym (flat_map-cons literal_bytes l ls) ∙ e ∙ flat_map-cons literal_bytes m ms) in
    let others = same_literals ls ms hl.1 hm.1 s.rest in
    cc (s.value)
same_literals [] (m ∷ ms) hl hm e = absurd (let f : [] ≡ literal_bytes m ++ flat_map literal_bytes ms = e ∙ flat_map-cons literal_bytes m ms in cc)
same_literals (l ∷ ls) [] hl hm e = absurd (let f : literal_bytes l ++ flat_map literal_bytes ls ≡ [] = sym (flat_map-cons literal_bytes l ls) ∙ e in cc)

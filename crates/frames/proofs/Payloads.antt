-- The payloads of right frames: their lengths, and that each is of one frame.
use Rattle.std.proofs.Common.{◌≡◌, ℕ, ◌+◌, ◌*◌, ◌%◌, ◌^◌, ◌<◌, ◌≤◌, Bool, true, false, cond, eqb, leb, List, [], ◌∷◌, ◌++◌, length, take, drop, Some, refl, sym, ap, ◌∙◌, arith}
use Rattle.std.specs.Prelude.{◌&&◌}
use Rattle.std.specs.Int.{w16, w32, w64, to_be_bytes}
use Rattle.std.specs.List.{flat_map}
use Rattle.std.proofs.lemmas.Nat.{from_be_bytes-to_be_bytes_2}
use Rattle.std.proofs.lemmas.Bool.{le-leb}
use Rattle.std.proofs.lemmas.List.{take_at, drop_at, append-nil}
use Rattle.std.proofs.lemmas.List.Elements.{recursion_from_All}
use Rattle.dimacs.specs.logic.Literal.{IsWithin}
use Rattle.frames.specs.declared.answer.Ending.{Ending}
use Rattle.frames.specs.declared.answer.Ending.TheVariants.{Decided, Limit}
use Rattle.frames.specs.declared.fault.FrameFault.TheVariants.{BadLength}
use Rattle.frames.specs.declared.frame.Frame.{Frame}
use Rattle.frames.specs.declared.frame.Frame.TheVariants.{Task, Done, Fetch, Piece, Verdict, Want, Part, Idle, Rest}
use Rattle.frames.specs.declared.frame.Kind.{Kind}
use Rattle.frames.specs.declared.frame.Kind.TheVariants as kinds
use Rattle.frames.specs.declared.header.Header.TheVariants.{Wrong, Whole}
use Rattle.frames.specs.Answers.{answer_number}
use Rattle.frames.specs.WireFormat.{kind_number, kind_from_number, kind_of, allows_length, literal_bytes, finding_bytes, ending_bytes, payload, FrameBytes, IsRight}
use Rattle.frames.specs.Stream.{length_from, length_of_kind, header_of}
use Rattle.frames.proofs.SameFields.{Same, same_16, same_32, same_64, same_worker, same_attempt, same_answer, same_finding, same_ending, same_literals}
use Rattle.frames.proofs.PutsLemmas.{length-literals}

pub kind_again : (k : Kind) → kind_from_number (kind_number k) ≡ Some k
kind_again kinds.Task = refl
kind_again kinds.Done = refl
kind_again kinds.Fetch = refl
kind_again kinds.Piece = refl
kind_again kinds.Verdict = refl
kind_again kinds.Want = refl
kind_again kinds.Part = refl
kind_again kinds.Idle = refl
kind_again kinds.Rest = refl

pub kind_same : (k l : Kind) → kind_number k ≡ kind_number l → k ≡ l
kind_same k l e = let s : Some k ≡ Some l = sym (kind_again k) ∙ ap kind_from_number e ∙ kind_again l in cc

pub length-ending : (o : Ending) → length (ending_bytes o) ≡ 5
length-ending (Decided f) = refl
length-ending Limit = refl

and_true : (a b : Bool) → a ≡ true → b ≡ true → (a && b) ≡ true
and_true true b p q = q
and_true false b p q = absurd cc

task_length : (k : ℕ) → k ≤ 64 → allows_length kinds.Task (24 + 4 * k) ≡ true
task_length k le = and_true (leb 24 (24 + 4 * k)) (leb (24 + 4 * k) 280 && eqb ((24 + 4 * k) % 4) 0) (le-leb 24 (24 + 4 * k) (omega arith)) (and_true (leb (24 + 4 * k) 280) (eqb ((24 + 4 * k) % 4) 0) (le-leb (24 + 4 * k) 280 (omega arith)) (let z : (24 + 4 * k) % 4 ≡ 0 = omega arith in ap (λ n. eqb n 0) z))

-- a right frame's payload has a length of its kind
pub payload_may : (f : Frame) → IsRight f → allows_length (kind_of f) (length (payload f)) ≡ true
payload_may (Task session job limit cube) r = ap (allows_length kinds.Task) (let n : length (payload (Task session job limit cube)) ≡ 24 + 4 * length cube = omega (arith, length-literals cube) in n) ∙ task_length (length cube) r.3.short
payload_may (Done attempt ending) r = ap (allows_length kinds.Done) (let n : length (payload (Done attempt ending)) ≡ 33 = omega (arith, length-ending ending) in n)
payload_may (Fetch attempt offset) r = refl
payload_may (Piece attempt offset bytes) r = let n = 32 + length bytes in ap (allows_length kinds.Piece) (let e : length (payload (Piece attempt offset bytes)) ≡ 32 + length bytes = omega arith in e) ∙ and_true (leb 33 n) (leb n 4032) (le-leb 33 n (omega (arith, r.2.0))) (le-leb n 4032 (omega (arith, r.2.1)))
payload_may (Verdict session finding) r = refl
payload_may (Want session worker offset) r = refl
payload_may (Part session answer offset bytes) r = let n = 13 + length bytes in ap (allows_length kinds.Part) (let e : length (payload (Part session answer offset bytes)) ≡ 13 + length bytes = omega arith in e) ∙ and_true (leb 14 n) (leb n 4013) (le-leb 14 n (omega (arith, r.2.0))) (le-leb n 4013 (omega (arith, r.2.1)))
payload_may (Idle worker incarnation) r = refl
payload_may Rest r = refl

pub payload_short : (f : Frame) → IsRight f → length (payload f) < 2 ^ 16
payload_short (Task session job limit cube) r = omega (arith, length-literals cube, r.3.short)
payload_short (Done attempt ending) r = omega (arith, length-ending ending)
payload_short (Fetch attempt offset) r = omega arith
payload_short (Piece attempt offset bytes) r = omega (arith, r.2.1)
payload_short (Verdict session finding) r = omega arith
payload_short (Want session worker offset) r = omega arith
payload_short (Part session answer offset bytes) r = omega (arith, r.2.1)
payload_short (Idle worker incarnation) r = omega arith
payload_short Rest r = omega arith

-- the header of a frame's bytes
pub head_again : (f : Frame) (a : List ℕ) → IsRight f → header_of (FrameBytes f ++ a) ≡ Whole (kind_of f) (length (payload f))
head_again f a r =
    ap (λ k. length_of_kind k (to_be_bytes w16 (length (payload f)) ++ (payload f ++ a))) (kind_again (kind_of f))
    ∙ ap (length_from (kind_of f)) (from_be_bytes-to_be_bytes_2 (length (payload f)) (payload_short f r))
    ∙ ap (λ b. cond b (Whole (kind_of f) (length (payload f))) (Wrong BadLength)) (payload_may f r)

-- a payload is of one frame of its kind
pub same_payload : (f g : Frame) → IsRight f → IsRight g → kind_of f ≡ kind_of g → payload f ≡ payload g → f ≡ g
same_payload (Task s j l c) (Task s' j' l' c') r r' k e =
    let x = same_64 s s' (to_be_bytes w64 j ++ (to_be_bytes w64 l ++ flat_map literal_bytes c)) (to_be_bytes w64 j' ++ (to_be_bytes w64 l' ++ flat_map literal_bytes c')) r.0 r'.0 e in
    let y = same_64 j j' (to_be_bytes w64 l ++ flat_map literal_bytes c) (to_be_bytes w64 l' ++ flat_map literal_bytes c') r.1 r'.1 x.rest in
    let z = same_64 l l' (flat_map literal_bytes c) (flat_map literal_bytes c') r.2 r'.2 y.rest in
    let w = same_literals c c' (recursion_from_All (IsWithin 2000000) c r.3.within) (recursion_from_All (IsWithin 2000000) c' r'.3.within) z.rest in
    ap (λ n. Task n j l c) x.value ∙ ap (λ n. Task s' n l c) y.value ∙ ap (λ n. Task s' j' n c) z.value ∙ ap (Task s' j' l') w
same_payload (Done a o) (Done a' o') r r' k e =
    let x = same_attempt a a' (ending_bytes o) (ending_bytes o') r.0 r'.0 e in
    let y = same_ending o o' [] [] r.1 r'.1 (append-nil (ending_bytes o) ∙ x.rest ∙ sym (append-nil (ending_bytes o'))) in
    ap (λ n. Done n o) x.value ∙ ap (Done a') y.value
same_payload (Fetch a n) (Fetch a' n') r r' k e =
    let x = same_attempt a a' (to_be_bytes w32 n) (to_be_bytes w32 n') r.0 r'.0 e in
    let y = same_32 n n' [] [] r.1 r'.1 x.rest in
    ap (λ m. Fetch m n) x.value ∙ ap (Fetch a') y.value
same_payload (Piece a n b) (Piece a' n' b') r r' k e =
    let x = same_attempt a a' (to_be_bytes w32 n ++ b) (to_be_bytes w32 n' ++ b') r.0 r'.0 e in
    let y = same_32 n n' b b' r.1 r'.1 x.rest in
    ap (λ m. Piece m n b) x.value ∙ ap (λ m. Piece a' m b) y.value ∙ ap (Piece a' n') y.rest
same_payload (Verdict s f) (Verdict s' f') r r' k e =
    let x = same_64 s s' (finding_bytes f) (finding_bytes f') r.0 r'.0 e in
    let y = same_finding f f' [] [] r.1 r'.1 x.rest in
    ap (λ m. Verdict m f) x.value ∙ ap (Verdict s') y.value
same_payload (Want s w n) (Want s' w' n') r r' k e =
    let x = same_64 s s' (to_be_bytes w32 w ++ to_be_bytes w32 n) (to_be_bytes w32 w' ++ to_be_bytes w32 n') r.0 r'.0 e in
    let y = same_worker w w' (to_be_bytes w32 n) (to_be_bytes w32 n') r.1 r'.1 x.rest in
    let z = same_32 n n' [] [] r.2 r'.2 y.rest in
    ap (λ m. Want m w n) x.value ∙ ap (λ m. Want s' m n) y.value ∙ ap (Want s' w') z.value
same_payload (Part s t n b) (Part s' t' n' b') r r' k e =
    let x = same_64 s s' (answer_number t ∷ (to_be_bytes w32 n ++ b)) (answer_number t' ∷ (to_be_bytes w32 n' ++ b')) r.0 r'.0 e in
    let y = same_answer t t' (to_be_bytes w32 n ++ b) (to_be_bytes w32 n' ++ b') x.rest in
    let z = same_32 n n' b b' r.1 r'.1 y.rest in
    ap (λ m. Part m t n b) x.value ∙ ap (λ m. Part s' m n b) y.value ∙ ap (λ m. Part s' t' m b) z.value ∙ ap (Part s' t' n') z.rest
same_payload (Idle w i) (Idle w' i') r r' k e =
    let x = same_worker w w' (to_be_bytes w64 i) (to_be_bytes w64 i') r.0 r'.0 e in
    let y = same_64 i i' [] [] r.1 r'.1 x.rest in
    ap (λ m. Idle m i) x.value ∙ ap (Idle w') y.value
same_payload Rest Rest r r' k e = refl
same_payload f g r r' k e = absurd cc

-- a complete payload, and the bytes after it
pub split_alike : (x y a b : List ℕ) → length x ≡ length y → x ++ a ≡ y ++ b → Same x y a b
split_alike x y a b l e =
    record { value = sym (take_at x a (length x) refl) ∙ ap (take (length x)) e ∙ take_at y b (length x) (sym l); rest = sym (drop_at x a (length x) refl) ∙ ap (drop (length x)) e ∙ drop_at y b (length x) (sym l) }

-- no encoding is a prefix of another
pub same_frame : (f g : Frame) (a b : List ℕ) → IsRight f → IsRight g → FrameBytes f ++ a ≡ FrameBytes g ++ b → Same f g a b
same_frame f g a b r r' e =
    let k = kind_same (kind_of f) (kind_of g) (ap first_of (ap (drop 2) e)) in
    let n = same_16 (length (payload f)) (length (payload g)) (payload f ++ a) (payload g ++ b) (payload_short f r) (payload_short g r') (ap (drop 3) e) in
    let p = split_alike (payload f) (payload g) a b n.value n.rest in
    record { value = same_payload f g r r' k p.value; rest = p.rest }
  where
    first_of : List ℕ → ℕ
    first_of [] = 0
    first_of (x ∷ xs) = x

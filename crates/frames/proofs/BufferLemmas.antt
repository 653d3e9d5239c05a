-- A buffer is filled up to the end of its frame.
use Rattle.std.proofs.Common.{◌≡◌, ℕ, zero, suc, ◌+◌, ◌<◌, ◌≤◌, min, List, [], ◌∷◌, ◌++◌, length, take, drop, refl, sym, ap, subst, ◌∙◌, arith, length-append, length-take, length-drop, append_assoc}
use Rattle.std.proofs.lemmas.List.{take-append-drop, append-nil, take_all, take_at}
use Rattle.frames.specs.declared.fault.FrameFault.{FrameFault}
use Rattle.frames.specs.declared.frame.Kind.{Kind}
use Rattle.frames.specs.declared.header.Header.{Header}
use Rattle.frames.specs.declared.header.Header.TheVariants.{Short, Wrong, Whole}
use Rattle.frames.specs.Stream.{header_of, Ends, EndsAfter, Open, Fault, End}
use Rattle.frames.specs.inner.Buffer.{missing_by, missing, LengthWithin, WithinFrame, Fills}
use Rattle.frames.specs.declared.frame.Frame.{Frame}
use Rattle.frames.specs.WireFormat.{FrameBytes, payload, kind_of}
use Rattle.frames.specs.Stream.{Splits, Begins, Stream}
use Rattle.frames.proofs.Payloads.{head_again}
use Rattle.frames.proofs.Streams.{ends_more, splits_one, splits_then}
use Rattle.frames.proofs.Headers.{head_more, head_short, head_limit, limit_of}

-- what more bytes do not change in a header
record Stays (b x : List ℕ) (h : Header) : Type 0 where
  pub now : header_of (b ++ x) ≡ h

wrong_stays : (b x : List ℕ) (f : FrameFault) → header_of b ≡ Wrong f → header_of (b ++ x) ≡ Wrong f
wrong_stays b x f e = head_more b x (λ s. let t : Wrong f ≡ Short = sym e ∙ s in cc) ∙ e

whole_stays : (b x : List ℕ) (k : Kind) (n : ℕ) → header_of b ≡ Whole k n → header_of (b ++ x) ≡ Whole k n
whole_stays b x k n e = head_more b x (λ s. let t : Whole k n ≡ Short = sym e ∙ s in cc) ∙ e

-- at most five bytes do not go beyond the end of their frame
few : (b : List ℕ) → length b ≤ 5 → WithinFrame b
few b le = by_head (header_of b) refl
  where
    by_head : (h : Header) → header_of b ≡ h → LengthWithin h (length b)
    by_head Short e = head_short b e
    by_head (Wrong f) e = le
    by_head (Whole k n) e = (omega arith, limit_of k n (head_limit b k n e).0)

count_of : (b x : List ℕ) (m : ℕ) → m ≤ length x → length (b ++ take m x) ≡ length b + m
count_of b x m le = omega (arith, length-append b (take m x), length-take m x)

-- no more bytes are appended than are missing
pub step_within : (b x b' : List ℕ) (m : ℕ) → WithinFrame b → m ≡ min (missing b) (length x) → b' ≡ b ++ take m x → WithinFrame b'
step_within b x b' m within count now = subst WithinFrame (sym now) (by_head (header_of b) refl within count)
  where
    by_head : (h : Header) → header_of b ≡ h → LengthWithin h (length b) → m ≡ min (missing_by h (length b)) (length x) → WithinFrame (b ++ take m x)
    by_head Short e w c = few (b ++ take m x) (omega (arith, c, w, count_of b x m (omega (arith, c))))
    by_head (Wrong f) e w c = subst (λ h. LengthWithin h (length (b ++ take m x))) (sym (wrong_stays b (take m x) f e)) (omega (arith, c, w, count_of b x m (omega (arith, c))))
    by_head (Whole k n) e w c = subst (λ h. LengthWithin h (length (b ++ take m x))) (sym (whole_stays b (take m x) k n e)) (omega (arith, c, w.0, count_of b x m (omega (arith, c))), w.1)

-- the missing bytes do not go beyond the longest frame
pub lacks_fit : (b : List ℕ) → WithinFrame b → length b + missing b ≤ 4037
lacks_fit b within = by_head (header_of b) within
  where
    by_head : (h : Header) → LengthWithin h (length b) → length b + missing_by h (length b) ≤ 4037
    by_head Short w = omega arith
    by_head (Wrong f) w = omega arith
    by_head (Whole k n) w = omega (arith, w.0, w.1)

take_both : (h p : ℕ) (x : List ℕ) → h ≤ length x → take (h + p) x ≡ take h x ++ take p (drop h x)
take_both zero p x le = let e : zero + p ≡ p = omega arith in ap (λ n. take n x) e
take_both (suc h) p [] le = absurd (omega arith)
take_both (suc h) p (y ∷ x) le =
    let e : suc h + p ≡ suc (h + p) = omega arith in
    let l : h ≤ length x = omega arith in
    ap (λ n. take n (y ∷ x)) e ∙ ap (λ (z : List ℕ). y ∷ z) (take_both h p x l)

-- an open rest does not go beyond the end of its frame
pub open_within : (b : List ℕ) → Ends b Open → WithinFrame b
open_within b still = by_head (header_of b) refl still
  where
    by_head : (h : Header) → header_of b ≡ h → EndsAfter h b Open → LengthWithin h (length b)
    by_head Short e s = head_short b e
    by_head (Wrong f) e s = absurd (let q : Open ≡ Fault f = s in cc)
    by_head (Whole k n) e s = (omega arith, limit_of k n (head_limit b k n e).0)

pub fills : (b x b1 b2 : List ℕ) (h p : ℕ) → Ends b Open → h ≡ min (missing b) (length x) → b1 ≡ b ++ take h x → p ≡ min (missing b1) (length (drop h x)) → b2 ≡ b1 ++ take p (drop h x) → Fills b x b2 (h + p)
fills b x b1 b2 h p still count1 now1 count2 now2 =
    let within = open_within b still in
    let in_piece : h ≤ length x = omega (arith, count1) in
    record {
      within_piece = omega (arith, count1, count2, length-drop h x);
      now = now2 ∙ ap (λ (y : List ℕ). y ++ take p (drop h x)) now1 ∙ append_assoc b (take h x) (take p (drop h x)) ∙ ap (λ (y : List ℕ). b ++ y) (sym (take_both h p x in_piece));
      within_frame = step_within b1 (drop h x) b2 p (step_within b x b1 h within count1 now1) count2 now2;
      all = λ more. by_head (header_of b1) refl more;
    }
  where
    -- if the header is incomplete after the first step, that step has taken the whole piece
    all_short : (g : Header) → LengthWithin g (length b) → EndsAfter g b Open → h ≡ min (missing_by g (length b)) (length x) → header_of b ≡ g → header_of b1 ≡ Short → h ≡ length x
    all_short Short w s c e short = omega (arith, c, w, head_short b1 short, ap length now1, count_of b x h (omega (arith, c)))
    all_short (Wrong f) w s c e short = absurd (let q : Open ≡ Fault f = s in cc)
    all_short (Whole k n) w s c e short = absurd (let stays : Whole k n ≡ Short = sym (whole_stays b (take h x) k n e) ∙ sym (ap header_of now1) ∙ short in cc)

    by_head : (g : Header) → header_of b1 ≡ g → Ends b2 Open → h + p ≡ length x
    by_head Short e more = omega (arith, all_short (header_of b) (open_within b still) still count1 refl e, count2, length-drop h x)
    by_head (Wrong f) e more =
        let stays : header_of b2 ≡ Wrong f = ap header_of now2 ∙ wrong_stays b1 (take p (drop h x)) f e in
        let faulty : Open ≡ Fault f = subst (λ g. EndsAfter g b2 Open) stays more in
        absurd cc
    by_head (Whole k n) e more =
        let stays : header_of b2 ≡ Whole k n = ap header_of now2 ∙ whole_stays b1 (take p (drop h x)) k n e in
        let short : length b2 < 5 + n = subst (λ g. EndsAfter g b2 Open) stays more in
        let c : p ≡ min (missing_by (Whole k n) (length b1)) (length (drop h x)) = subst (λ g. p ≡ min (missing_by g (length b1)) (length (drop h x))) e count2 in
        omega (arith, c, count1, length-drop h x, ap length now2, count_of b1 (drop h x) p (omega (arith, c)))

-- ---- the frame that the buffer begins

all_of_it : (b x new : List ℕ) (t : ℕ) → Fills b x new t → b ++ x ≡ new ++ drop t x
all_of_it b x new t f = ap (λ (y : List ℕ). b ++ y) (sym (take-append-drop t x)) ∙ sym (append_assoc b (take t x) (drop t x)) ∙ ap (λ (y : List ℕ). y ++ drop t x) (sym f.now)

pub filled_fault : (b x new : List ℕ) (t : ℕ) (f : FrameFault) → Fills b x new t → Ends new (Fault f) → Ends (b ++ x) (Fault f)
filled_fault b x new t f filled e = subst (λ y. Ends y (Fault f)) (sym (all_of_it b x new t filled)) (ends_more new (drop t x) f e)

pub filled_open : (b x new : List ℕ) (t : ℕ) → Fills b x new t → Ends new Open → new ≡ b ++ x
filled_open b x new t filled still = filled.now ∙ ap (λ n. b ++ take n x) (filled.all still) ∙ ap (λ (y : List ℕ). b ++ y) (take_all (length x) x (omega arith))

nothing : (xs : List ℕ) → length xs ≡ 0 → xs ≡ []
nothing [] h = refl
nothing (x ∷ xs) h = absurd (omega arith)

pub filled_frame : (b x new : List ℕ) (t : ℕ) (f : Frame) (rest : List ℕ) → Fills b x new t → Begins new f rest → Begins (b ++ x) f (drop t x)
filled_frame b x new t f rest filled begins =
    let within : WithinFrame (FrameBytes f ++ rest) = subst WithinFrame begins.whole filled.within_frame in
    let ends : LengthWithin (Whole (kind_of f) (length (payload f))) (length (FrameBytes f ++ rest)) = subst (λ h. LengthWithin h (length (FrameBytes f ++ rest))) (head_again f rest begins.right) within in
    let none : rest ≡ [] = nothing rest (omega (arith, ends.0, length-append (payload f) rest)) in
    record { whole = all_of_it b x new t filled ∙ ap (λ (y : List ℕ). y ++ drop t x) (begins.whole ∙ ap (λ (y : List ℕ). FrameBytes f ++ y) none ∙ append-nil (FrameBytes f)); right = begins.right }

pub filled_front : (b x new : List ℕ) (t : ℕ) → Fills b x new t → take (length b) new ≡ b
filled_front b x new t filled = ap (take (length b)) filled.now ∙ take_at b (take t x) (length b) refl

-- ---- reading goes on

pub one_more : (a : List ℕ) (fs : List Frame) (r : List ℕ) (f : Frame) (s : List ℕ) → Splits a fs r → Begins r f s → Splits a (fs ++ f ∷ []) s
one_more a fs r f s p q = subst (λ x. Splits x (fs ++ f ∷ []) s) (append-nil a) (splits_then a fs r [] (f ∷ []) s p (subst (λ x. Splits x (f ∷ []) s) (sym (append-nil r)) (splits_one r f s q)))

pub front_splits : (a : List ℕ) (f : Frame) (r : List ℕ) (gs : List Frame) (s : List ℕ) → Begins a f r → Splits r gs s → Splits a (f ∷ gs) s
front_splits a f r gs s p q = subst (λ x. Splits x (f ∷ gs) s) (append-nil a) (splits_then a (f ∷ []) r [] gs s (splits_one a f r p) (subst (λ x. Splits x gs s) (sym (append-nil r)) q))

pub front_stream : (a : List ℕ) (f : Frame) (r : List ℕ) (gs : List Frame) (e : End) → Begins a f r → Stream r gs e → Stream a (f ∷ gs) e
front_stream a f r gs e p s = (s.0, front_splits a f r gs s.0 p s.1, s.2)

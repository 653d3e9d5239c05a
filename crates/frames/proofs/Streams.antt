-- Streams: one reading, and how a stream goes on.
use Rattle.std.proofs.Common.{◌≡◌, ℕ, ◌+◌, ◌≤◌, List, [], ◌∷◌, ◌++◌, length, take, drop, refl, sym, ap, subst, ◌∙◌, arith, length-append, length-take, length-drop, append_assoc}
use Rattle.std.specs.Int.{w16, to_be_bytes}
use Rattle.std.specs.List.{flat_map, AllByRecursion}
use Rattle.std.proofs.lemmas.List.{take-append-drop, take-append-le, take_at, append-nil}
use Rattle.std.proofs.lemmas.List.Concat.{flat_map-cons}
use Rattle.std.proofs.lemmas.Grind.{flat_map-append}
use Rattle.std.proofs.lemmas.List.Elements.{All-from_recursion, recursion_from_All}
use Rattle.frames.specs.declared.fault.FrameFault.{FrameFault}
use Rattle.frames.specs.declared.fault.FrameFault.TheVariants.{BadField}
use Rattle.frames.specs.declared.frame.Frame.{Frame}
use Rattle.frames.specs.declared.frame.Kind.{Kind}
use Rattle.frames.specs.declared.header.Header.{Header}
use Rattle.frames.specs.declared.header.Header.TheVariants.{Short, Wrong, Whole}
use Rattle.frames.specs.WireFormat.{mark, kind_number, kind_of, payload, FrameBytes, IsRight}
use Rattle.frames.specs.Stream.{header_of, End, Open, Fault, EndsAfter, Ends, Splits, Stream, Begins, BeginsNoFrame}
use Rattle.frames.specs.inner.Decoder.{IsPayloadOf}
use Rattle.frames.proofs.FieldLemmas.{IsBytes}
use Rattle.frames.proofs.Payloads.{head_again, same_frame}
use Rattle.frames.proofs.Headers.{head_more, head_whole}

-- of two prefixes of one list, the shorter is a prefix of the longer
front_of : (x y a b : List ℕ) → x ++ a ≡ y ++ b → length y ≤ length x → x ≡ y ++ drop (length y) x
front_of x y a b e le =
    sym (take-append-drop (length y) x) ∙ ap (λ (z : List ℕ). z ++ drop (length y) x) (sym (take-append-le (length y) x a le) ∙ ap (take (length y)) e ∙ take_at y b (length y) refl)

-- ---- a stream has one reading

ends_after_one : (h : Header) (b : List ℕ) (d e : End) → EndsAfter h b d → EndsAfter h b e → d ≡ e
ends_after_one Short b d e p q = p ∙ sym q
ends_after_one (Wrong f) b d e p q = p ∙ sym q
ends_after_one (Whole k n) b Open Open p q = refl
ends_after_one (Whole k n) b (Fault f) (Fault g) p q = ap Fault (p.0 ∙ sym q.0)
ends_after_one (Whole k n) b Open (Fault g) p q = absurd (omega (arith, q.1))
ends_after_one (Whole k n) b (Fault f) Open p q = absurd (omega (arith, p.1))

length-frame : (f : Frame) (rest : List ℕ) → length (FrameBytes f ++ rest) ≡ 5 + length (payload f) + length rest
length-frame f rest = omega (arith, length-append (payload f) rest)

frame_not_ends : (f : Frame) (rest : List ℕ) (e : End) → IsRight f → Ends (FrameBytes f ++ rest) e → ⊥
frame_not_ends f rest e right ends = at_end e (subst (λ h. EndsAfter h (FrameBytes f ++ rest) e) (head_again f rest right) ends)
  where
    at_end : (e : End) → EndsAfter (Whole (kind_of f) (length (payload f))) (FrameBytes f ++ rest) e → ⊥
    at_end Open p = omega (arith, length-frame f rest)
    at_end (Fault g) p = p.2 f rest right refl

-- the end of a stream begins with no frame
pub ends_begin_none : (b : List ℕ) (e : End) → Ends b e → BeginsNoFrame b
ends_begin_none b e ends f rest right is = frame_not_ends f rest e right (subst (λ x. Ends x e) is ends)

same_stream : (fs gs : List Frame) (r s : List ℕ) (d e : End) → AllByRecursion IsRight fs → AllByRecursion IsRight gs → flat_map FrameBytes fs ++ r ≡ flat_map FrameBytes gs ++ s → Ends r d → Ends s e → (fs ≡ gs) × (d ≡ e)
same_stream [] [] r s d e hf hg same p q = (refl, ends_after_one (header_of r) r d e p (subst (λ b. Ends b e) (sym same) q))
same_stream [] (g ∷ gs) r s d e hf hg same p q =
    absurd (frame_not_ends g (flat_map FrameBytes gs ++ s) d hg.0 (subst (λ b. Ends b d) (same ∙ ap (λ (x : List ℕ). x ++ s) (flat_map-cons FrameBytes g gs) ∙ append_assoc (FrameBytes g) (flat_map FrameBytes gs) s) p))
same_stream (f ∷ fs) [] r s d e hf hg same p q =
    absurd (frame_not_ends f (flat_map FrameBytes fs ++ r) e hf.0 (subst (λ b. Ends b e) (sym same ∙ ap (λ (x : List ℕ). x ++ r) (flat_map-cons FrameBytes f fs) ∙ append_assoc (FrameBytes f) (flat_map FrameBytes fs) r) q))
same_stream (f ∷ fs) (g ∷ gs) r s d e hf hg same p q =
    let left = ap (λ (x : List ℕ). x ++ r) (flat_map-cons FrameBytes f fs) ∙ append_assoc (FrameBytes f) (flat_map FrameBytes fs) r in
    let right = ap (λ (x : List ℕ). x ++ s) (flat_map-cons FrameBytes g gs) ∙ append_assoc (FrameBytes g) (flat_map FrameBytes gs) s in
    let one = same_frame f g (flat_map FrameBytes fs ++ r) (flat_map FrameBytes gs ++ s) hf.0 hg.0 (sym left ∙ same ∙ right) in
    let others = same_stream fs gs r s d e hf.1 hg.1 one.rest p q in
    (ap (λ x. x ∷ fs) one.value ∙ ap (λ (xs : List Frame). g ∷ xs) others.0, others.1)

pub one_stream : (bytes : List ℕ) (fs gs : List Frame) (d e : End) → Stream bytes fs d → Stream bytes gs e → (fs ≡ gs) × (d ≡ e)
one_stream bytes fs gs d e p q = same_stream fs gs p.0 q.0 d e (recursion_from_All IsRight fs p.1.right) (recursion_from_All IsRight gs q.1.right) (sym p.1.whole ∙ q.1.whole) p.2 q.2

-- ---- a fault stays

pub ends_more : (b x : List ℕ) (f : FrameFault) → Ends b (Fault f) → Ends (b ++ x) (Fault f)
ends_more b x f p = by_head (header_of b) refl p
  where
    by_head : (h : Header) → header_of b ≡ h → EndsAfter h b (Fault f) → Ends (b ++ x) (Fault f)
    by_head Short e p = absurd (let q : Fault f ≡ Open = p in cc)
    by_head (Wrong g) e p =
        let stays : header_of (b ++ x) ≡ Wrong g = head_more b x (λ s. let t : Wrong g ≡ Short = sym e ∙ s in cc) ∙ e in
        subst (λ h. EndsAfter h (b ++ x) (Fault f)) (sym stays) p
    by_head (Whole k n) e p =
        let stays : header_of (b ++ x) ≡ Whole k n = head_more b x (λ s. let t : Whole k n ≡ Short = sym e ∙ s in cc) ∙ e in
        subst (λ h. EndsAfter h (b ++ x) (Fault f)) (sym stays) (
          p.0,
          omega (arith, p.1, length-append b x),
          λ g rest right same.
              let whole : Whole k n ≡ Whole (kind_of g) (length (payload g)) = sym stays ∙ ap header_of same ∙ head_again g rest right in
              let n_is : n ≡ length (payload g) = cc in
              p.2 g (drop (length (FrameBytes g)) b) right (front_of b (FrameBytes g) x rest same (omega (arith, p.1))),
        )

-- ---- a stream goes on

all_append : (fs gs : List Frame) → AllByRecursion IsRight fs → AllByRecursion IsRight gs → AllByRecursion IsRight (fs ++ gs)
all_append [] gs p q = q
all_append (f ∷ fs) gs p q = (p.0, all_append fs gs p.1 q)

pub splits_none : (b : List ℕ) → Splits b [] b
splits_none b = record { whole = refl; right = All-from_recursion IsRight [] tt }

pub splits_one : (b : List ℕ) (f : Frame) (rest : List ℕ) → Begins b f rest → Splits b (f ∷ []) rest
splits_one b f rest p = record { whole = p.whole ∙ ap (λ (x : List ℕ). x ++ rest) (sym (append-nil (FrameBytes f)) ∙ sym (flat_map-cons FrameBytes f [])); right = All-from_recursion IsRight (f ∷ []) (p.right, tt) }

-- the rest of one stream, with more bytes after it, is the next stream
pub splits_then : (a : List ℕ) (fs : List Frame) (r more : List ℕ) (gs : List Frame) (s : List ℕ) → Splits a fs r → Splits (r ++ more) gs s → Splits (a ++ more) (fs ++ gs) s
splits_then a fs r more gs s p q =
    record {
      whole = ap (λ (x : List ℕ). x ++ more) p.whole ∙ append_assoc (flat_map FrameBytes fs) r more ∙ ap (λ (x : List ℕ). flat_map FrameBytes fs ++ x) q.whole
          ∙ sym (append_assoc (flat_map FrameBytes fs) (flat_map FrameBytes gs) s) ∙ ap (λ (x : List ℕ). x ++ s) (sym (flat_map-append FrameBytes fs gs));
      right = All-from_recursion IsRight (fs ++ gs) (all_append fs gs (recursion_from_All IsRight fs p.right) (recursion_from_All IsRight gs q.right));
    }

pub stream_then : (a : List ℕ) (fs : List Frame) (r more : List ℕ) (gs : List Frame) (e : End) → Splits a fs r → Stream (r ++ more) gs e → Stream (a ++ more) (fs ++ gs) e
stream_then a fs r more gs e p q = (q.0, splits_then a fs r more gs q.0 p q.1, q.2)

-- what follows a fault changes nothing
pub stream_more : (a : List ℕ) (fs : List Frame) (f : FrameFault) (more : List ℕ) → Stream a fs (Fault f) → Stream (a ++ more) (fs ++ []) (Fault f)
stream_more a fs f more p = (p.0 ++ more, splits_then a fs p.0 more [] (p.0 ++ more) p.1 (splits_none (p.0 ++ more)), ends_more p.0 more f p.2)

-- ---- the first frame

pub first_whole : (b : List ℕ) (k : Kind) (n : ℕ) (f : Frame) → IsBytes b → header_of b ≡ Whole k n → 5 + n ≤ length b → IsPayloadOf k (take n (drop 5 b)) f → Begins b f (drop n (drop 5 b))
first_whole b k n f fits head long c =
    let h = head_whole b k n fits head in
    let p = take n (drop 5 b) in
    let len : n ≡ length (payload f) = sym (ap length c.payload_is ∙ omega (arith, length-take n (drop 5 b), length-drop 5 b)) in
    let start : List ℕ → List ℕ = λ x. mark ∷ mark ∷ kind_number k ∷ to_be_bytes w16 n ++ x in
    record {
      whole = h.bytes ∙ ap start (sym (take-append-drop n (drop 5 b))) ∙ ap (λ x. start (x ++ drop n (drop 5 b))) (sym c.payload_is)
          ∙ ap (λ m. mark ∷ mark ∷ kind_number k ∷ to_be_bytes w16 m ++ (payload f ++ drop n (drop 5 b))) len
          ∙ ap (λ q. mark ∷ mark ∷ kind_number q ∷ to_be_bytes w16 (length (payload f)) ++ (payload f ++ drop n (drop 5 b))) (sym c.kind_is);
      right = c.right;
    }

pub first_bad : (b : List ℕ) (k : Kind) (n : ℕ) → header_of b ≡ Whole k n → 5 + n ≤ length b → ((f : Frame) → IsPayloadOf k (take n (drop 5 b)) f → ⊥) → Ends b (Fault BadField)
first_bad b k n head long none =
    subst (λ h. EndsAfter h b (Fault BadField)) (sym head) (
      refl,
      long,
      λ g rest right same.
          let whole : Whole (kind_of g) (length (payload g)) ≡ Whole k n = sym (head_again g rest right) ∙ sym (ap header_of same) ∙ head in
          let k_is : kind_of g ≡ k = cc in
          let n_is : length (payload g) ≡ n = cc in
          let behind : drop 5 b ≡ payload g ++ rest = ap (drop 5) same in
          none g (record { kind_is = k_is; payload_is = sym (ap (take n) behind ∙ take_at (payload g) rest n n_is); right = right }),
    )

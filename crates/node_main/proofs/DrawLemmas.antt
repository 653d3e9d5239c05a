-- Words that are drawn three by three.
use Rattle.std.proofs.Common.{◌≡◌, ℕ, zero, suc, List, [], ◌∷◌, ◌++◌, ◌∙◌, ap, refl, sym, subst, append_assoc, append-nil}
use Rattle.std.specs.List.{concat}
use Rattle.rand_core.specs.Steps.{first_words, stream_of, steps_u64_high}
use Rattle.rand_core.specs.Stream.{Stream, next_u64}

-- the next n words of a stream
abbrev pub stream_words : ℕ → Stream → List ℕ
stream_words zero s = []
stream_words (suc n) s = (next_u64 s).0 ∷ stream_words n (next_u64 s).1

-- the words of a generator's stream are the words of its steps
pub stream_words-first : {S : Type 0} (step : S → ℕ × S) (n : ℕ) (s : S)
    → stream_words n (stream_of (steps_u64_high step) s) ≡ first_words step n s
unfolding stream_of next_u64 first_words
stream_words-first step zero s = refl
stream_words-first step (suc n) s = ap (λ ws. (step s).0 ∷ ws) (stream_words-first step n (step s).1)

pub concat_more : (drawn : List (List ℕ)) (words : List ℕ) → concat (drawn ++ words ∷ []) ≡ concat drawn ++ words
concat_more [] words = append-nil words
concat_more (first ∷ drawn) words = ap (λ ws. first ++ ws) (concat_more drawn words) ∙ sym (append_assoc first (concat drawn) words)

-- three more words, and those that are left
three_drawn : (a b c n : ℕ) (s t u v : Stream) → (a, t) ≡ next_u64 s → (b, u) ≡ next_u64 t → (c, v) ≡ next_u64 u
    → a ∷ b ∷ c ∷ stream_words n v ≡ stream_words (suc (suc (suc n))) s
three_drawn a b c n s t u v one two three =
    let last : c ∷ stream_words n v ≡ stream_words (suc n) u = ap (λ (p : ℕ × Stream). p.0 ∷ stream_words n p.1) three in
    let later : b ∷ c ∷ stream_words n v ≡ stream_words (suc (suc n)) t = ap (λ ws. b ∷ ws) last ∙ ap (λ (p : ℕ × Stream). p.0 ∷ stream_words (suc n) p.1) two in
    ap (λ ws. a ∷ ws) later ∙ ap (λ (p : ℕ × Stream). p.0 ∷ stream_words (suc (suc n)) p.1) one

pub turn_drawn : (drawn : List (List ℕ)) (a b c n k : ℕ) (s t u v : Stream) (all : List ℕ) → n ≡ suc (suc (suc k)) → concat drawn ++ stream_words n s ≡ all
    → (a, t) ≡ next_u64 s → (b, u) ≡ next_u64 t → (c, v) ≡ next_u64 u → concat (drawn ++ (a ∷ b ∷ c ∷ []) ∷ []) ++ stream_words k v ≡ all
turn_drawn drawn a b c n k s t u v all left so one two three =
    let whole : concat drawn ++ stream_words (suc (suc (suc k))) s ≡ all = subst (λ (m : ℕ). concat drawn ++ stream_words m s ≡ all) left so in
    ap (λ ws. ws ++ stream_words k v) (concat_more drawn (a ∷ b ∷ c ∷ []))
    ∙ (append_assoc (concat drawn) (a ∷ b ∷ c ∷ []) (stream_words k v) ∙ (ap (λ ws. concat drawn ++ ws) (three_drawn a b c k s t u v one two three) ∙ whole))

-- no word is left
pub all_drawn : (drawn : List (List ℕ)) (n : ℕ) (s : Stream) (all : List ℕ) → n ≡ 0 → concat drawn ++ stream_words n s ≡ all → concat drawn ≡ all
all_drawn drawn n s all none so =
    let whole : concat drawn ++ [] ≡ all = subst (λ (m : ℕ). concat drawn ++ stream_words m s ≡ all) none so in
    sym (append-nil (concat drawn)) ∙ whole

-- Reading the rows of a text, one after the other.
use Rattle.std.proofs.Common.{◌≡◌, ℕ, ◌+◌, ◌<◌, ◌≤◌, List, [], ◌∷◌, Option, Some, None, Result, Ok, Err, length, refl, sym, ◌∙◌, arith, subst, IfSome, inl, inr}
use Rattle.std.specs.Borrow.{Bor}
use Rattle.std.specs.List.{flat_map}
use Rattle.dimacs.specs.logic.Limits.{Limits}
use Rattle.dimacs.specs.text.Rows.{Format, Answers, AreRows, Fails, by_tokens, read_lines, read_text, read_words, ◌>>=◌}
use Rattle.dimacs.specs.text.Words.{words, words_of}
use Rattle.dimacs.specs.inner.Words.{left_len}

-- what is left is less
pub left_shorter : (o : Option (Bor (List ℕ))) (n : ℕ) → IfSome o (λ rest. length rest.now < n) → left_len o ≤ n
left_shorter None n h = omega arith
left_shorter (Some rest) n h = omega (arith, h)

-- what fails for another reason than memory
pub fails_by : {A B E : Type 0} (none f : E) (first : Result A E) (all : Result B E) → (first ≡ Err f → all ≡ Err f) → Fails none f first → Fails none f all
fails_by none f first all goes (inl e) = inl e
fails_by none f first all goes (inr e) = inr (goes e)

pub answers_same : {A E : Type 0} (none : E) (r all all' : Result A E) → all ≡ all' → Answers none r all → Answers none r all'
answers_same {A = A} {E = E} none r all all' e h = subst (λ (x : Result A E). Answers none r x) e h

pub answers_itself : {A E : Type 0} (none : E) (r : Result A E) → Answers none r r
answers_itself none (Ok x) = refl
answers_itself none (Err f) = inr refl

pub bind_ok : {A B E : Type 0} (r : Result A E) (f : A → Result B E) (y : B) → (r >>= f) ≡ Ok y → (x : A) × (r ≡ Ok x) × (f x ≡ Ok y)
bind_ok (Ok x) f y h = (x, refl, h)
bind_ok (Err e) f y h = absurd (cc)

module _ {S V E : Type 0} (format : Format S V E) where
  -- ---- the tokens of a line

  pub words_more : (line : ℕ) (ws more : List (List ℕ)) (w : List ℕ) (s next : S) → ws ≡ w ∷ more → format.token line w s ≡ Ok next → read_words format line ws s ≡ read_words format line more next
  unfolding read_words
  words_more line ws more w s next e h = rw (e, h) refl

  pub words_end : (line : ℕ) (ws : List (List ℕ)) (s : S) → ws ≡ [] → read_words format line ws s ≡ Ok s
  unfolding read_words
  words_end line ws s e = rw e refl

  words_fault : (line : ℕ) (ws more : List (List ℕ)) (w : List ℕ) (s : S) (f : E) → ws ≡ w ∷ more → format.token line w s ≡ Err f → read_words format line ws s ≡ Err f
  unfolding read_words
  words_fault line ws more w s f e h = rw (e, h) refl

  pub words_fails : (none : E) (line : ℕ) (ws more : List (List ℕ)) (w : List ℕ) (s : S) (f : E) (all : Result S E) → ws ≡ w ∷ more → read_words format line ws s ≡ all → Fails none f (format.token line w s) → Fails none f all
  words_fails none line ws more w s f all e so_far h = fails_by none f (format.token line w s) all (λ is. sym so_far ∙ words_fault line ws more w s f e is) h

  -- ---- the lines after the header

  pub lines_more : (n : ℕ) (ls more : List (List ℕ)) (line : List ℕ) (s next : S) → ls ≡ line ∷ more → read_words format (n + 1) (words_of line) s ≡ Ok next → read_lines format n ls s ≡ read_lines format (n + 1) more next
  unfolding read_lines
  lines_more n ls more line s next e h = rw (e, h) refl

  pub lines_end : (n : ℕ) (ls : List (List ℕ)) (s : S) → ls ≡ [] → read_lines format n ls s ≡ format.finish n s
  unfolding read_lines
  lines_end n ls s e = rw e refl

  lines_fault : (n : ℕ) (ls more : List (List ℕ)) (line : List ℕ) (s : S) (f : E) → ls ≡ line ∷ more → read_words format (n + 1) (words_of line) s ≡ Err f → read_lines format n ls s ≡ Err f
  unfolding read_lines
  lines_fault n ls more line s f e h = rw (e, h) refl

  pub lines_fails : (none : E) (n : ℕ) (ls more : List (List ℕ)) (line : List ℕ) (s : S) (f : E) (all : Result V E) → ls ≡ line ∷ more → read_lines format n ls s ≡ all → Fails none f (read_words format (n + 1) (words_of line) s) → Fails none f all
  lines_fails none n ls more line s f all e so_far h = fails_by none f (read_words format (n + 1) (words_of line) s) all (λ is. sym so_far ∙ lines_fault n ls more line s f e is) h

  -- ---- the text

  pub text_end : (L : Limits) (n : ℕ) (ls : List (List ℕ)) → ls ≡ [] → read_text format L n ls ≡ Err (format.no_header n)
  unfolding read_text
  text_end L n ls e = rw e refl

  pub text_blank : (L : Limits) (n : ℕ) (ls more : List (List ℕ)) (line : List ℕ) → ls ≡ line ∷ more → words_of line ≡ [] → read_text format L n ls ≡ read_text format L (n + 1) more
  unfolding read_text
  text_blank L n ls more line e h = rw (e, h) refl

  text_by : (L : Limits) (n : ℕ) (ls more : List (List ℕ)) (line : List ℕ) (ws : List (List ℕ)) → ls ≡ line ∷ more → words_of line ≡ ws → 0 < length ws → read_text format L n ls ≡ (format.header L (n + 1) ws >>= read_lines format (n + 1) more)
  unfolding read_text
  text_by L n ls more line [] e h some = absurd (omega arith)
  text_by L n ls more line (w ∷ ws) e h some = rw (e, h) refl

  -- the header, and what stands after it
  text_row : (L : Limits) (n : ℕ) (ls more : List (List ℕ)) (line : List ℕ) → ls ≡ line ∷ more → (0 < length (words_of line)) × (words_of line ≡ words line) → read_text format L n ls ≡ (format.header L (n + 1) (words line) >>= read_lines format (n + 1) more)
  text_row L n ls more line e some = text_by L n ls more line (words line) e some.1 (subst (λ (ws : List (List ℕ)). 0 < length ws) some.1 some.0)

  pub text_header : (L : Limits) (n : ℕ) (ls more : List (List ℕ)) (line : List ℕ) (s : S) → ls ≡ line ∷ more → (0 < length (words_of line)) × (words_of line ≡ words line) → format.header L (n + 1) (words line) ≡ Ok s
      → read_text format L n ls ≡ read_lines format (n + 1) more s
  text_header L n ls more line s e some is = text_row L n ls more line e some ∙ rw is refl

  pub text_fails : (L : Limits) (none : E) (n : ℕ) (ls more : List (List ℕ)) (line : List ℕ) (f : E) (all : Result V E) → ls ≡ line ∷ more → (0 < length (words_of line)) × (words_of line ≡ words line) → read_text format L n ls ≡ all
      → Fails none f (format.header L (n + 1) (words line)) → Fails none f all
  text_fails L none n ls more line f all e some so_far h = fails_by none f (format.header L (n + 1) (words line)) all (λ is. sym so_far ∙ text_row L n ls more line e some ∙ rw is refl) h

  -- ---- what is read is spelled, and what is spelled is read

  module _ (L : Limits) (IsHeader IsBody : List (List ℕ) → Type 0) (v : V) where
    row_spelled : (P : Type 0) (n : ℕ) (more ws : List (List ℕ)) → ((format.header L (n + 1) ws >>= read_lines format (n + 1) more) ≡ Ok v → P × IsHeader ws × IsBody (flat_map words_of more))
        → (read_text format L (n + 1) more ≡ Ok v → P × AreRows IsHeader IsBody more)
        → by_tokens ws (read_text format L (n + 1) more) (λ header. format.header L (n + 1) header >>= read_lines format (n + 1) more) ≡ Ok v
        → P × by_tokens ws (AreRows IsHeader IsBody more) (λ header. IsHeader header × IsBody (flat_map words_of more))
    row_spelled P n more [] here later e = later e
    row_spelled P n more (w ∷ ws) here later e = let h = here e in (h.0, (h.1, h.2))

    pub text_spelled : (P : Type 0) → ((n : ℕ) (ws more : List (List ℕ)) → (format.header L n ws >>= read_lines format n more) ≡ Ok v → P × IsHeader ws × IsBody (flat_map words_of more))
        → (n : ℕ) (ls : List (List ℕ)) → read_text format L n ls ≡ Ok v → P × AreRows IsHeader IsBody ls
    unfolding read_text
    text_spelled P here n [] e = absurd (cc)
    text_spelled P here n (line ∷ more) e = row_spelled P n more (words_of line) (here (n + 1) (words_of line) more) (text_spelled P here (n + 1) more) e

    spelled_row : (n : ℕ) (more ws : List (List ℕ)) → (IsHeader ws → IsBody (flat_map words_of more) → (format.header L (n + 1) ws >>= read_lines format (n + 1) more) ≡ Ok v)
        → (AreRows IsHeader IsBody more → read_text format L (n + 1) more ≡ Ok v)
        → by_tokens ws (AreRows IsHeader IsBody more) (λ header. IsHeader header × IsBody (flat_map words_of more))
        → by_tokens ws (read_text format L (n + 1) more) (λ header. format.header L (n + 1) header >>= read_lines format (n + 1) more) ≡ Ok v
    spelled_row n more [] here later s = later s
    spelled_row n more (w ∷ ws) here later s = here s.0 s.1

    pub spelled_text : ((n : ℕ) (ws more : List (List ℕ)) → IsHeader ws → IsBody (flat_map words_of more) → (format.header L n ws >>= read_lines format n more) ≡ Ok v)
        → (n : ℕ) (ls : List (List ℕ)) → AreRows IsHeader IsBody ls → read_text format L n ls ≡ Ok v
    unfolding read_text
    spelled_text here n [] s = absurd s
    spelled_text here n (line ∷ more) s = spelled_row n more (words_of line) (here (n + 1) (words_of line) more) (spelled_text here (n + 1) more) s

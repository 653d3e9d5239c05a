-- Which faults the reading of a text tells.
use Rattle.std.proofs.Common.{ℕ, ◌+◌, Bool, true, false, cond, List, [], ◌∷◌, Result, Ok, Err}
use Rattle.std.specs.Prelude.{IfErr}
use Rattle.dimacs.specs.logic.Limits.{Limits}
use Rattle.dimacs.specs.text.Rows.{Format, by_tokens, read_lines, read_text, read_words, ◌>>=◌}
use Rattle.dimacs.specs.text.Words.{words_of}

pub either_told : {A E : Type 0} (P : E → Type 0) (t : Bool) (r s : Result A E) → IfErr r P → IfErr s P → IfErr (cond t r s) P
either_told P true r s h k = h
either_told P false r s h k = k

pub bind_told : {A B E : Type 0} (P : E → Type 0) (r : Result A E) (f : A → Result B E) → IfErr r P → ((x : A) → IfErr (f x) P) → IfErr (r >>= f) P
bind_told P (Ok x) f h k = k x
bind_told P (Err e) f h k = h

-- each part of a format tells such faults alone
pub record AllFaults {S V E : Type 0} (format : Format S V E) (P : E → Type 0) : Type 0 where
  pub no_header : (n : ℕ) → P (format.no_header n)
  pub header : (L : Limits) (line : ℕ) (ws : List (List ℕ)) → IfErr (format.header L line ws) P
  pub token : (line : ℕ) (w : List ℕ) (s : S) → IfErr (format.token line w s) P
  pub finish : (n : ℕ) (s : S) → IfErr (format.finish n s) P

module _ {S V E : Type 0} (format : Format S V E) (P : E → Type 0) (all : AllFaults format P) where
  words_told : (line : ℕ) (ws : List (List ℕ)) (s : S) → IfErr (read_words format line ws s) P
  unfolding read_words
  words_told line [] s = tt
  words_told line (w ∷ ws) s = bind_told P (format.token line w s) (read_words format line ws) (all.token line w s) (λ c. words_told line ws c)

  lines_told : (n : ℕ) (ls : List (List ℕ)) (s : S) → IfErr (read_lines format n ls s) P
  unfolding read_lines
  lines_told n [] s = all.finish n s
  lines_told n (l ∷ ls) s = bind_told P (read_words format (n + 1) (words_of l) s) (read_lines format (n + 1) ls) (words_told (n + 1) (words_of l) s) (λ c. lines_told (n + 1) ls c)

  row_told : (L : Limits) (n : ℕ) (more ws : List (List ℕ)) → IfErr (read_text format L (n + 1) more) P → IfErr (by_tokens ws (read_text format L (n + 1) more) (λ header. format.header L (n + 1) header >>= read_lines format (n + 1) more)) P
  row_told L n more [] later = later
  row_told L n more (w ∷ ws) later = bind_told P (format.header L (n + 1) (w ∷ ws)) (read_lines format (n + 1) more) (all.header L (n + 1) (w ∷ ws)) (λ s. lines_told (n + 1) more s)

  pub text_told : (L : Limits) (n : ℕ) (ls : List (List ℕ)) → IfErr (read_text format L n ls) P
  unfolding read_text
  text_told L n [] = all.no_header n
  text_told L n (l ∷ ls) = row_told L n ls (words_of l) (text_told L (n + 1) ls)

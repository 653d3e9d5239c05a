-- A formula's text that comes in pieces.
use Rattle.std.proofs.Common.{◌≡◌, ℕ, ◌+◌, List, [], ◌∷◌, ◌++◌, ◌<◌, ◌==◌, false, Option, Some, None, Result, Ok, Err, length, refl, sym, ◌∙◌, ap, subst, append_assoc, inr}
use Rattle.std.proofs.lemmas.List.{append-nil}
use Rattle.std.proofs.lemmas.List.Elements.{All-append}
use Rattle.std.proofs.lemmas.List.Splits.{slice_split_at, slice_split_none}
use Rattle.dimacs.specs.declared.fault.DimacsFault.{DimacsFault}
use Rattle.dimacs.specs.logic.Cnf.{Cnf}
use Rattle.dimacs.specs.logic.Limits.{Limits}
use Rattle.dimacs.specs.inner.Pieces.{IsOpen, IsCut, TakesLine, RefusesLine, LeadsTo, RefusesText}
use Rattle.dimacs.specs.text.BodyState.{BodyState}
use Rattle.dimacs.specs.text.Pieces.{LinesRead, Within, Failed, read_on, HasReadWithin}
use Rattle.dimacs.specs.text.Parser.{format, no_memory, parse_within, GivesFormula}
use Rattle.dimacs.specs.text.Rows.{Answers, Fails, read_lines, read_text, read_words}
use Rattle.dimacs.specs.text.Words.{lines, words, words_of}
use Rattle.dimacs.proofs.RowLemmas.{answers_same, lines_end, lines_more, lines_fails, text_blank, text_end, text_fails, text_header}

abbrev pub lines_read : Limits → ℕ → Option BodyState → LinesRead
lines_read L n body = record { limits = L; count = n; body = body }

-- ---- the lines of bytes

lines_open : (line : List ℕ) → IsOpen line → lines line ≡ line ∷ []
lines_open line h = slice_split_none (λ b. b == 10) line h

lines_cut : (line rest : List ℕ) → IsOpen line → lines (line ++ 10 ∷ rest) ≡ line ∷ lines rest
lines_cut line rest h = slice_split_at (λ b. b == 10) line 10 rest h refl

-- ---- a line

-- after the header
pub row_taken : (L : Limits) (n number : ℕ) (s t : BodyState) (line : List ℕ) → number ≡ n + 1 → read_words format number (words_of line) s ≡ Ok t
    → TakesLine (record { limits = L; count = n; body = Some s }) line (record { limits = L; count = number; body = Some t })
row_taken L n number s t line e h = (refl, λ more. lines_more format n (line ∷ more) more line s t refl (subst (λ k. read_words format k (words_of line) s ≡ Ok t) e h) ∙ ap (λ k. read_lines format k more t) (sym e))

pub row_refused : (L : Limits) (n number : ℕ) (s : BodyState) (line : List ℕ) (fault : DimacsFault) → number ≡ n + 1 → Fails no_memory fault (read_words format number (words_of line) s)
    → RefusesLine (record { limits = L; count = n; body = Some s }) line fault
row_refused L n number s line fault e h = λ more.
    lines_fails format no_memory n (line ∷ more) more line s fault (read_lines format n (line ∷ more) s) refl refl (subst (λ k. Fails no_memory fault (read_words format k (words_of line) s)) e h)

-- without a token
pub blank_taken : (L : Limits) (n number : ℕ) (line : List ℕ) → number ≡ n + 1 → words_of line ≡ [] → TakesLine (record { limits = L; count = n; body = None }) line (record { limits = L; count = number; body = None })
blank_taken L n number line e h = (refl, λ more. text_blank format L n (line ∷ more) more line refl h ∙ ap (λ k. read_text format L k more) (sym e))

-- the header
pub header_taken : (L : Limits) (n number : ℕ) (s : BodyState) (line : List ℕ) → number ≡ n + 1 → (0 < length (words_of line)) × (words_of line ≡ words line)
    → Answers no_memory (Ok s) (format.header L number (words line))
    → TakesLine (record { limits = L; count = n; body = None }) line (record { limits = L; count = number; body = Some s })
header_taken L n number s line e some h = (
  refl,
  λ more. text_header format L n (line ∷ more) more line s refl some (subst (λ k. format.header L k (words line) ≡ Ok s) e h) ∙ ap (λ k. read_lines format k more s) (sym e),
)

pub header_refused : (L : Limits) (n number : ℕ) (line : List ℕ) (fault : DimacsFault) → number ≡ n + 1 → (0 < length (words_of line)) × (words_of line ≡ words line)
    → Fails no_memory fault (format.header L number (words line))
    → RefusesLine (record { limits = L; count = n; body = None }) line fault
header_refused L n number line fault e some h = λ more.
    text_fails format L no_memory n (line ∷ more) more line fault (read_text format L n (line ∷ more)) refl some refl (subst (λ k. Fails no_memory fault (format.header L k (words line))) e h)

-- ---- the end

pub body_ends : (L : Limits) (n : ℕ) (s : BodyState) (result : Result Cnf DimacsFault) → Answers no_memory result (format.finish n s) → GivesFormula result (read_on (record { limits = L; count = n; body = Some s }) [])
body_ends L n s result h = answers_same no_memory result _ _ (sym (lines_end format n [] s refl)) h

pub front_ends : (L : Limits) (n : ℕ) → GivesFormula (Err (format.no_header n)) (read_on (record { limits = L; count = n; body = None }) [])
front_ends L n = inr (text_end format L n [] refl)

-- ---- a piece

whole_line : (begun end later rest more : List ℕ) → IsOpen begun → IsCut rest end later → lines ((begun ++ rest) ++ more) ≡ (begun ++ end) ∷ lines (later ++ more)
whole_line begun end later rest more no_lf cut =
    ap lines (ap (λ (x : List ℕ). (begun ++ x) ++ more) cut.0 ∙ ap (λ (x : List ℕ). x ++ more) (sym (append_assoc begun end (10 ∷ later))) ∙ append_assoc (begun ++ end) (10 ∷ later) more)
    ∙ lines_cut (begun ++ end) (later ++ more) (All-append (λ b. (b == 10) ≡ false) begun end no_lf cut.1)

-- a line that a piece ends
pub line_leads : (s t : LinesRead) (begun end later rest : List ℕ) → IsOpen begun → IsCut rest end later → TakesLine s (begun ++ end) t → LeadsTo s (begun ++ rest) t later
line_leads s t begun end later rest no_lf cut takes =
    (takes.0, λ more. ap (read_on s) (whole_line begun end later rest more no_lf cut) ∙ takes.1 (lines (later ++ more)))

pub line_refuses : (s : LinesRead) (begun end later rest : List ℕ) (fault : DimacsFault) → IsOpen begun → IsCut rest end later → RefusesLine s (begun ++ end) fault → RefusesText s (begun ++ rest) fault
line_refuses s begun end later rest fault no_lf cut refuses = λ more.
    subst (λ ls. Fails no_memory fault (read_on s ls)) (sym (whole_line begun end later rest more no_lf cut)) (refuses (lines (later ++ more)))

-- one after the other
pub leads_on : (s t u : LinesRead) (a b c : List ℕ) → LeadsTo s a t b → LeadsTo t b u c → LeadsTo s a u c
leads_on s t u a b c first later = (later.0 ∙ first.0, λ more. first.1 more ∙ later.1 more)

pub refuses_on : (s t : LinesRead) (a b : List ℕ) (fault : DimacsFault) → LeadsTo s a t b → RefusesText t b fault → RefusesText s a fault
refuses_on s t a b fault first refuses = λ more. subst (Fails no_memory fault) (sym (first.1 more)) (refuses more)

-- ---- a text

module _ (L : Limits) where
  pub reads_piece : (s t : LinesRead) (begun piece rest bytes : List ℕ) → LeadsTo s (begun ++ piece) t rest → HasReadWithin L (Within s begun) bytes → HasReadWithin L (Within t rest) (bytes ++ piece)
  reads_piece s t begun piece rest bytes leads has = (
    leads.0 ∙ has.0,
    λ more. ap (parse_within L) (append_assoc bytes piece more) ∙ has.1 (piece ++ more) ∙ ap (λ x. read_on s (lines x)) (sym (append_assoc begun piece more)) ∙ leads.1 more,
  )

  pub refuses_piece : (s : LinesRead) (begun piece bytes : List ℕ) (fault : DimacsFault) → RefusesText s (begun ++ piece) fault → HasReadWithin L (Within s begun) bytes → HasReadWithin L (Failed fault) (bytes ++ piece)
  refuses_piece s begun piece bytes fault refuses has = λ more.
      subst (Fails no_memory fault) (sym (ap (parse_within L) (append_assoc bytes piece more) ∙ has.1 (piece ++ more) ∙ ap (λ x. read_on s (lines x)) (sym (append_assoc begun piece more)))) (refuses more)

  pub stays_refused : (piece bytes : List ℕ) (fault : DimacsFault) → HasReadWithin L (Failed fault) bytes → HasReadWithin L (Failed fault) (bytes ++ piece)
  stays_refused piece bytes fault has = λ more. subst (λ x. Fails no_memory fault (parse_within L x)) (sym (append_assoc bytes piece more)) (has (piece ++ more))

  pub ends_within : (s : LinesRead) (begun bytes : List ℕ) (result : Result Cnf DimacsFault) → IsOpen begun → HasReadWithin L (Within s begun) bytes → GivesFormula result (read_on s (begun ∷ [])) → GivesFormula result (parse_within L bytes)
  ends_within s begun bytes result no_lf has gives =
      answers_same no_memory result _ _ (sym (ap (parse_within L) (sym (append-nil bytes)) ∙ has.1 [] ∙ ap (λ x. read_on s (lines x)) (append-nil begun) ∙ ap (read_on s) (lines_open begun no_lf))) gives

  pub ends_failed : (bytes : List ℕ) (fault : DimacsFault) → HasReadWithin L (Failed fault) bytes → GivesFormula (Err fault) (parse_within L bytes)
  ends_failed bytes fault has = subst (λ x. Fails no_memory fault (parse_within L x)) (append-nil bytes) (has [])

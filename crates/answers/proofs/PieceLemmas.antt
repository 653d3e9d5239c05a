-- An answer that comes in pieces.
use Rattle.std.proofs.Common.{Bool, ◌≡◌, ℕ, ◌+◌, List, [], ◌∷◌, ◌++◌, ◌<◌, ◌==◌, false, Result, Ok, Err, length, refl, sym, ◌∙◌, ap, subst, append_assoc, arith, MatchResult}
use Rattle.std.specs.List.{onto_first}
use Rattle.std.proofs.lemmas.List.{append-nil}
use Rattle.std.proofs.lemmas.List.Elements.{All-append, All-head, All-tail}
use Rattle.std.proofs.lemmas.List.Splits.{slice_split_at, slice_split_none, slice_split-cons_no, length-slice_split}
use Rattle.dimacs.specs.inner.Pieces.{IsCut, IsOpen}
use Rattle.dimacs.specs.logic.Propagation.{Assumed}
use Rattle.dimacs.specs.text.Rows.{Fails, ◌>>=◌}
use Rattle.dimacs.specs.text.Words.{lines}
use Rattle.dimacs.proofs.RowLemmas.{fails_by}
use Rattle.answers.specs.declared.fault.AnswerFault.{AnswerFault}
use Rattle.answers.specs.Pieces.{GivesNamed, HasRead, LinesRead, Marking, Within, Failed, naming_of, read_on}
use Rattle.answers.specs.Parse.{Naming, answer_of, end_of, no_memory, read_line, read_lines}
use Rattle.answers.specs.inner.Lines.{Leads, Refuses, RefusesPart, TakesPart}

-- ---- the lines of bytes

lines_open : (line : List ℕ) → IsOpen line → lines line ≡ line ∷ []
lines_open line h = slice_split_none (λ b. b == 10) line h

lines_cut : (line rest : List ℕ) → IsOpen line → lines (line ++ 10 ∷ rest) ≡ line ∷ lines rest
lines_cut line rest h = slice_split_at (λ b. b == 10) line 10 rest h refl

record FirstLine (text : List ℕ) : Type 0 where
  line : List ℕ
  more : List (List ℕ)
  are : lines text ≡ line ∷ more

first_of_some : (text : List ℕ) (ls : List (List ℕ)) → lines text ≡ ls → 0 < length ls → FirstLine text
first_of_some text [] e h = absurd (omega arith)
first_of_some text (l ∷ ls) e h = record { line = l; more = ls; are = e }

first_line : (text : List ℕ) → FirstLine text
first_line text = first_of_some text (lines text) refl (omega (arith, length-slice_split (λ b. b == 10) text))

-- bytes without an LF stand in front of the first line
lines_front : (front text line : List ℕ) (more : List (List ℕ)) → IsOpen front → lines text ≡ line ∷ more → lines (front ++ text) ≡ (front ++ line) ∷ more
lines_front [] text line more h e = e
lines_front (b ∷ front) text line more h e =
    slice_split-cons_no (λ b. b == 10) b (front ++ text) (All-head (λ b. (b == 10) ≡ false) b front h)
    ∙ ap (onto_first b) (lines_front front text line more (All-tail (λ b. (b == 10) ≡ false) b front h) e)

read_more : (n : ℕ) (ls more : List (List ℕ)) (line : List ℕ) (m : Naming) → ls ≡ line ∷ more → read_lines n ls m ≡ (read_line (n + 1) line m >>= read_lines (n + 1) more)
unfolding read_lines
read_more n ls more line m e = rw e refl

read_end : (n : ℕ) (m : Naming) → read_lines n [] m ≡ end_of n m
unfolding read_lines
read_end n m = refl

bind_fails : {A B E : Type 0} (none f : E) (r : Result A E) (g : A → Result B E) → Fails none f r → Fails none f (r >>= g)
bind_fails none f r g h = fails_by none f r (r >>= g) (λ is. ap (λ x. x >>= g) is) h

-- ---- a part of a line

module _ (n number : ℕ) (old : Marking) (begun part : List ℕ) (is : number ≡ n + 1) (no_lf : IsOpen (begun ++ part)) where
  -- the line on which the part stands
  on_line : (more : List ℕ) (f : FirstLine more) → read_on (record { count = n; naming = old; begun = begun }) (part ++ more)
      ≡ (read_line number ((begun ++ part) ++ f.line) (naming_of old) >>= read_lines (n + 1) f.more)
  on_line more f =
      ap (λ t. read_lines n (lines t) (naming_of old)) (sym (append_assoc begun part more))
      ∙ read_more n _ f.more ((begun ++ part) ++ f.line) (naming_of old) (lines_front (begun ++ part) more f.line f.more no_lf f.are)
      ∙ ap (λ k. read_line k ((begun ++ part) ++ f.line) (naming_of old) >>= read_lines (n + 1) f.more) (sym is)

  pub part_leads : (new : Marking) (begun' : List ℕ) → IsOpen begun' → TakesPart number old (begun ++ part) new begun' → Leads (record { count = n; naming = old; begun = begun }) part (record { count = n; naming = new; begun = begun' })
  part_leads new begun' open' takes = λ more.
      let f = first_line more in
      on_line more f ∙ ap (λ (r : Result Naming AnswerFault). r >>= read_lines (n + 1) f.more) (takes f.line)
      ∙ ap (λ k. read_line k (begun' ++ f.line) (naming_of new) >>= read_lines (n + 1) f.more) is
      ∙ sym (read_more n _ f.more (begun' ++ f.line) (naming_of new) (lines_front begun' more f.line f.more open' f.are))

  pub part_refuses : (fault : AnswerFault) → RefusesPart number old (begun ++ part) fault → Refuses (record { count = n; naming = old; begun = begun }) part fault
  part_refuses fault refuses = λ more.
      let f = first_line more in
      subst (Fails no_memory fault) (sym (on_line more f)) (bind_fails no_memory fault (read_line number ((begun ++ part) ++ f.line) (naming_of old)) (read_lines (n + 1) f.more) (refuses f.line))

either : {T E : Type 0} (r : Result T E) (P P' : T → Type 0) (Q Q' : E → Type 0) → ((x : T) → P x → P' x) → ((e : E) → Q e → Q' e) → MatchResult r P Q → MatchResult r P' Q'
either (Ok x) P P' Q Q' f g h = f x h
either (Err e) P P' Q Q' f g h = g e h

pub part_on : (n number : ℕ) (old new : Marking) (begun part begun' : List ℕ) (s : LinesRead) (r : Result (Unit {0}) AnswerFault) → record { count = n; naming = old; begun = begun } ≡ s → number ≡ n + 1 → IsOpen begun → IsOpen part → IsOpen begun'
    → MatchResult r (λ _. TakesPart number old (begun ++ part) new begun') (λ f. RefusesPart number old (begun ++ part) f)
    → MatchResult r (λ _. Leads s part (record { count = n; naming = new; begun = begun' })) (λ f. Refuses s part f)
part_on n number old new begun part begun' s r view is open_ open_part open' h =
    let no_lf = All-append (λ b. (b == 10) ≡ false) begun part open_ open_part in
    subst (λ (x : LinesRead). MatchResult r (λ _. Leads x part (record { count = n; naming = new; begun = begun' })) (λ f. Refuses x part f)) view
    (either r _ _ _ _ (λ x takes. part_leads n number old begun part is no_lf new begun' open' takes) (λ f refuses. part_refuses n number old begun part is no_lf f refuses) h)

-- ---- the end of a line

module _ (n number : ℕ) (old : Marking) (begun : List ℕ) (is : number ≡ n + 1) (no_lf : IsOpen begun) where
  at_end : (more : List ℕ) → read_on (record { count = n; naming = old; begun = begun }) ((10 ∷ []) ++ more) ≡ (read_line number begun (naming_of old) >>= read_lines number (lines more))
  at_end more =
      read_more n _ (lines more) begun (naming_of old) (lines_cut begun more no_lf)
      ∙ ap (λ k. read_line k begun (naming_of old) >>= read_lines k (lines more)) (sym is)

  pub end_leads : (new : Marking) → read_line number begun (naming_of old) ≡ Ok (naming_of new) → Leads (record { count = n; naming = old; begun = begun }) (10 ∷ []) (record { count = number; naming = new; begun = [] })
  end_leads new h = λ more. at_end more ∙ ap (λ (r : Result Naming AnswerFault). r >>= read_lines number (lines more)) h

  pub end_refuses : (fault : AnswerFault) → Fails no_memory fault (read_line number begun (naming_of old)) → Refuses (record { count = n; naming = old; begun = begun }) (10 ∷ []) fault
  end_refuses fault h = λ more.
      subst (Fails no_memory fault) (sym (at_end more)) (bind_fails no_memory fault (read_line number begun (naming_of old)) (read_lines number (lines more)) h)

  -- ---- the end of a text

  last_line : read_on (record { count = n; naming = old; begun = begun }) [] ≡ (read_line number begun (naming_of old) >>= end_of number)
  last_line =
      ap (λ t. read_lines n (lines t) (naming_of old)) (append-nil begun)
      ∙ read_more n _ [] begun (naming_of old) (lines_open begun no_lf)
      ∙ ap (λ k. read_line k begun (naming_of old) >>= read_lines k []) (sym is)
      ∙ by_ok (read_line number begun (naming_of old))
    where
      by_ok : (r : Result Naming AnswerFault) → (r >>= read_lines number []) ≡ (r >>= end_of number)
      by_ok (Ok m) = read_end number m
      by_ok (Err f) = refl

  pub text_ends : (new : Marking) (result : Result _ AnswerFault) → read_line number begun (naming_of old) ≡ Ok (naming_of new) → GivesNamed result (end_of number (naming_of new)) → GivesNamed result (read_on (record { count = n; naming = old; begun = begun }) [])
  text_ends new result h gives = subst (GivesNamed result) (sym (last_line ∙ ap (λ (r : Result Naming AnswerFault). r >>= end_of number) h)) gives

  pub text_refused : (fault : AnswerFault) → Fails no_memory fault (read_line number begun (naming_of old)) → Fails no_memory fault (read_on (record { count = n; naming = old; begun = begun }) [])
  text_refused fault h = subst (Fails no_memory fault) (sym last_line) (bind_fails no_memory fault (read_line number begun (naming_of old)) (end_of number) h)

-- ---- one after the other

pub leads_on : (s t u : LinesRead) (a b : List ℕ) → Leads s a t → Leads t b u → Leads s (a ++ b) u
leads_on s t u a b first later = λ more. ap (read_on s) (append_assoc a b more) ∙ first (b ++ more) ∙ later more

pub refuses_on : (s t : LinesRead) (a b : List ℕ) (fault : AnswerFault) → Leads s a t → Refuses t b fault → Refuses s (a ++ b) fault
refuses_on s t a b fault first refuses = λ more. subst (Fails no_memory fault) (sym (ap (read_on s) (append_assoc a b more) ∙ first (b ++ more))) (refuses more)

pub refuses_front : (s : LinesRead) (a b : List ℕ) (fault : AnswerFault) → Refuses s a fault → Refuses s (a ++ b) fault
refuses_front s a b fault refuses = λ more. subst (Fails no_memory fault) (sym (ap (read_on s) (append_assoc a b more))) (refuses (b ++ more))

-- ---- a line that a piece ends

module _ (s t : LinesRead) (rest part later : List ℕ) (cut : IsCut rest part later) where
  cut_part : (more : List ℕ) → read_on s (rest ++ more) ≡ read_on s (part ++ (10 ∷ (later ++ more)))
  cut_part more = ap (λ x. read_on s (x ++ more)) cut.0 ∙ ap (read_on s) (append_assoc part (10 ∷ later) more)

  pub line_leads : (u : LinesRead) → Leads s part t → Leads t (10 ∷ []) u → (more : List ℕ) → read_on s (rest ++ more) ≡ read_on u (later ++ more)
  line_leads u first end more = cut_part more ∙ first (10 ∷ (later ++ more)) ∙ end (later ++ more)

  pub part_refused : (f : AnswerFault) → Refuses s part f → (more : List ℕ) → Fails no_memory f (read_on s (rest ++ more))
  part_refused f refuses more = subst (Fails no_memory f) (sym (cut_part more)) (refuses (10 ∷ (later ++ more)))

  pub end_refused : (f : AnswerFault) → Leads s part t → Refuses t (10 ∷ []) f → (more : List ℕ) → Fails no_memory f (read_on s (rest ++ more))
  end_refused f first refuses more = subst (Fails no_memory f) (sym (cut_part more ∙ first (10 ∷ (later ++ more)))) (refuses (later ++ more))

pub so_far_refused : (s t : LinesRead) (piece rest : List ℕ) (f : AnswerFault) → ((more : List ℕ) → read_on s (piece ++ more) ≡ read_on t (rest ++ more)) → ((more : List ℕ) → Fails no_memory f (read_on t (rest ++ more))) → Refuses s piece f
so_far_refused s t piece rest f so_far refused = λ more. subst (Fails no_memory f) (sym (so_far more)) (refused more)

pub last_on : (s t new : LinesRead) (piece rest : List ℕ) (r : Result (Unit {0}) AnswerFault) → ((more : List ℕ) → read_on s (piece ++ more) ≡ read_on t (rest ++ more))
    → MatchResult r (λ _. Leads t rest new) (λ f. Refuses t rest f) → MatchResult r (λ _. Leads s piece new) (λ f. Refuses s piece f)
last_on s t new piece rest r so_far h = either r _ _ _ _ (λ x leads. λ more. so_far more ∙ leads more) (λ f refuses. so_far_refused s t piece rest f so_far refuses) h

-- ---- a text

pub reads_piece : (s t : LinesRead) (bytes piece : List ℕ) → Leads s piece t → HasRead (Within s) bytes → HasRead (Within t) (bytes ++ piece)
reads_piece s t bytes piece leads has = λ more. ap answer_of (append_assoc bytes piece more) ∙ has (piece ++ more) ∙ leads more

pub refuses_piece : (s : LinesRead) (bytes piece : List ℕ) (fault : AnswerFault) → Refuses s piece fault → HasRead (Within s) bytes → HasRead (Failed fault) (bytes ++ piece)
refuses_piece s bytes piece fault refuses has = λ more.
    subst (Fails no_memory fault) (sym (ap answer_of (append_assoc bytes piece more) ∙ has (piece ++ more))) (refuses more)

pub stays_refused : (bytes piece : List ℕ) (fault : AnswerFault) → HasRead (Failed fault) bytes → HasRead (Failed fault) (bytes ++ piece)
stays_refused bytes piece fault has = λ more. subst (λ x. Fails no_memory fault (answer_of x)) (sym (append_assoc bytes piece more)) (has (piece ++ more))

pub ends_within : (s : LinesRead) (bytes : List ℕ) (result : Result _ AnswerFault) → HasRead (Within s) bytes → GivesNamed result (read_on s []) → GivesNamed result (answer_of bytes)
ends_within s bytes result has gives = subst (GivesNamed result) (sym (ap answer_of (sym (append-nil bytes)) ∙ has [])) gives

pub ends_failed : (bytes : List ℕ) (fault : AnswerFault) → HasRead (Failed fault) bytes → GivesNamed (Err fault) (answer_of bytes)
ends_failed bytes fault has = subst (λ x. Fails no_memory fault (answer_of x)) (append-nil bytes) (has [])

pub given_err : (r : Result (List Bool) AnswerFault) (expected : Result Assumed AnswerFault) (f : AnswerFault) → r ≡ Err f → Fails no_memory f expected → GivesNamed r expected
given_err r expected f is h = subst (λ x. GivesNamed x expected) (sym is) h

-- The front of a line: what of it still matters, whatever bytes follow.
use Rattle.std.proofs.Common.{inr, ◌||◌, ◌==◌, ◌≡◌, ◌≢◌, ℕ, ◌-◌, ◌<◌, ◌≤◌, true, false, List, [], ◌∷◌, ◌++◌, Result, Ok, Err, length, get_or, take, drop, refl, sym, subst, ap, ◌∙◌, arith, length-drop, append_assoc, MatchResult}
use Rattle.std.proofs.lemmas.Bool.{ne_eqb}
use Rattle.std.proofs.lemmas.List.{take_all}
use Rattle.dimacs.specs.text.Rows.{Fails, by_tokens, ◌>>=◌}
use Rattle.dimacs.specs.text.Words.{is_white, words}
use Rattle.dimacs.proofs.RowLemmas.{fails_by}
use Rattle.dimacs.proofs.WordLemmas.{tail_is, words_blank, words_nil}
use Rattle.answers.specs.declared.fault.AnswerFault.{AnswerFault}
use Rattle.answers.specs.declared.fault.Kind.TheVariants.{ForeignLine}
use Rattle.answers.specs.Grammar.{AnswerLine, Passed, Values, Foreign, line_of}
use Rattle.answers.specs.Pieces.{Marking, naming_of}
use Rattle.answers.specs.Parse.{Naming, no_memory, read_as, read_line, read_tokens}
use Rattle.std.proofs.lemmas.List.Elements.{All-cons, All-nil}
use Rattle.dimacs.specs.inner.Pieces.{IsOpen}
use Rattle.answers.specs.declared.open_line.Begun.{Begun}
use Rattle.answers.specs.declared.open_line.Begun.TheVariants.{Passed as BegunPassed, Blank as BegunBlank, Values as BegunValues}
use Rattle.answers.specs.inner.Lines.{begun_text, TakesPart, RefusesPart, TakesValues, RefusesValues}
use Rattle.answers.proofs.TokenLemmas.{tokens_append}
use Rattle.answers.proofs.WordLemmas.{words_behind, words_front, words_ink, words_passed, words_stay}

pub at_err : {T E : Type 0} (r : Result T E) (P : T → Type 0) (Q : E → Type 0) (e : E) → r ≡ Err e → Q e → MatchResult r P Q
at_err r P Q e is holds = subst (λ x. MatchResult x P Q) (sym is) holds

-- ---- values

bind_fails : {A B E : Type 0} (none f : E) (r : Result A E) (g : A → Result B E) → Fails none f r → Fails none f (r >>= g)
bind_fails none f r g h = fails_by none f r (r >>= g) (λ is. ap (λ x. x >>= g) is) h

-- no white space: the token goes on
pub values_go_on : (n : ℕ) (m : Marking) (token text end : List ℕ) (at : ℕ) → at ≤ length text → end ≡ take at text → length (drop at text) ≡ 0 → TakesValues n m (token ++ text) m (token ++ end)
values_go_on n m token text end at h e none = λ rest.
    let all : length text ≤ at = omega (arith, length-drop at text) in
    let is : text ≡ end = sym (e ∙ take_all at text all) in
    ap (λ t. read_tokens n (words ((token ++ t) ++ rest)) (naming_of m)) is

-- the token ends, and another one may begin after the last white space
module _ (n : ℕ) (m : Marking) (token text end later whole : List ℕ) (at last : ℕ)
    (inside : at < length text) (white : is_white (get_or text at 0) ≡ true) (is_end : end ≡ take at text) (is_later : later ≡ drop at text)
    (top : last ≤ length later) (whites : 0 < last → is_white (get_or later (last - 1) 0) ≡ true) (is_whole : whole ≡ take last later) where
  parts : (rest : List ℕ) → words ((token ++ text) ++ rest) ≡ words (token ++ end) ++ (words whole ++ words (drop last later ++ rest))
  parts rest =
      words_behind token text rest at inside white
      ∙ ap (λ e. words (token ++ e) ++ words (drop at text ++ rest)) (sym is_end)
      ∙ ap (λ l. words (token ++ end) ++ words (l ++ rest)) (sym is_later)
      ∙ ap (λ ws. words (token ++ end) ++ ws) (words_front later rest last top whites)
      ∙ ap (λ w. words (token ++ end) ++ (words w ++ words (drop last later ++ rest))) (sym is_whole)

  in_turn : (rest : List ℕ) → read_tokens n (words ((token ++ text) ++ rest)) (naming_of m)
      ≡ (read_tokens n (words (token ++ end)) (naming_of m) >>= λ c. read_tokens n (words whole ++ words (drop last later ++ rest)) c)
  in_turn rest =
      ap (λ ws. read_tokens n ws (naming_of m)) (parts rest)
      ∙ tokens_append n (words (token ++ end)) (words whole ++ words (drop last later ++ rest)) (naming_of m)

  pub values_refused_first : (f : AnswerFault) → Fails no_memory f (read_tokens n (words (token ++ end)) (naming_of m)) → RefusesValues n m (token ++ text) f
  values_refused_first f h = λ rest.
      subst (Fails no_memory f) (sym (in_turn rest)) (bind_fails no_memory f (read_tokens n (words (token ++ end)) (naming_of m)) (λ c. read_tokens n (words whole ++ words (drop last later ++ rest)) c) h)

  module _ (m1 : Marking) (first : read_tokens n (words (token ++ end)) (naming_of m) ≡ Ok (naming_of m1)) where
    then_later : (rest : List ℕ) → read_tokens n (words ((token ++ text) ++ rest)) (naming_of m)
        ≡ (read_tokens n (words whole) (naming_of m1) >>= read_tokens n (words (drop last later ++ rest)))
    then_later rest =
        in_turn rest ∙ ap (λ (r : Result Naming AnswerFault). r >>= λ c. read_tokens n (words whole ++ words (drop last later ++ rest)) c) first
        ∙ tokens_append n (words whole) (words (drop last later ++ rest)) (naming_of m1)

    pub values_refused_later : (f : AnswerFault) → Fails no_memory f (read_tokens n (words whole) (naming_of m1)) → RefusesValues n m (token ++ text) f
    values_refused_later f h = λ rest.
        subst (Fails no_memory f) (sym (then_later rest)) (bind_fails no_memory f (read_tokens n (words whole) (naming_of m1)) (read_tokens n (words (drop last later ++ rest))) h)

    pub values_taken : (m2 : Marking) → read_tokens n (words whole) (naming_of m1) ≡ Ok (naming_of m2) → TakesValues n m (token ++ text) m2 (drop last later)
    values_taken m2 h = λ rest.
        then_later rest ∙ ap (λ (r : Result Naming AnswerFault). r >>= read_tokens n (words (drop last later ++ rest))) h

-- ---- the front of a line

pub line_is : (n : ℕ) (line : List ℕ) (m : Naming) (k : AnswerLine) → line_of line ≡ k → read_line n line m ≡ read_as n k m
unfolding read_line
line_is n line m k e = ap (λ x. read_as n x m) e

same_line : (n : ℕ) (a b : List ℕ) (m : Naming) → line_of a ≡ line_of b → read_line n a m ≡ read_line n b m
unfolding read_line
same_line n a b m e = ap (λ x. read_as n x m) e

either : {T E : Type 0} (r : Result T E) (P P' : T → Type 0) (Q Q' : E → Type 0) → ((x : T) → P x → P' x) → ((e : E) → Q e → Q' e) → MatchResult r P Q → MatchResult r P' Q'
either (Ok x) P P' Q Q' f g h = f x h
either (Err e) P P' Q Q' f g h = g e h

-- after a v
pub values_on : (n : ℕ) (old new : Marking) (token part token' : List ℕ) (r : Result (Unit {0}) AnswerFault)
    → MatchResult r (λ _. TakesValues n old (token ++ part) new token') (λ f. RefusesValues n old (token ++ part) f)
    → MatchResult r (λ _. TakesPart n old (118 ∷ (token ++ part)) new (118 ∷ token')) (λ f. RefusesPart n old (118 ∷ (token ++ part)) f)
values_on n old new token part token' r h = either r _ _ _ _
    (λ x takes. λ rest.
    line_is n (118 ∷ ((token ++ part) ++ rest)) (naming_of old) (Values (words ((token ++ part) ++ rest))) refl ∙ takes rest
    ∙ sym (line_is n (118 ∷ (token' ++ rest)) (naming_of new) (Values (words (token' ++ rest))) refl))
    (λ f refuses. λ rest.
    subst (Fails no_memory f) (sym (line_is n (118 ∷ ((token ++ part) ++ rest)) (naming_of old) (Values (words ((token ++ part) ++ rest))) refl)) (refuses rest))
    h

-- a line that is passed over
pub passed_on : (n : ℕ) (m : Marking) (part : List ℕ) → TakesPart n m (99 ∷ part) m (99 ∷ [])
passed_on n m part = λ rest. same_line n (99 ∷ (part ++ rest)) (99 ∷ rest) (naming_of m) refl

some_tokens : (ws : List (List ℕ)) → 0 < length ws → by_tokens ws Passed (λ tokens. Foreign) ≡ Foreign
some_tokens [] h = absurd (omega arith)
some_tokens (w ∷ ws) h = refl

-- white space so far
pub blanks_on : (n : ℕ) (m : Marking) (part : List ℕ) (r : Result (Unit {0}) AnswerFault)
    → MatchResult r (λ _. words part ≡ []) (λ f. (0 < length (words part)) × (f ≡ record { kind = ForeignLine; line = n }))
    → MatchResult r (λ _. TakesPart n m (32 ∷ part) m (32 ∷ [])) (λ f. RefusesPart n m (32 ∷ part) f)
blanks_on n m part r h = either r _ _ _ _
    (λ x none. λ rest.
    let same : words (32 ∷ (part ++ rest)) ≡ words (32 ∷ rest) = words_blank 32 (part ++ rest) refl ∙ words_passed part rest none ∙ sym (words_blank 32 rest refl) in
    same_line n (32 ∷ (part ++ rest)) (32 ∷ rest) (naming_of m) (ap (λ ws. by_tokens ws Passed (λ tokens. Foreign)) same))
    (λ f bad. λ rest.
    let some : 0 < length (words (32 ∷ (part ++ rest))) = subst (λ ws. 0 < length ws) (sym (words_blank 32 (part ++ rest) refl)) (words_stay part rest bad.0) in
    inr (line_is n (32 ∷ (part ++ rest)) (naming_of m) Foreign (some_tokens (words (32 ∷ (part ++ rest))) some) ∙ ap (λ (x : AnswerFault). let y : Result Naming AnswerFault = Err x in y) (sym bad.1)))
    h

-- ---- the first byte

-- a line that begins with another byte than c, s and v
other_byte : (b : ℕ) (rest : List ℕ) → (b == 99 || b == 115) ≡ false → b ≢ 118 → line_of (b ∷ rest) ≡ by_tokens (words (b ∷ rest)) Passed (λ tokens. Foreign)
other_byte b rest h v = rw (h, ne_eqb b 118 v) refl

pub passed_begins : (b : ℕ) (rest : List ℕ) → (b == 99 || b == 115) ≡ true → line_of (99 ∷ rest) ≡ line_of (b ∷ rest)
passed_begins b rest h = rw h refl

pub ink_begins : (b : ℕ) (rest : List ℕ) → (b == 99 || b == 115) ≡ false → b ≢ 118 → is_white b ≡ false → line_of (b ∷ rest) ≡ Foreign
ink_begins b rest h v ink = other_byte b rest h v ∙ some_tokens (words (b ∷ rest)) (words_ink b rest ink)

pub blank_begins : (b : ℕ) (rest : List ℕ) → (b == 99 || b == 115) ≡ false → b ≢ 118 → is_white b ≡ true → line_of (32 ∷ rest) ≡ line_of (b ∷ rest)
blank_begins b rest h v white =
    ap (λ ws. by_tokens ws Passed (λ tokens. Foreign)) (words_blank 32 rest refl ∙ sym (words_blank b rest white)) ∙ sym (other_byte b rest h v)

module _ (n : ℕ) (old : Marking) (b : ℕ) (front part : List ℕ) (is : (rest : List ℕ) → line_of (front ++ rest) ≡ line_of (b ∷ rest)) where
  on_front : (rest : List ℕ) → read_line n (b ∷ (part ++ rest)) (naming_of old) ≡ read_line n ((front ++ part) ++ rest) (naming_of old)
  on_front rest = same_line n (b ∷ (part ++ rest)) ((front ++ part) ++ rest) (naming_of old) (sym (is (part ++ rest)) ∙ ap line_of (sym (append_assoc front part rest)))

  pub first_on : (new : Marking) (begun : List ℕ) (r : Result (Unit {0}) AnswerFault)
      → MatchResult r (λ _. TakesPart n old (front ++ part) new begun) (λ f. RefusesPart n old (front ++ part) f)
      → MatchResult r (λ _. TakesPart n old (b ∷ part) new begun) (λ f. RefusesPart n old (b ∷ part) f)
  first_on new begun r h = either r _ _ _ _
      (λ x takes. λ rest. on_front rest ∙ takes rest)
      (λ f refuses. λ rest. subst (Fails no_memory f) (sym (on_front rest)) (refuses rest))
      h

-- the text from the first byte on
pub begins_on : (n : ℕ) (old new : Marking) (text front part begun : List ℕ) (b : ℕ) (r : Result (Unit {0}) AnswerFault) → text ≡ b ∷ part → ((rest : List ℕ) → line_of (front ++ rest) ≡ line_of (b ∷ rest))
    → MatchResult r (λ _. TakesPart n old (front ++ part) new begun) (λ f. RefusesPart n old (front ++ part) f)
    → MatchResult r (λ _. TakesPart n old text new begun) (λ f. RefusesPart n old text f)
begins_on n old new text front part begun b r e is h = subst (λ t. MatchResult r (λ _. TakesPart n old t new begun) (λ f. RefusesPart n old t f)) (sym e) (first_on n old b front part is new begun r h)

-- a line that begins with another byte than c, s, v and white space
pub first_refused : (n : ℕ) (m : Marking) (text part : List ℕ) (b : ℕ) (f : AnswerFault) → text ≡ b ∷ part → ((rest : List ℕ) → line_of (b ∷ rest) ≡ Foreign) × (f ≡ record { kind = ForeignLine; line = n }) → RefusesPart n m text f
first_refused n m text part b f e h = subst (λ t. RefusesPart n m t f) (sym e) (λ rest.
    inr (line_is n (b ∷ (part ++ rest)) (naming_of m) Foreign (h.0 (part ++ rest)) ∙ ap (λ (x : AnswerFault). let y : Result Naming AnswerFault = Err x in y) (sym h.1)))

-- what is left of the first byte on
pub cons_front : (part : List ℕ) (d : ℕ) → 0 < length part → part ≡ get_or part 0 d ∷ drop 1 part
cons_front [] d h = absurd (omega arith)
cons_front (b ∷ bs) d h = refl

pub open_text : (k : Begun) (token : List ℕ) → IsOpen token → IsOpen (begun_text k token)
open_text BegunPassed token h = All-cons (λ b. (b == 10) ≡ false) 99 [] refl (All-nil (λ b. (b == 10) ≡ false))
open_text BegunBlank token h = All-cons (λ b. (b == 10) ≡ false) 32 [] refl (All-nil (λ b. (b == 10) ≡ false))
open_text BegunValues token h = All-cons (λ b. (b == 10) ≡ false) 118 token refl h

-- ---- the end of a line

pub passed_ends : (n : ℕ) (m : Naming) → read_line n (99 ∷ []) m ≡ Ok m
passed_ends n m = line_is n (99 ∷ []) m Passed refl

pub blank_ends : (n : ℕ) (m : Naming) → read_line n (32 ∷ []) m ≡ Ok m
blank_ends n m = line_is n (32 ∷ []) m Passed (ap (λ ws. by_tokens ws Passed (λ tokens. Foreign)) (words_blank 32 [] refl ∙ words_nil))

pub nothing_ends : (n : ℕ) (m : Naming) → read_line n [] m ≡ Ok m
nothing_ends n m = line_is n [] m Passed refl

pub values_end : (n : ℕ) (token : List ℕ) (m : Naming) → read_line n (118 ∷ token) m ≡ read_tokens n (words token) m
values_end n token m = line_is n (118 ∷ token) m (Values (words token)) refl

-- ---- the first part of a line

pub begins_all : (n : ℕ) (old new : Marking) (text more token begun : List ℕ) (k : Begun) (d : ℕ) (r : Result (Unit {0}) AnswerFault) → 0 < length text → more ≡ take (length text - 1) (drop 1 text) → token ≡ []
    → ((rest : List ℕ) → line_of (begun_text k [] ++ rest) ≡ line_of (get_or text 0 d ∷ rest))
    → MatchResult r (λ _. TakesPart n old (begun_text k token ++ more) new begun) (λ f. RefusesPart n old (begun_text k token ++ more) f)
    → MatchResult r (λ _. TakesPart n old text new begun) (λ f. RefusesPart n old text f)
begins_all n old new text more token begun k d r some e none is h =
    begins_on n old new text (begun_text k token) more begun (get_or text 0 d) r
    (cons_front text d some ∙ ap (λ (x : List ℕ). get_or text 0 d ∷ x) (sym (e ∙ tail_is text 1)))
    (subst (λ (t : List ℕ). (rest : List ℕ) → line_of (begun_text k t ++ rest) ≡ line_of (get_or text 0 d ∷ rest)) (sym none) is)
    h

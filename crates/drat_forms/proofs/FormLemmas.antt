-- The form that the first bytes tell is that of all bytes, and a proof is read in it from its first byte on.
use Rattle.std.proofs.Common.{◌≡◌, ℕ, ◌==◌, ◌&&◌, Bool, true, false, cond, List, [], ◌∷◌, ◌++◌, Option, Some, None, Result, Ok, Err, refl, sym, ap, ◌∙◌, append_assoc, append-nil}
use Rattle.std.specs.Char.{is_ascii_digit}
use Rattle.drat_forms.specs.Form.{form_behind_digits, form_behind_gap, form_behind_letter, form_of}
use Rattle.drat_forms.specs.Moves.{after_byte}
use Rattle.drat_forms.specs.Reading.{Reading, reads, reads_byte, moves, then, with_word, takes, takes_byte, tells, first_place}
use Rattle.drat_forms.specs.declared.fault.DratFault.{DratFault}
use Rattle.drat_forms.specs.declared.form.Form.{Form}
use Rattle.drat_forms.specs.declared.form.Form.TheVariants.{Text, Binary}
use Rattle.drat_forms.specs.declared.moves.Moved.{Moved}
use Rattle.drat_forms.specs.declared.place.Begun.TheVariants.{Nothing}
use Rattle.drat_forms.specs.declared.place.Place.{Place}
use Rattle.drat_forms.specs.declared.place.Place.TheVariants.{Gap}
use Rattle.drat_forms.proofs.ReadingLemmas.{reads-byte, reads-nil, takes-byte, takes-nil}
use Rattle.drat_forms.proofs.FoundLemmas.{at_place, same_ok}

-- ---- the form

module _ (more : List ℕ) (f : Form) where
  behind_digits : (bytes : List ℕ) (some : Bool) → form_behind_digits some bytes ≡ Some f → form_behind_digits some (bytes ++ more) ≡ Some f
  behind_digits [] some e = absurd cc
  behind_digits (b ∷ bytes) some e = at (is_ascii_digit b) (λ k. behind_digits bytes true k) e
    where
      at : (c : Bool) → (form_behind_digits true bytes ≡ Some f → form_behind_digits true (bytes ++ more) ≡ Some f)
          → cond c (form_behind_digits true bytes) (cond (some && b == 32) (Some Text) (Some Binary)) ≡ Some f → cond c (form_behind_digits true (bytes ++ more)) (cond (some && b == 32) (Some Text) (Some Binary)) ≡ Some f
      at true later k = later k
      at false later k = k

  behind_gap : (bytes : List ℕ) → form_behind_gap bytes ≡ Some f → form_behind_gap (bytes ++ more) ≡ Some f
  behind_gap [] e = absurd cc
  behind_gap (b ∷ bytes) e = at (b == 45) e
    where
      at : (c : Bool) → cond c (form_behind_digits false bytes) (form_behind_digits false (b ∷ bytes)) ≡ Some f → cond c (form_behind_digits false (bytes ++ more)) (form_behind_digits false (b ∷ bytes ++ more)) ≡ Some f
      at true k = behind_digits bytes false k
      at false k = behind_digits (b ∷ bytes) false k

  behind_letter : (bytes : List ℕ) → form_behind_letter bytes ≡ Some f → form_behind_letter (bytes ++ more) ≡ Some f
  behind_letter [] e = absurd cc
  behind_letter (b ∷ bytes) e = at (b == 32) e
    where
      at : (c : Bool) → cond c (form_behind_gap bytes) (Some Binary) ≡ Some f → cond c (form_behind_gap (bytes ++ more)) (Some Binary) ≡ Some f
      at true k = behind_gap bytes k
      at false k = k

  pub form_told : (bytes : List ℕ) → form_of bytes ≡ Some f → form_of (bytes ++ more) ≡ Some f
  form_told [] e = absurd cc
  form_told (b ∷ bytes) e = at (b == 97) (b == 100) e
    where
      at : (a d : Bool) → cond a (Some Binary) (cond d (form_behind_letter bytes) (Some Text)) ≡ Some f → cond a (Some Binary) (cond d (form_behind_letter (bytes ++ more)) (Some Text)) ≡ Some f
      at true d k = k
      at false true k = behind_letter bytes k
      at false false k = k

-- ---- reading

pub reads-append : (xs ys : List ℕ) (r : Reading) → reads r (xs ++ ys) ≡ then (reads r xs) (λ next. reads next ys)
reads-append [] ys r = ap (λ (x : Result Reading DratFault). then x (λ next. reads next ys)) (sym (reads-nil r))
reads-append (b ∷ xs) ys r = reads-byte r b (xs ++ ys) ∙ at (reads_byte r b) (λ next. reads-append xs ys next) ∙ ap (λ (x : Result Reading DratFault). then x (λ next. reads next ys)) (sym (reads-byte r b xs))
  where
    at : (o : Result Reading DratFault) → ((next : Reading) → reads next (xs ++ ys) ≡ then (reads next xs) (λ last. reads last ys))
        → then o (λ next. reads next (xs ++ ys)) ≡ then (then o (λ next. reads next xs)) (λ last. reads last ys)
    at (Ok next) later = later next
    at (Err fault) later = refl

-- the form stays
pub reads_form : (bytes : List ℕ) (r q : Reading) → reads r bytes ≡ Ok q → q.form ≡ r.form
reads_form [] r q e = ap (λ (x : Reading). x.form) (sym (same_ok r q (sym (reads-nil r) ∙ e)))
reads_form (b ∷ bytes) r q e = at (after_byte r.most r.begun r.place b) (λ next k. reads_form bytes next q k) (sym (reads-byte r b bytes) ∙ e)
  where
    at : (o : Result Moved DratFault) → ((next : Reading) → reads next bytes ≡ Ok q → q.form ≡ next.form) → then (moves r o) (λ next. reads next bytes) ≡ Ok q → q.form ≡ r.form
    at (Ok m) later k = later (record r { begun = m.begun; place = m.place; words = with_word r.words m.word }) k
    at (Err fault) later k = absurd cc

-- ---- a form that is known

known_byte : (r : Reading) (f : Form) (b : ℕ) → r.form ≡ Some f → takes_byte r.form r b ≡ reads_byte r b
known_byte r f b e = ap (λ (x : Option Form). takes_byte x r b) e

takes_known : (bytes : List ℕ) (r : Reading) (f : Form) → r.form ≡ Some f → takes r bytes ≡ reads r bytes
takes_known [] r f e = takes-nil r ∙ sym (reads-nil r)
takes_known (b ∷ bytes) r f e =
    takes-byte r b bytes ∙ ap (λ (x : Result Reading DratFault). then x (λ next. takes next bytes)) (known_byte r f b e)
    ∙ at (after_byte r.most r.begun r.place b) (λ next k. takes_known bytes next f k) ∙ sym (reads-byte r b bytes)
  where
    at : (o : Result Moved DratFault) → ((next : Reading) → next.form ≡ Some f → takes next bytes ≡ reads next bytes) → then (moves r o) (λ next. takes next bytes) ≡ then (moves r o) (λ next. reads next bytes)
    at (Ok m) later = later (record r { begun = m.begun; place = m.place; words = with_word r.words m.word }) e
    at (Err fault) later = refl

takes_behind : (xs ys : List ℕ) (r : Reading) (f : Form) → r.form ≡ Some f → then (reads r xs) (λ next. takes next ys) ≡ reads r (xs ++ ys)
takes_behind [] ys r f e = ap (λ (x : Result Reading DratFault). then x (λ next. takes next ys)) (reads-nil r) ∙ takes_known ys r f e
takes_behind (b ∷ xs) ys r f e =
    ap (λ (x : Result Reading DratFault). then x (λ next. takes next ys)) (reads-byte r b xs) ∙ at (after_byte r.most r.begun r.place b) (λ next k. takes_behind xs ys next f k) ∙ sym (reads-byte r b (xs ++ ys))
  where
    at : (o : Result Moved DratFault) → ((next : Reading) → next.form ≡ Some f → then (reads next xs) (λ last. takes last ys) ≡ reads next (xs ++ ys))
        → then (then (moves r o) (λ next. reads next xs)) (λ last. takes last ys) ≡ then (moves r o) (λ next. reads next (xs ++ ys))
    at (Ok m) later = later (record r { begun = m.begun; place = m.place; words = with_word r.words m.word }) e
    at (Err fault) later = refl

-- ---- a form that is not known yet

abbrev pub waiting : ℕ → List ℕ → Reading
waiting most bytes = record { most = most; prefix = bytes; form = None; begun = Nothing; place = Gap; words = [] }

abbrev pub first_reading : ℕ → Form → Reading
first_reading most f = at_place most f Nothing (first_place f) []

-- the place of the first byte in a form that is told
abbrev place_of : Option Form → Place
place_of None = Gap
place_of (Some f) = first_place f

module _ (most : ℕ) where
  waits : (p : List ℕ) (b : ℕ) (bytes : List ℕ) → form_of (p ++ b ∷ []) ≡ None → takes (waiting most p) (b ∷ bytes) ≡ takes (waiting most (p ++ b ∷ [])) bytes
  waits p b bytes e = takes-byte (waiting most p) b bytes ∙ ap (λ (x : Option Form). then (tells (waiting most p) (p ++ b ∷ []) x) (λ next. takes next bytes)) e

  begins : (p : List ℕ) (b : ℕ) (bytes : List ℕ) (f : Form) → form_of (p ++ b ∷ []) ≡ Some f → takes (waiting most p) (b ∷ bytes) ≡ reads (first_reading most f) ((p ++ b ∷ []) ++ bytes)
  begins p b bytes f e =
      takes-byte (waiting most p) b bytes ∙ ap (λ (x : Option Form). then (tells (waiting most p) (p ++ b ∷ []) x) (λ next. takes next bytes)) e ∙ takes_behind (p ++ b ∷ []) bytes (first_reading most f) f refl

  pub takes_untold : (bytes p : List ℕ) → form_of (p ++ bytes) ≡ None → takes (waiting most p) bytes ≡ Ok (waiting most (p ++ bytes))
  takes_untold [] p e = takes-nil (waiting most p) ∙ ap (λ (xs : List ℕ). Ok (waiting most xs)) (sym (append-nil p))
  takes_untold (b ∷ bytes) p e = at (form_of (p ++ b ∷ [])) refl (takes_untold bytes (p ++ b ∷ []))
    where
      split : (p ++ b ∷ []) ++ bytes ≡ p ++ b ∷ bytes
      split = append_assoc p (b ∷ []) bytes

      at : (o : Option Form) → form_of (p ++ b ∷ []) ≡ o → (form_of ((p ++ b ∷ []) ++ bytes) ≡ None → takes (waiting most (p ++ b ∷ [])) bytes ≡ Ok (waiting most ((p ++ b ∷ []) ++ bytes)))
          → takes (waiting most p) (b ∷ bytes) ≡ Ok (waiting most (p ++ b ∷ bytes))
      at None is later = waits p b bytes is ∙ later (ap form_of split ∙ e) ∙ ap (λ (xs : List ℕ). Ok (waiting most xs)) split
      at (Some f) is later = let wrong : Some f ≡ None = sym (form_told bytes f (p ++ b ∷ []) is) ∙ ap form_of split ∙ e in absurd cc

  pub takes_told : (bytes p : List ℕ) (f : Form) → form_of p ≡ None → form_of (p ++ bytes) ≡ Some f → takes (waiting most p) bytes ≡ reads (first_reading most f) (p ++ bytes)
  takes_told [] p f none e = let wrong : None ≡ Some f = sym none ∙ ap form_of (sym (append-nil p)) ∙ e in absurd cc
  takes_told (b ∷ bytes) p f none e = at (form_of (p ++ b ∷ [])) refl (takes_told bytes (p ++ b ∷ []) f)
    where
      split : (p ++ b ∷ []) ++ bytes ≡ p ++ b ∷ bytes
      split = append_assoc p (b ∷ []) bytes

      at : (o : Option Form) → form_of (p ++ b ∷ []) ≡ o → (form_of (p ++ b ∷ []) ≡ None → form_of ((p ++ b ∷ []) ++ bytes) ≡ Some f → takes (waiting most (p ++ b ∷ [])) bytes ≡ reads (first_reading most f) ((p ++ b ∷ []) ++ bytes))
          → takes (waiting most p) (b ∷ bytes) ≡ reads (first_reading most f) (p ++ b ∷ bytes)
      at None is later = waits p b bytes is ∙ later is (ap form_of split ∙ e) ∙ ap (reads (first_reading most f)) split
      at (Some g) is later =
          begins p b bytes g is ∙ ap (reads (first_reading most g)) split ∙ ap (λ (x : Option Form). reads (record (first_reading most g) { form = x; place = place_of x }) (p ++ b ∷ bytes)) (sym (form_told bytes g (p ++ b ∷ []) is) ∙ ap form_of split ∙ e)

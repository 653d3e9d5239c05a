-- A proof in either form, and the text that is handed out of it.
use Rattle.std.proofs.Common.{◌≡◌, ℕ, Bool, true, false, cond, List, [], ◌∷◌, ◌++◌, Option, Some, None, Result, slice_get, refl, sym, ap, subst, ◌∙◌, append_assoc}
use Rattle.std.proofs.lemmas.Bool.{true≢false}
use Rattle.std.proofs.lemmas.List.{append-nil}
use Rattle.std.specs.Result.{result_err}
use Rattle.lrat_text.specs.declared.fault.TextFault.{TextFault}
use Rattle.lrat_binary.specs.Parser.{ReaderState, BetweenStepsWithin, ReadResult, at_end, read}
use Rattle.lrat_forms.specs.Forms.{fault_text, is_binary, is_letter, reading_text, text_form_within, text_in}
use Rattle.lrat_forms.specs.Pieces.{Gives, HasForm, IsAt, given_at, is_cut, text_behind}
use Rattle.lrat_forms.specs.declared.line_writer.LineWriter.{LineWriter}
use Rattle.lrat_forms.specs.declared.text_form.Stage.{Stage}
use Rattle.lrat_forms.specs.declared.text_form.Stage.TheVariants.{Awaiting, Text, Binary, Faulty, OutOfMemory}
use Rattle.lrat_forms.specs.inner.BinaryPiece.{ReadsAt, ReadsOn, stage_at}

-- ---- the text of a whole proof

text_of_none : (begun : ReaderState) → text_in begun [] ≡ []
unfolding text_in
text_of_none begun = refl

text_of_binary : (begun : ReaderState) (b : ℕ) (bytes : List ℕ) → is_letter b ≡ true → text_in begun (b ∷ bytes) ≡ reading_text 1 (read begun (b ∷ bytes))
unfolding text_in
text_of_binary begun b bytes e = ap (λ (x : Bool). cond x (reading_text 1 (read begun (b ∷ bytes))) (b ∷ bytes)) e

text_of_text : (begun : ReaderState) (b : ℕ) (bytes : List ℕ) → is_letter b ≡ false → text_in begun (b ∷ bytes) ≡ b ∷ bytes
unfolding text_in
text_of_text begun b bytes e = ap (λ (x : Bool). cond x (reading_text 1 (read begun (b ∷ bytes))) (b ∷ bytes)) e

form_more : (form : Bool) (bytes more : List ℕ) → HasForm form bytes → HasForm form (bytes ++ more)
form_more form [] more h = absurd h
form_more form (b ∷ bytes) more h = h

form_told : (form : Bool) (bytes : List ℕ) → HasForm form bytes → form ≡ is_binary bytes
form_told form [] h = absurd h
form_told form (b ∷ bytes) h = sym h

-- ---- a piece

not_cut : {P : Type 0} → is_cut OutOfMemory ≡ false → P
not_cut e = absurd (true≢false e)

-- a piece that is read on, whatever the whole text is with what follows
read_on : (whole : List ℕ → List ℕ) (begun : ReaderState) (w : LineWriter) (piece : List ℕ) (stage : Stage) (next : ReaderState) (v : LineWriter) (text : List ℕ) → w.out.items ≡ [] → ReadsOn begun w piece stage next v
    → ((more : List ℕ) → whole more ≡ text ++ reading_text w.top (read begun (piece ++ more))) → is_cut stage ≡ false
    → (more : List ℕ) → whole more ≡ (text ++ given_at stage piece v.out.items) ++ text_behind stage next v.top more
read_on whole begun w piece Awaiting next v text none reads gives e more = absurd reads
read_on whole begun w piece Text next v text none reads gives e more = absurd reads
read_on whole begun w piece OutOfMemory next v text none reads gives e more = not_cut e
read_on whole begun w piece Binary next v text none (t, out, reads) gives e more =
    gives more ∙ ap (λ (xs : List ℕ). text ++ xs) (reads more) ∙ sym (append_assoc text t (text_behind Binary next v.top more))
    ∙ ap (λ (xs : List ℕ). (text ++ xs) ++ text_behind Binary next v.top more) (sym (out ∙ ap (λ (xs : List ℕ). xs ++ t) none))
read_on whole begun w piece Faulty next v text none (t, out, reads) gives e more =
    gives more ∙ ap (λ (xs : List ℕ). text ++ xs) (reads more) ∙ sym (append_assoc text t [])
    ∙ ap (λ (xs : List ℕ). (text ++ xs) ++ []) (sym (out ∙ ap (λ (xs : List ℕ). xs ++ t) none))

at_form : (most : ℕ) (begun : ReaderState) (w : LineWriter) (piece : List ℕ) (stage : Stage) (next : ReaderState) (v : LineWriter) (bytes : List ℕ) → ReadsOn begun w piece stage next v → HasForm true bytes → IsAt most stage next v.top bytes
at_form most begun w piece Awaiting next v bytes reads h = absurd reads
at_form most begun w piece Text next v bytes reads h = absurd reads
at_form most begun w piece Binary next v bytes reads h = h
at_form most begun w piece Faulty next v bytes reads h = h
at_form most begun w piece OutOfMemory next v bytes reads h = tt

abbrev pub Fed : ℕ → List ℕ → List ℕ → List ℕ → Stage → ReaderState → LineWriter → Type 0
Fed most piece bytes text s next v = Gives most s next v.top (bytes ++ piece) (text ++ given_at s piece v.out.items)

module _ (most : ℕ) (begun : ReaderState) (w : LineWriter) (b : ℕ) (later : List ℕ) (none : w.out.items ≡ []) (s : Stage) (next : ReaderState) (v : LineWriter) (bytes text : List ℕ) where
  piece : List ℕ
  piece = b ∷ later

  abbrev whole : List ℕ → List ℕ
  whole more = text_form_within most ((bytes ++ b ∷ later) ++ more)

  binary_fed : HasForm true (bytes ++ b ∷ later) → ((more : List ℕ) → text_form_within most (bytes ++ (b ∷ later ++ more)) ≡ text ++ reading_text w.top (read begun (b ∷ later ++ more)))
      → ReadsOn begun w (b ∷ later) s next v → Fed most (b ∷ later) bytes text s next v
  binary_fed form gives reads = record {
    form = at_form most begun w (b ∷ later) s next v (bytes ++ b ∷ later) reads form;
    gives = λ uncut more. read_on whole begun w (b ∷ later) s next v text none reads (λ more. ap (text_form_within most) (append_assoc bytes (b ∷ later) more) ∙ gives more) uncut more;
  }

  text_fed : HasForm false (bytes ++ b ∷ later) → ((more : List ℕ) → text_form_within most (bytes ++ (b ∷ later ++ more)) ≡ text ++ (b ∷ later ++ more)) → s ≡ Text → Fed most (b ∷ later) bytes text s next v
  text_fed form gives same =
      let at : Fed most (b ∷ later) bytes text Text next v = record {
        form = form;
        gives = λ uncut more. ap (text_form_within most) (append_assoc bytes (b ∷ later) more) ∙ gives more ∙ sym (append_assoc text (b ∷ later) more);
      } in
      subst (λ (x : Stage). Fed most (b ∷ later) bytes text x next v) (sym same) at

  awaiting_fed : (x : Bool) → is_letter b ≡ x → ReadsAt (cond x Binary Text) begun w (b ∷ later) s next v → Gives most Awaiting begun w.top bytes text → Fed most (b ∷ later) bytes text s next v
  awaiting_fed true e reads h =
      binary_fed (subst (λ (xs : List ℕ). HasForm true (xs ++ b ∷ later)) (sym h.form.0) e)
      (λ more. h.gives refl (b ∷ later ++ more) ∙ ap (λ (xs : List ℕ). text ++ xs) (text_of_binary begun b (later ++ more) e
      ∙ ap (λ (n : ℕ). reading_text n (read begun (b ∷ later ++ more))) (sym h.form.2)))
      reads
  awaiting_fed false e reads h =
      text_fed (subst (λ (xs : List ℕ). HasForm false (xs ++ b ∷ later)) (sym h.form.0) e)
      (λ more. h.gives refl (b ∷ later ++ more) ∙ ap (λ (xs : List ℕ). text ++ xs) (text_of_text begun b (later ++ more) e)) reads.0

  -- after a fault nothing is handed out
  ended_fed : s ≡ Faulty → v ≡ w → Gives most Faulty begun w.top bytes text → Fed most (b ∷ later) bytes text s next v
  ended_fed same kept h =
      let at : Fed most (b ∷ later) bytes text Faulty next v = record {
        form = form_more true bytes (b ∷ later) h.form;
        gives = λ uncut more.
            ap (text_form_within most) (append_assoc bytes (b ∷ later) more) ∙ h.gives refl (b ∷ later ++ more)
            ∙ ap (λ (xs : List ℕ). xs ++ []) (sym (ap (λ (xs : List ℕ). text ++ xs) (ap (λ (u : LineWriter). u.out.items) kept ∙ none) ∙ append-nil text));
      } in
      subst (λ (x : Stage). Fed most (b ∷ later) bytes text x next v) (sym same) at

  cut_fed : s ≡ OutOfMemory → Fed most (b ∷ later) bytes text s next v
  cut_fed same =
      let at : Fed most (b ∷ later) bytes text OutOfMemory next v = record { form = tt; gives = λ uncut more. not_cut uncut } in
      subst (λ (x : Stage). Fed most (b ∷ later) bytes text x next v) (sym same) at

  pub fed : (stage : Stage) → ReadsAt (stage_at stage b) begun w (b ∷ later) s next v → Gives most stage begun w.top bytes text → Fed most (b ∷ later) bytes text s next v
  fed Awaiting reads h = awaiting_fed (is_letter b) refl reads h
  fed Text reads h = text_fed (form_more false bytes (b ∷ later) h.form) (λ more. h.gives refl (b ∷ later ++ more)) reads.0
  fed Binary reads h = binary_fed (form_more true bytes (b ∷ later) h.form) (λ more. h.gives refl (b ∷ later ++ more)) reads
  fed Faulty reads h = ended_fed reads.0 reads.2 h
  fed OutOfMemory reads h = cut_fed reads.0

pub nothing_first : (xs : List ℕ) → None ≡ slice_get xs 0 → xs ≡ []
nothing_first [] e = refl
nothing_first (x ∷ xs) e = absurd cc

pub first_is : (xs : List ℕ) (x : ℕ) → Some x ≡ slice_get xs 0 → (rest : List ℕ) × (xs ≡ x ∷ rest)
first_is [] x e = absurd cc
first_is (y ∷ xs) x e = (xs, (let h : y ≡ x = cc in ap (λ (b : ℕ). b ∷ xs) h))

-- no byte comes
pub fed_none : (most : ℕ) (stage : Stage) (begun : ReaderState) (top : ℕ) (out bytes text : List ℕ) → out ≡ [] → Gives most stage begun top bytes text → Gives most stage begun top (bytes ++ []) (text ++ given_at stage [] out)
fed_none most stage begun top out bytes text none h =
    subst (λ (xs : List ℕ). Gives most stage begun top xs (text ++ given_at stage [] out)) (sym (append-nil bytes))
    (subst (Gives most stage begun top bytes) (sym (ap (λ (xs : List ℕ). text ++ xs) (nothing stage) ∙ append-nil text)) h)
  where
    nothing : (stage : Stage) → given_at stage [] out ≡ []
    nothing Awaiting = none
    nothing Text = refl
    nothing Binary = none
    nothing Faulty = none
    nothing OutOfMemory = none

-- ---- the beginning and the end

pub begins : (most : ℕ) (begun : ReaderState) → begun ≡ BetweenStepsWithin most → Gives most Awaiting begun 1 [] []
begins most begun e = record { form = (refl, e, refl); gives = λ uncut more. ap (λ (s : ReaderState). text_in s more) (sym e) }

read-end : (begun : ReaderState) → read begun [] ≡ at_end begun
unfolding read
read-end begun = refl

-- what is left of the text
abbrev pub left_at : Stage → ReaderState → ℕ → List ℕ
left_at stage begun top = text_behind stage begun top []

pub binary_left : (begun : ReaderState) (top : ℕ) (r : Result (Unit {0}) TextFault) → at_end begun ≡ ([], result_err r) → left_at Binary begun top ≡ fault_text (result_err r)
binary_left begun top r e = ap (reading_text top) (read-end begun ∙ e)

pub other_left : (stage : Stage) (begun : ReaderState) (top : ℕ) → (stage ≡ Binary → ⊥) → left_at stage begun top ≡ []
other_left Awaiting begun top other = text_of_none begun
other_left Text begun top other = refl
other_left Binary begun top other = absurd (other refl)
other_left Faulty begun top other = refl
other_left OutOfMemory begun top other = refl

pub whole_text : (most : ℕ) (stage : Stage) (begun : ReaderState) (top : ℕ) (bytes text rest : List ℕ) → rest ≡ left_at stage begun top → Gives most stage begun top bytes text → is_cut stage ≡ false
    → text_form_within most bytes ≡ text ++ rest
whole_text most stage begun top bytes text rest e h uncut = ap (text_form_within most) (sym (append-nil bytes)) ∙ h.gives uncut [] ∙ ap (λ (xs : List ℕ). text ++ xs) (sym e)

abbrev is_in_binary : Stage → Bool
is_in_binary Awaiting = false
is_in_binary Text = false
is_in_binary Binary = true
is_in_binary Faulty = true
is_in_binary OutOfMemory = false

pub told_form : (most : ℕ) (stage : Stage) (begun : ReaderState) (top : ℕ) (bytes text : List ℕ) → Gives most stage begun top bytes text → is_cut stage ≡ false → is_in_binary stage ≡ is_binary bytes
told_form most Awaiting begun top bytes text h uncut = ap is_binary (sym h.form.0)
told_form most Text begun top bytes text h uncut = form_told false bytes h.form
told_form most Binary begun top bytes text h uncut = form_told true bytes h.form
told_form most Faulty begun top bytes text h uncut = form_told true bytes h.form
told_form most OutOfMemory begun top bytes text h uncut = not_cut uncut

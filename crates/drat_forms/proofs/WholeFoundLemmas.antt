-- A whole proof that is read is spelled.
use Rattle.std.proofs.Common.{◌≡◌, ℕ, List, [], ◌∷◌, ◌++◌, Option, Some, None, Result, Ok, Err, refl, sym, ap, subst, ◌∙◌}
use Rattle.drat_forms.specs.Form.{form_of}
use Rattle.drat_forms.specs.Grammar.{DratStep, Spells, SpellsIn, words_of}
use Rattle.drat_forms.specs.Reading.{Reading, reads, reads_byte, then, ends, ends_at, ends_prefix}
use Rattle.drat_forms.specs.Whole.{GivesWords}
use Rattle.drat_forms.specs.declared.fault.DratFault.{DratFault}
use Rattle.drat_forms.specs.declared.form.Form.{Form}
use Rattle.drat_forms.specs.declared.form.Form.TheVariants.{Text, Binary}
use Rattle.drat_forms.specs.declared.place.Begun.{Begun}
use Rattle.drat_forms.specs.declared.place.Begun.TheVariants.{Nothing}
use Rattle.drat_forms.specs.declared.place.Place.{Place}
use Rattle.drat_forms.specs.declared.place.Place.TheVariants.{Gap, Step, Refuted}
use Rattle.drat_forms.proofs.FormLemmas.{reads-append, reads_form, waiting, first_reading, takes_untold, takes_told}
use Rattle.drat_forms.proofs.FoundLemmas.{same_ok, found_on}
use Rattle.drat_forms.proofs.ReadingLemmas.{reads-byte, reads-nil}
use Rattle.drat_forms.proofs.SpelledSoFar.{StepsCome, TextSteps, BinarySteps}

-- the end changes nothing
ended_same : (r q : Reading) (begun : Begun) (place : Place) → ends_at r begun place ≡ Ok q → r ≡ q
ended_same r q Nothing Gap e = same_ok r q e
ended_same r q Nothing Step e = same_ok r q e
ended_same r q begun Refuted e = same_ok r q e
ended_same r q begun place e = absurd cc

abbrev Found : ℕ → List ℕ → List ℕ → Option Form → Type 0
Found most bytes words form = (steps : List DratStep) × (words ≡ words_of steps) × SpellsIn form most bytes steps

nothing_untold : (most : ℕ) (bytes : List ℕ) (q : Reading) → ends_prefix (waiting most bytes) bytes ≡ Ok q → ⊥
nothing_untold most [] q e = cc
nothing_untold most (b ∷ bytes) q e = cc

-- a byte that follows
one_more : (r next : Reading) (bytes : List ℕ) (b : ℕ) (last : Reading) → reads r bytes ≡ Ok next → reads_byte next b ≡ Ok last → reads r (bytes ++ b ∷ []) ≡ Ok last
one_more r next bytes b last e k =
    reads-append bytes (b ∷ []) r ∙ ap (λ (x : Result Reading DratFault). then x (λ n. reads n (b ∷ []))) e
    ∙ reads-byte next b [] ∙ ap (λ (x : Result Reading DratFault). then x (λ n. reads n [])) k ∙ reads-nil last

found_text : (most : ℕ) (bytes : List ℕ) (taken ended : Reading) → reads (first_reading most Text) bytes ≡ Ok taken → then (reads_byte taken 10) (λ last. ends_at last last.begun last.place) ≡ Ok ended → Found most bytes ended.words (Some Text)
found_text most bytes taken ended e k = at (reads_byte taken 10) refl k
  where
    at : (o : Result Reading DratFault) → reads_byte taken 10 ≡ o → then o (λ last. ends_at last last.begun last.place) ≡ Ok ended → Found most bytes ended.words (Some Text)
    at (Err fault) is l = absurd cc
    at (Ok last) is l =
        let i = found_on most Text (bytes ++ 10 ∷ []) Nothing Gap [] last ended (one_more (first_reading most Text) taken bytes 10 last e is) l in
        let s : StepsCome (TextSteps most) (bytes ++ 10 ∷ []) i.later = i.spelled in
        (s.steps, ap (λ (x : Reading). x.words) (sym (ended_same last ended last.begun last.place l)) ∙ i.is ∙ s.is, s.spelled)

found_binary : (most : ℕ) (bytes : List ℕ) (taken ended : Reading) → reads (first_reading most Binary) bytes ≡ Ok taken → ends_at taken taken.begun taken.place ≡ Ok ended → Found most bytes ended.words (Some Binary)
found_binary most bytes taken ended e k =
    let i = found_on most Binary bytes Nothing Step [] taken ended e k in
    let s : StepsCome (BinarySteps most) bytes i.later = i.spelled in
    (s.steps, ap (λ (x : Reading). x.words) (sym (ended_same taken ended taken.begun taken.place k)) ∙ i.is ∙ s.is, s.spelled)

pub found_whole : (most : ℕ) (bytes words : List ℕ) → GivesWords most bytes words → (steps : List DratStep) × (words ≡ words_of steps) × Spells most bytes steps
found_whole most bytes words h = subst (λ (ws : List ℕ). Found most bytes ws (form_of bytes)) h.gives (at (form_of bytes) refl)
  where
    at : (o : Option Form) → form_of bytes ≡ o → Found most bytes h.ended.words o
    at None is =
        let e : waiting most bytes ≡ h.taken = same_ok (waiting most bytes) h.taken (sym (takes_untold most bytes [] is) ∙ h.takes_all) in
        absurd (nothing_untold most bytes h.ended (subst (λ (x : Reading). ends x.form x ≡ Ok h.ended) (sym e) h.ends_there))
    at (Some Text) is =
        let e : reads (first_reading most Text) bytes ≡ Ok h.taken = sym (takes_told most bytes [] Text refl is) ∙ h.takes_all in
        found_text most bytes h.taken h.ended e (subst (λ (x : Option Form). ends x h.taken ≡ Ok h.ended) (reads_form bytes (first_reading most Text) h.taken e) h.ends_there)
    at (Some Binary) is =
        let e : reads (first_reading most Binary) bytes ≡ Ok h.taken = sym (takes_told most bytes [] Binary refl is) ∙ h.takes_all in
        found_binary most bytes h.taken h.ended e (subst (λ (x : Option Form). ends x h.taken ≡ Ok h.ended) (reads_form bytes (first_reading most Binary) h.taken e) h.ends_there)

-- What is read is spelled.
use Rattle.std.proofs.Common.{◌≡◌, ℕ, List, [], ◌∷◌, ◌++◌, Option, Some, None, Result, Ok, Err, refl, sym, ap, subst, ◌∙◌, append_assoc, append-nil}
use Rattle.drat_forms.specs.Grammar.{nothing}
use Rattle.drat_forms.specs.Moves.{after_byte}
use Rattle.drat_forms.specs.Reading.{Reading, reads, moves, then, with_word, ends_at}
use Rattle.drat_forms.specs.declared.fault.DratFault.{DratFault}
use Rattle.drat_forms.specs.declared.form.Form.{Form}
use Rattle.drat_forms.specs.declared.moves.Moved.{Moved}
use Rattle.drat_forms.specs.declared.place.Begun.{Begun}
use Rattle.drat_forms.specs.declared.place.Begun.TheVariants.{Nothing}
use Rattle.drat_forms.specs.declared.place.Place.{Place}
use Rattle.drat_forms.specs.declared.place.Place.TheVariants.{Gap, Letter, Comment, Minus, Digits, Step, Bits, Refuted}
use Rattle.drat_forms.proofs.ReadingLemmas.{reads-byte, reads-nil}
use Rattle.drat_forms.proofs.FoundTextLemmas.{found_gap, found_letter, found_comment, found_minus, found_digits}
use Rattle.drat_forms.proofs.FoundBinaryLemmas.{found_step, found_bits}
use Rattle.drat_forms.proofs.SpelledSoFar.{FromPlace, FromMove, word_before}

found_byte : (most : ℕ) (begun : Begun) (place : Place) (b : ℕ) (bytes words : List ℕ) → FromMove most (after_byte most begun place b) bytes words → FromPlace most begun place (b ∷ bytes) words
found_byte most begun Gap b bytes words h = found_gap most begun b bytes words h
found_byte most begun Letter b bytes words h = found_letter most begun b bytes words h
found_byte most begun Comment b bytes words h = found_comment most begun b bytes words h
found_byte most begun Minus b bytes words h = found_minus most begun b bytes words h
found_byte most begun (Digits negative value) b bytes words h = found_digits most begun negative value b bytes words h
found_byte most begun Step b bytes words h = found_step most b bytes words h
found_byte most begun (Bits value weight) b bytes words h = found_bits most begun value weight b bytes words h
found_byte most begun Refuted b bytes words h = h.1 ∙ h.2

-- at the end
found_end : (most : ℕ) (r q : Reading) (begun : Begun) (place : Place) → ends_at r begun place ≡ Ok q → FromPlace most begun place [] []
found_end most r q Nothing Gap e = record { steps = []; spelled = nothing; is = refl }
found_end most r q Nothing Step e = record { steps = []; spelled = refl; is = refl }
found_end most r q begun Refuted e = refl
found_end most r q begun place e = absurd cc

-- the reading at a place
abbrev pub at_place : ℕ → Form → Begun → Place → List ℕ → Reading
at_place most form begun place words = record { most = most; prefix = []; form = Some form; begun = begun; place = place; words = words }

-- what is read on from a place gives words more
pub record FoundOn (most : ℕ) (begun : Begun) (place : Place) (bytes words all : List ℕ) : Type 0 where
  pub later : List ℕ
  pub is : all ≡ words ++ later
  pub spelled : FromPlace most begun place bytes later

with_word-append : (words : List ℕ) (word : Option ℕ) (later : List ℕ) → with_word words word ++ later ≡ words ++ word_before word later
with_word-append words None later = refl
with_word-append words (Some w) later = append_assoc words (w ∷ []) later

or_else : Reading → Result Reading DratFault → Reading
or_else d (Ok r) = r
or_else d (Err fault) = d

pub same_ok : (r q : Reading) → ◌≡◌ {A = Result Reading DratFault} (Ok r) (Ok q) → r ≡ q
unfolding or_else
same_ok r q e = ap (or_else q) e

pub found_on : (most : ℕ) (form : Form) (bytes : List ℕ) (begun : Begun) (place : Place) (words : List ℕ) (q r : Reading) → reads (at_place most form begun place words) bytes ≡ Ok q → ends_at q q.begun q.place ≡ Ok r
    → FoundOn most begun place bytes words q.words
found_on most form [] begun place words q r h ends =
    let e : at_place most form begun place words ≡ q = same_ok (at_place most form begun place words) q (sym (reads-nil (at_place most form begun place words)) ∙ h) in
    record {
      later = [];
      is = ap (λ (x : Reading). x.words) (sym e) ∙ sym (append-nil words);
      spelled = found_end most (at_place most form begun place words) r begun place (subst (λ (x : Reading). ends_at x x.begun x.place ≡ Ok r) (sym e) ends);
    }
found_on most form (b ∷ bytes) begun place words q r h ends =
    by_move (after_byte most begun place b) (λ later k. found_byte most begun place b bytes later k) (λ m k. found_on most form bytes m.begun m.place (with_word words m.word) q r k ends)
    (sym (reads-byte (at_place most form begun place words) b bytes) ∙ h)
  where
    by_move : (o : Result Moved DratFault) → ((later : List ℕ) → FromMove most o bytes later → FromPlace most begun place (b ∷ bytes) later)
        → ((m : Moved) → reads (at_place most form m.begun m.place (with_word words m.word)) bytes ≡ Ok q → FoundOn most m.begun m.place bytes (with_word words m.word) q.words)
        → then (moves (at_place most form begun place words) o) (λ next. reads next bytes) ≡ Ok q → FoundOn most begun place (b ∷ bytes) words q.words
    by_move (Err fault) back on e = absurd cc
    by_move (Ok m) back on e =
        let i = on m e in
        record { later = word_before m.word i.later; is = i.is ∙ with_word-append words m.word i.later; spelled = back (word_before m.word i.later) (i.later, refl, i.spelled) }

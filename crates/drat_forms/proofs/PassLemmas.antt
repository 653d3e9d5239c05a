-- How a reading goes on.
use Rattle.std.proofs.Common.{◌≡◌, ℕ, List, [], ◌∷◌, ◌++◌, Result, Ok, ap, ◌∙◌, append_assoc}
use Rattle.drat_forms.specs.Moves.{after_byte}
use Rattle.drat_forms.specs.Reading.{Reading, reads, moves, then, with_word, ends_at}
use Rattle.drat_forms.specs.declared.fault.DratFault.{DratFault}
use Rattle.drat_forms.specs.declared.form.Form.{Form}
use Rattle.drat_forms.specs.declared.moves.Moved.{Moved}
use Rattle.drat_forms.specs.declared.place.Begun.{Begun}
use Rattle.drat_forms.specs.declared.place.Begun.TheVariants.{Nothing}
use Rattle.drat_forms.specs.declared.place.Place.{Place}
use Rattle.drat_forms.specs.declared.place.Place.TheVariants.{Refuted}
use Rattle.drat_forms.proofs.ReadingLemmas.{reads-byte, reads-nil}
use Rattle.drat_forms.proofs.FoundLemmas.{at_place}

-- a byte leads to the next place
pub byte_passes : (most : ℕ) (form : Form) (begun : Begun) (place : Place) (words : List ℕ) (b : ℕ) (bytes : List ℕ) (m : Moved) → after_byte most begun place b ≡ Ok m
    → reads (at_place most form begun place words) (b ∷ bytes) ≡ reads (at_place most form m.begun m.place (with_word words m.word)) bytes
byte_passes most form begun place words b bytes m e =
    reads-byte (at_place most form begun place words) b bytes ∙ ap (λ (o : Result Moved DratFault). then (moves (at_place most form begun place words) o) (λ next. reads next bytes)) e

-- nothing is read behind the empty clause
pub refuted_passes : (most : ℕ) (form : Form) (begun : Begun) (words bytes : List ℕ) → reads (at_place most form begun Refuted words) bytes ≡ Ok (at_place most form begun Refuted words)
refuted_passes most form begun words [] = reads-nil (at_place most form begun Refuted words)
refuted_passes most form begun words (b ∷ bytes) = reads-byte (at_place most form begun Refuted words) b bytes ∙ refuted_passes most form begun words bytes

-- the bytes are read to an end, and these are the words then
pub record Passed (r : Reading) (bytes words : List ℕ) : Type 0 where
  pub last : Reading
  pub reads_all : reads r bytes ≡ Ok last
  pub ends_there : ends_at last last.begun last.place ≡ Ok last
  pub gives : last.words ≡ words

pub passed_end : (r : Reading) (bytes : List ℕ) (last : Reading) (words : List ℕ) → reads r bytes ≡ Ok last → ends_at last last.begun last.place ≡ Ok last → last.words ≡ words → Passed r bytes words
passed_end r bytes last words reads ends is = record { last = last; reads_all = reads; ends_there = ends; gives = is }

-- a step, and those behind it
pub passed_step : (most : ℕ) (form : Form) (place : Place) (end : ℕ) (words codes later bytes rest : List ℕ) → reads (at_place most form Nothing place words) bytes ≡ reads (at_place most form Nothing place (words ++ (codes ++ end ∷ []))) rest
    → Passed (at_place most form Nothing place (words ++ (codes ++ end ∷ []))) rest ((words ++ (codes ++ end ∷ [])) ++ later) → Passed (at_place most form Nothing place words) bytes (words ++ (codes ++ end ∷ later))
passed_step most form place end words codes later bytes rest e p = record {
  last = p.last;
  reads_all = e ∙ p.reads_all;
  ends_there = p.ends_there;
  gives = p.gives ∙ append_assoc words (codes ++ end ∷ []) later ∙ ap (λ (xs : List ℕ). words ++ xs) (append_assoc codes (end ∷ []) later);
}

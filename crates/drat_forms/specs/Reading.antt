-- A DRAT proof that comes byte by byte, and the words that it gives: the code of each literal, from 2 on, 0 at the end of an addition and 1
-- at the end of a deletion.
use Rattle.std.specs.Prelude.{ℕ, List, [], ◌∷◌, ◌++◌, Option, Some, None, Result, Ok, Err}
use Rattle.std.specs.Str.{byte}
use Rattle.drat_forms.specs.Form.{form_of}
use Rattle.drat_forms.specs.Moves.{after_byte}
use Rattle.drat_forms.specs.declared.fault.DratFault.{DratFault}
use Rattle.drat_forms.specs.declared.fault.DratFault.TheVariants.{BadByte, StepNotEnded, Empty}
use Rattle.drat_forms.specs.declared.form.Form.{Form}
use Rattle.drat_forms.specs.declared.form.Form.TheVariants.{Text, Binary}
use Rattle.drat_forms.specs.declared.moves.Moved.{Moved}
use Rattle.drat_forms.specs.declared.place.Begun.{Begun}
use Rattle.drat_forms.specs.declared.place.Begun.TheVariants.{Nothing, Addition, Deletion}
use Rattle.drat_forms.specs.declared.place.Place.{Place}
use Rattle.drat_forms.specs.declared.place.Place.TheVariants.{Gap, Letter, Comment, Minus, Digits, Step, Bits, Refuted}

-- What is known after some bytes of a proof: the greatest variable that it may have; the bytes, as long as they do not tell its form; the
-- form; what is read of the step that is begun; the place of the next byte; and the words that were not taken yet.
pub record Reading : Type 0 where
  pub most : ℕ
  pub prefix : List ℕ
  pub form : Option Form
  pub begun : Begun
  pub place : Place
  pub words : List ℕ

-- the reading of a proof of which no byte has come
abbrev pub start : ℕ → Reading
start most = record { most = most; prefix = []; form = None; begun = Nothing; place = Gap; words = [] }

-- the place of a form's first byte
abbrev pub first_place : Form → Place
first_place Text = Gap
first_place Binary = Step

-- the words with one more, if there is one
abbrev pub with_word : List ℕ → Option ℕ → List ℕ
with_word words None = words
with_word words (Some word) = words ++ word ∷ []

-- the reading after a move
abbrev pub moves : Reading → Result Moved DratFault → Result Reading DratFault
moves r (Ok m) = Ok (record r { begun = m.begun; place = m.place; words = with_word r.words m.word })
moves r (Err fault) = Err fault

-- what later gives after a reading that has no fault
abbrev pub then : Result Reading DratFault → (Reading → Result Reading DratFault) → Result Reading DratFault
then (Ok r) later = later r
then (Err fault) later = Err fault

-- a byte of a proof whose form is known
abbrev pub reads_byte : Reading → ℕ → Result Reading DratFault
reads_byte r b = moves r (after_byte r.most r.begun r.place b)

-- bytes of a proof whose form is known
unfoldable pub reads : Reading → List ℕ → Result Reading DratFault
reads r [] = Ok r
reads r (b ∷ bytes) = then (reads_byte r b) (λ next. reads next bytes)

-- the first bytes of a proof, which tell this form or not yet
abbrev pub tells : Reading → List ℕ → Option Form → Result Reading DratFault
tells r bytes None = Ok (record r { prefix = bytes })
tells r bytes (Some form) = reads (record r { prefix = []; form = Some form; place = first_place form }) bytes

-- a byte, whether the form is known or not
abbrev pub takes_byte : Option Form → Reading → ℕ → Result Reading DratFault
takes_byte (Some form) r b = reads_byte r b
takes_byte None r b = tells r (r.prefix ++ b ∷ []) (form_of (r.prefix ++ b ∷ []))

-- the next bytes of a proof
unfoldable pub takes : Reading → List ℕ → Result Reading DratFault
takes r [] = Ok r
takes r (b ∷ bytes) = then (takes_byte r.form r b) (λ next. takes next bytes)

-- whether a step is begun at the end: what is read of it, and the place
abbrev pub ends_at : Reading → Begun → Place → Result Reading DratFault
ends_at r Nothing Gap = Ok r
ends_at r Nothing Step = Ok r
ends_at r begun Refuted = Ok r
ends_at r begun place = Err StepNotEnded

-- the end of a text is white space, since no LF need be there; the end of a proof in binary form is the end of a step
abbrev pub ends_form : Form → Reading → Result Reading DratFault
ends_form Text r = then (reads_byte r (byte "\n")) (λ last. ends_at last last.begun last.place)
ends_form Binary r = ends_at r r.begun r.place

-- the end of the bytes; a proof whose form its bytes do not tell ends in its first deletion, or has no byte
abbrev pub ends_prefix : Reading → List ℕ → Result Reading DratFault
ends_prefix r [] = Err Empty
ends_prefix r (b ∷ bytes) = Err StepNotEnded

abbrev pub ends : Option Form → Reading → Result Reading DratFault
ends None r = ends_prefix r r.prefix
ends (Some form) r = ends_form form r

-- A proof in either form that comes in pieces, and the text that the converter has given for them. The state of the converter is its stage,
-- the state begun of its binary reader, and top, the number of the last addition (1 before the first one).
use Rattle.std.specs.Prelude.{◌≡◌, ℕ, Bool, true, false, List, [], ◌∷◌, ◌++◌}
use Rattle.lrat_binary.specs.Parser.{ReaderState, BetweenStepsWithin, read}
use Rattle.lrat_forms.specs.Forms.{is_letter, reading_text, text_form_within, text_in}
use Rattle.lrat_forms.specs.declared.text_form.Stage.{Stage}
use Rattle.lrat_forms.specs.declared.text_form.Stage.TheVariants.{Awaiting, Text, Binary, Faulty, OutOfMemory}
use Rattle.lrat_forms.specs.declared.text_form.TextForm.{TextForm}

-- the text that the converter will give, in this state, for all bytes more that follow
abbrev pub text_behind : Stage → ReaderState → ℕ → List ℕ → List ℕ
text_behind Awaiting begun top more = text_in begun more
text_behind Text begun top more = more
text_behind Binary begun top more = reading_text top (read begun more)
text_behind Faulty begun top more = []
text_behind OutOfMemory begun top more = []

-- the proof has a first byte, and is in binary form if and only if form is true
abbrev pub HasForm : Bool → List ℕ → Type 0
HasForm form [] = ⊥
HasForm form (b ∷ bytes) = is_letter b ≡ form

-- after these bytes of a proof with variables up to most the converter can be in this state: the stage agrees with the first byte, and
-- before it the state is the initial one
abbrev pub IsAt : ℕ → Stage → ReaderState → ℕ → List ℕ → Type 0
IsAt most Awaiting begun top bytes = (bytes ≡ []) × (begun ≡ BetweenStepsWithin most) × (top ≡ 1)
IsAt most Text begun top bytes = HasForm false bytes
IsAt most Binary begun top bytes = HasForm true bytes
IsAt most Faulty begun top bytes = HasForm true bytes
IsAt most OutOfMemory begun top bytes = Unit {0}

-- whether memory was refused
abbrev pub is_cut : Stage → Bool
is_cut Awaiting = false
is_cut Text = false
is_cut Binary = false
is_cut Faulty = false
is_cut OutOfMemory = true

-- The converter has read these bytes, with variables up to most, and given this text, and is now in this state. Unless memory was refused:
-- for all bytes more that follow, the text of bytes ++ more is this text and then the text for more in this state.
pub record Gives (most : ℕ) (stage : Stage) (begun : ReaderState) (top : ℕ) (bytes text : List ℕ) : Type 0 where
  pub form : IsAt most stage begun top bytes
  pub gives : is_cut stage ≡ false → (more : List ℕ) → text_form_within most (bytes ++ more) ≡ text ++ text_behind stage begun top more

-- the converter f has read these bytes, with variables up to most, and given this text
abbrev pub HasGivenWithin : ℕ → TextForm → List ℕ → List ℕ → Type 0
HasGivenWithin most f bytes text = Gives most f.stage f.reader f.writer.top bytes text

-- the same with variables up to 2,000,000
abbrev pub HasGiven : TextForm → List ℕ → List ℕ → Type 0
HasGiven f bytes text = HasGivenWithin 2000000 f bytes text

-- the text for the piece that was read last: the piece itself if the proof is a text, otherwise what was written
abbrev pub given_at : Stage → List ℕ → List ℕ → List ℕ
given_at Text piece out = piece
given_at Awaiting piece out = out
given_at Binary piece out = out
given_at Faulty piece out = out
given_at OutOfMemory piece out = out

-- the text that the converter f gives for the piece that was read last
abbrev pub given_of : TextForm → List ℕ → List ℕ
given_of f piece = given_at f.stage piece f.writer.out.items

-- One piece of a proof in binary form: how the converter comes from one state to another.
use Rattle.std.specs.Prelude.{◌≡◌, ℕ, List, ◌++◌, if◌then◌else◌}
use Rattle.lrat_binary.specs.Parser.{ReaderState, read}
use Rattle.lrat_forms.specs.Forms.{is_letter, reading_text}
use Rattle.lrat_forms.specs.Pieces.{text_behind}
use Rattle.lrat_forms.specs.declared.line_writer.LineWriter.{LineWriter}
use Rattle.lrat_forms.specs.declared.text_form.Stage.{Stage}
use Rattle.lrat_forms.specs.declared.text_form.Stage.TheVariants.{Awaiting, Text, Binary, Faulty, OutOfMemory}

-- Reading the piece leads from the reader's state begun and the writer old to this stage, the state next and the writer new, and appends
-- some text. For all bytes more that follow, the text of piece ++ more is that text and then the text for more in the new state.
abbrev pub Appends : ReaderState → LineWriter → List ℕ → Stage → ReaderState → LineWriter → Type 0
Appends begun old piece stage next new =
    (text : List ℕ) × (new.out.items ≡ old.out.items ++ text)
    × ((more : List ℕ) → reading_text old.top (read begun (piece ++ more)) ≡ text ++ text_behind stage next new.top more)

-- reading a piece leads from begun and old to this stage, next and new: the stage is Binary, Faulty, or OutOfMemory, of which nothing is
-- said
abbrev pub ReadsOn : ReaderState → LineWriter → List ℕ → Stage → ReaderState → LineWriter → Type 0
ReadsOn begun old piece Awaiting next new = ⊥
ReadsOn begun old piece Text next new = ⊥
ReadsOn begun old piece Binary next new = Appends begun old piece Binary next new
ReadsOn begun old piece Faulty next new = Appends begun old piece Faulty next new
ReadsOn begun old piece OutOfMemory next new = Unit {0}

-- the stage after the first byte of a piece: that byte tells the form if the proof had no byte yet
abbrev pub stage_at : Stage → ℕ → Stage
stage_at Awaiting b = if is_letter b then Binary else Text
stage_at Text b = Text
stage_at Binary b = Binary
stage_at Faulty b = Faulty
stage_at OutOfMemory b = OutOfMemory

-- the stage result, the reader's state next and the writer new are those before: stage, begun and old
abbrev pub IsSame : Stage → ReaderState → LineWriter → Stage → ReaderState → LineWriter → Type 0
IsSame stage begun old result next new = (result ≡ stage) × (next ≡ begun) × (new ≡ old)

-- a piece leads from a stage, begun and old to result, next and new: it is read if the stage is Binary, and nothing changes in the other
-- ones
abbrev pub ReadsAt : Stage → ReaderState → LineWriter → List ℕ → Stage → ReaderState → LineWriter → Type 0
ReadsAt Awaiting begun old piece result next new = IsSame Awaiting begun old result next new
ReadsAt Text begun old piece result next new = IsSame Text begun old result next new
ReadsAt Binary begun old piece result next new = ReadsOn begun old piece result next new
ReadsAt Faulty begun old piece result next new = IsSame Faulty begun old result next new
ReadsAt OutOfMemory begun old piece result next new = IsSame OutOfMemory begun old result next new

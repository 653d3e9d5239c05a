-- A session's proof and its events, as they come in pieces.
use mathlib.Core.Path.{fun_ext}
use Rattle.std.proofs.Common.{◌≡◌, ℕ, ◌+◌, List, [], ◌∷◌, ◌++◌, refl, sym, ◌∙◌, ap, append_assoc}
use Rattle.std.specs.List.{slice_split}
use Rattle.std.proofs.lemmas.List.Splits.{slice_split_at, slice_split_none}
use Rattle.dimacs.specs.text.Words.{lines}
use Rattle.lrat_check.proofs.Lines.{is_lf, first_piece}
use Rattle.lrat_text.specs.Lines.{IsOpen}
use Rattle.sessions.specs.Answers.{Event, Answer, counted, one_more, tally}
use Rattle.sessions.specs.Lines.{line_within}
use Rattle.sessions.specs.Texts.{State, Outcome, behind, going_on, lines_top, pieces_from, take_read, text_from}
use Rattle.sessions.specs.declared.tally.Tally.{Tally}

-- the first line of a text, and what follows it
pub first_line : (line rest : List ℕ) → IsOpen line → lines (line ++ 10 ∷ rest) ≡ line ∷ lines rest
first_line line rest none = slice_split_at is_lf line 10 rest none refl

pub last_piece : (text : List ℕ) → IsOpen text → lines text ≡ text ∷ []
last_piece text none = slice_split_none is_lf text none

pub text_line : (s : State) (n : ℕ) (E : List Event) (line rest : List ℕ) → IsOpen line
    → text_from s n E (lines (line ++ 10 ∷ rest)) ≡ going_on (take_read s (line_within (lines_top s.limits) line)) n E (λ t D. text_from t (n + 1) D (lines rest))
unfolding text_from pieces_from
text_line s n E line rest none =
    let more : (piece : List ℕ) × (pieces : List (List ℕ)) × (slice_split is_lf rest ≡ piece ∷ pieces) = first_piece rest in
    ap (text_from s n E) (first_line line rest none ∙ ap (λ ps. line ∷ ps) more.2)
    ∙ ap (going_on (take_read s (line_within (lines_top s.limits) line)) n E) (fun_ext (λ t. fun_ext (λ D. sym (ap (text_from t (n + 1) D) more.2))))

-- ---- answers after others
pub behind_behind : (a b : List Answer) (o : Outcome) → behind a (behind b o) ≡ behind (a ++ b) o
behind_behind a b o = ap (λ (x : List Answer). let r : Outcome = record { answers = x; fault = o.fault } in r) (sym (append_assoc a b o.answers))

counted_on : (a b : List Answer) (t : Tally) → counted t (a ++ b) ≡ counted (counted t a) b
counted_on [] b t = refl
counted_on (x ∷ a) b t = counted_on a b (one_more x t)

pub tally_more : (told more : List Answer) (t u : Tally) → t ≡ tally told → u ≡ counted t more → u ≡ tally (told ++ more)
tally_more told more t u is then = then ∙ ap (λ (x : Tally). counted x more) is ∙ sym (counted_on told more (record { satisfied = 0; failed = 0; unknown = 0 }))

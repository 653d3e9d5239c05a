-- A LIDRUP text that is taken in pieces.
use mathlib.Core.Path.{fun_ext}
use Rattle.std.proofs.Common.{◌≡◌, ◌⊎◌, ℕ, ◌+◌, false, List, [], ◌∷◌, ◌++◌, Ok, Err, inl, inr, refl, sym, ◌∙◌, ap, subst, append_assoc}
use Rattle.std.specs.List.{All, slice_split}
use Rattle.std.proofs.lemmas.List.{append-nil}
use Rattle.std.proofs.lemmas.List.Elements.{All-head, All-nil, All-tail}
use Rattle.std.proofs.lemmas.List.Splits.{slice_split_none, slice_split_at}
use Rattle.lrat_check.specs.ProofFaults.{no_memory}
use Rattle.lrat_check.specs.Logs.{LogState, TakesLogLine}
use Rattle.lrat_check.specs.declared.line_checker.CheckFault.{CheckFault}
use Rattle.lrat_check.proofs.Lines.{is_lf, first_piece}
use Rattle.lrat_check.proofs.LogLines.{hands_piece}
use Rattle.lrat_text.specs.Lines.{IsCut, IsOpen}
use Rattle.lrat_text.specs.LineSink.{TakesAll, HandsOn, LineRefused, ended_lines}
use Rattle.lidrup.specs.Lidrup.{LidrupState, LidrupResult, prepend, by_pieces, lidrup_end, lidrup_line, lidrup_pieces, lidrup_text}
use Rattle.lidrup.specs.View.{state_of}
use Rattle.lidrup.specs.inner.LineEffects.{TakesLidrupLine, RefusesLidrupLine, LineFails, Leads, LeadsToFault}
use Rattle.lidrup.specs.declared.cube_lines.CubeLines.{CubeLines}

-- ---- bytes after others
pub behind_none : (t : LidrupResult) → prepend [] t ≡ t
behind_none (Ok rest) = refl
behind_none (Err fault) = refl

pub behind_append : (a b : List ℕ) (t : LidrupResult) → prepend (a ++ b) t ≡ prepend a (prepend b t)
behind_append a b (Ok rest) = ap (λ (x : List ℕ). Ok (x, rest.1)) (append_assoc a b rest.0)
behind_append a b (Err fault) = refl

-- ---- lines
-- the text goes on after a line
pub text-line : (most m : ℕ) (s : LidrupState) (n : ℕ) (line rest : List ℕ) → All (λ b. is_lf b ≡ false) line
    → lidrup_text most m s n (line ++ 10 ∷ rest) ≡ lidrup_line most m s n line (λ t. lidrup_text most m t (n + 1) rest)
unfolding lidrup_text lidrup_pieces
text-line most m s n line rest none =
    let more : (piece : List ℕ) × (pieces : List (List ℕ)) × (slice_split is_lf rest ≡ piece ∷ pieces) = first_piece rest in
    ap (by_pieces (lidrup_pieces most m s n))
    (slice_split_at is_lf line 10 rest none refl ∙ ap (λ ps. line ∷ ps) more.2)
    ∙ ap (lidrup_line most m s n line)
    (fun_ext (λ t. sym (ap (by_pieces (lidrup_pieces most m t (n + 1))) more.2)))

-- and ends if no line is left
pub text-end : (most m : ℕ) (s : LidrupState) (n : ℕ) (text : List ℕ) → All (λ b. is_lf b ≡ false) text → lidrup_text most m s n text ≡ lidrup_end s n text
unfolding lidrup_text lidrup_pieces
text-end most m s n text none = ap (by_pieces (lidrup_pieces most m s n)) (slice_split_none is_lf text none)

-- what the text that follows comes to
abbrev pub text_in : CubeLines → List ℕ → LidrupResult
text_in c text = lidrup_text c.known.log.checker.most c.known.log.checker.base (state_of c.known) c.line text

moved : (c d : CubeLines) (text : List ℕ) → d.known.log.checker.most ≡ c.known.log.checker.most → d.known.log.checker.base ≡ c.known.log.checker.base → d.line ≡ c.line + 1
    → lidrup_text c.known.log.checker.most c.known.log.checker.base (state_of d.known) (c.line + 1) text ≡ text_in d text
moved c d text most base next =
    ap (λ n. lidrup_text n c.known.log.checker.base (state_of d.known) (c.line + 1) text) (sym most)
    ∙ ap (λ b. lidrup_text d.known.log.checker.most b (state_of d.known) (c.line + 1) text) (sym base)
    ∙ ap (λ n. lidrup_text d.known.log.checker.most d.known.log.checker.base (state_of d.known) n text) (sym next)

pub hands_none : (s : LogState) → HandsOn TakesLogLine s [] s []
hands_none s = record { lines = []; whole = refl; one_by_one = All-nil IsOpen; taken = refl }

-- lines that are taken, one after the other, come to these bytes
record Runs (s : CubeLines) (text : List ℕ) (t : CubeLines) : Type 0 where
  made : List ℕ
  out : t.out.items ≡ s.out.items ++ made
  hands : HandsOn TakesLogLine s.known.log.checker made t.known.log.checker []
  goes_on : (more : List ℕ) → text_in s (text ++ more) ≡ prepend made (text_in t more)

run_none : (s : CubeLines) → Runs s [] s
run_none s = record { made = []; out = sym (append-nil s.out.items); hands = hands_none s.known.log.checker; goes_on = λ more. sym (behind_none (text_in s more)) }

run_all : (lines : List (List ℕ)) (s t : CubeLines) → All IsOpen lines → TakesAll TakesLidrupLine s lines t → Runs s (ended_lines lines) t
run_all [] s t each e = subst (λ (u : CubeLines). Runs s [] u) e (run_none s)
run_all (line ∷ lines) s t each (m, takes, later) =
    let rest = run_all lines m t (All-tail IsOpen line lines each) later in
    record {
      made = takes.made ++ rest.made;
      out = rest.out ∙ ap (λ (x : List ℕ). x ++ rest.made) takes.out ∙ append_assoc s.out.items takes.made rest.made;
      hands = hands_piece TakesLogLine s.known.log.checker takes.made m.known.log.checker [] rest.made t.known.log.checker [] takes.hands rest.hands;
      goes_on = λ more.
          ap (text_in s) (append_assoc line (10 ∷ ended_lines lines) more)
          ∙ text-line s.known.log.checker.most s.known.log.checker.base (state_of s.known) s.line line (ended_lines lines ++ more) (All-head IsOpen line lines each)
          ∙ takes.goes_on (λ u. lidrup_text s.known.log.checker.most s.known.log.checker.base u (s.line + 1) (ended_lines lines ++ more))
          ∙ ap (prepend takes.made) (moved s m (ended_lines lines ++ more) takes.most takes.base takes.next ∙ rest.goes_on more)
          ∙ sym (behind_append takes.made rest.made (text_in t more));
    }

-- the begun line and a piece
pub hands_lead : (begun : List ℕ) (s : CubeLines) (piece rest : List ℕ) (t : CubeLines) → HandsOn TakesLidrupLine s (begun ++ piece) t rest → Leads begun s piece rest t
hands_lead begun s piece rest t h =
    let w = run_all h.lines s t h.one_by_one h.taken in
    record {
      made = w.made;
      out = w.out;
      hands = w.hands;
      goes_on = λ more.
          ap (text_in s) (sym (append_assoc begun piece more) ∙ ap (λ (x : List ℕ). x ++ more) h.whole ∙ append_assoc (ended_lines h.lines) rest more)
          ∙ w.goes_on (rest ++ more);
    }

-- a line that is refused
refused_text : (s : CubeLines) (rest line later : List ℕ) (fault : CheckFault) → IsCut rest line later → LineFails s line fault → (more : List ℕ) → text_in s (rest ++ more) ≡ Err fault
refused_text s rest line later fault cut stops more =
    ap (λ (x : List ℕ). text_in s (x ++ more)) cut.0
    ∙ ap (text_in s) (append_assoc line (10 ∷ later) more)
    ∙ text-line s.known.log.checker.most s.known.log.checker.base (state_of s.known) s.line line (later ++ more) cut.1
    ∙ stops (λ t. lidrup_text s.known.log.checker.most s.known.log.checker.base t (s.line + 1) (later ++ more))

pub refused_leads : (begun : List ℕ) (s : CubeLines) (piece : List ℕ) (t : CubeLines) (fault : CheckFault) → LineRefused TakesLidrupLine RefusesLidrupLine s (begun ++ piece) t fault → LeadsToFault begun s piece fault
refused_leads begun s piece t fault (m, rest, line, later, h, cut, refuses) = at refuses
  where
    at : (fault ≡ no_memory) ⊎ LineFails m line fault → LeadsToFault begun s piece fault
    at (inl e) = inl e
    at (inr stops) = inr (λ more. (hands_lead begun s piece rest m h).goes_on more ∙ ap (prepend (hands_lead begun s piece rest m h).made) (refused_text m rest line later fault cut stops more))

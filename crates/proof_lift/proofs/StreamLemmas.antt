-- A foreign proof's text that is taken in pieces.
use mathlib.Core.Path.{fun_ext}
use Rattle.proof_lift.specs.View.{held_of}
use Rattle.std.proofs.Common.{◌≡◌, ◌⊎◌, ℕ, max, ◌+◌, ◌<◌, ◌≤◌, ◌^◌, Bool, true, false, List, [], ◌∷◌, ◌++◌, Result, Ok, Err, inl, inr, refl, sym, ◌∙◌, ap, cond, length, eqb, arith, append_assoc}
use Rattle.std.specs.List.{All, slice_split}
use Rattle.std.proofs.lemmas.List.{append-nil}
use Rattle.std.proofs.lemmas.List.Splits.{slice_split_none, slice_split_at}
use Rattle.std.proofs.lemmas.Bool.{both_ways, ne_eqb}
use Rattle.std.proofs.lemmas.List.Elements.{All-head, All-tail, All-nil}
use Rattle.dimacs.specs.logic.Cnf.{Cnf}
use Rattle.lrat_text.specs.Lines.{IsCut, IsOpen}
use Rattle.lrat_text.specs.Log.{Cube, log_top}
use Rattle.lrat_text.specs.Parser.{step_within}
use Rattle.lrat_text.specs.Grammar.{IsStep}
use Rattle.lrat_text.specs.Runs.{text_of}
use Rattle.lrat_text.specs.WrittenLine.{line_text}
use Rattle.lrat_text.specs.declared.step.Step.{Step}
use Rattle.lrat_text.specs.declared.step.Step.TheVariants.{Add}
use Rattle.lrat_text.proofs.LineLemmas.{written_spells, written_one_line, spells_step_more}
use Rattle.lrat_text.proofs.SpellingLemmas.{spelled_found_within}
use Rattle.lrat_text.specs.LineSink.{TakesAll, HandsOn, PieceStops, ended_lines}
use Rattle.lrat_text.specs.declared.line_splitter.PieceFault.{PieceFault}
use Rattle.lrat_text.specs.declared.line_splitter.PieceFault.TheVariants.{NoMemory as NoPlace, Line}
use Rattle.lrat_check.specs.ProofFaults.{no_memory}
use Rattle.lrat_check.specs.declared.line_checker.CheckFault.{CheckFault}
use Rattle.lrat_check.proofs.Lines.{is_lf, first_piece, no_lf_from}
use Rattle.proof_lift.specs.LiftedText.{LiftState, LiftedStep, LiftResult, refused, is_met, prepend, lifted_step, lift_step, lift_line, lift_end, lift_pieces, by_pieces, lift_text, lift_of}
use Rattle.proof_lift.specs.Stream.{Held, LiftProgress, Within, Failed, state_in, lift_more, answer_in, HasTaken, TakesPiece, empty_lemma, EndsWithLine, IsLastFault, IsFaultOf, IsEnded, GivesEnd}
use Rattle.lrat_check.specs.Refusals.{piece_refusal}
use Rattle.proof_lift.specs.inner.Lines.{LineFails, Takes, Refuses}
use Rattle.proof_lift.specs.inner.Ready.{SameLeaf, state_of}
use Rattle.proof_lift.specs.inner.Stream.{LeadsTo, Appends}
use Rattle.proof_lift.specs.inner.Output.{IsPrefix}
use Rattle.proof_lift.proofs.LiftedLemmas.{addition_cases}
use Rattle.proof_lift.proofs.SoundLemmas.{behind_ok}
use Rattle.proof_lift.specs.declared.line_lifter.LineLifter.{LineLifter}

-- ---- bytes after others
pub behind_none : (t : LiftResult) → prepend [] t ≡ t
behind_none (Ok rest) = refl
behind_none (Err fault) = refl

pub behind_append : (a b : List ℕ) (t : LiftResult) → prepend (a ++ b) t ≡ prepend a (prepend b t)
behind_append a b (Ok rest) = ap (λ (x : List ℕ). Ok x) (append_assoc a b rest)
behind_append a b (Err fault) = refl

-- ---- lines
-- lifting goes on after a line
pub lift_text-line : (most : ℕ) (q : Cube) (m : ℕ) (s : LiftState) (n : ℕ) (line rest : List ℕ) → All (λ b. is_lf b ≡ false) line
    → lift_text most q m s n (line ++ 10 ∷ rest) ≡ lift_line q m s n (step_within most line) (λ s'. lift_text most q m s' (n + 1) rest)
unfolding lift_text lift_pieces
lift_text-line most q m s n line rest none =
    let more : (piece : List ℕ) × (pieces : List (List ℕ)) × (slice_split is_lf rest ≡ piece ∷ pieces) = first_piece rest in
    ap (by_pieces (lift_pieces most q m s n))
    (slice_split_at is_lf line 10 rest none refl ∙ ap (λ ps. line ∷ ps) more.2)
    ∙ ap (lift_line q m s n (step_within most line))
    (fun_ext (λ s'. sym (ap (by_pieces (lift_pieces most q m s' (n + 1))) more.2)))

-- and ends if no line is left
pub lift_text-end : (most : ℕ) (q : Cube) (m : ℕ) (s : LiftState) (n : ℕ) (text : List ℕ) → All (λ b. is_lf b ≡ false) text → lift_text most q m s n text ≡ lift_end s.closed n text
unfolding lift_text lift_pieces
lift_text-end most q m s n text none = ap (by_pieces (lift_pieces most q m s n)) (slice_split_none is_lf text none)

-- what lifting gives of the text that follows
abbrev pub text_in : LineLifter → List ℕ → LiftResult
text_in c text = lift_text (log_top c.lifting.images.formula) c.lifting.cube.items (length c.lifting.images.formula.clauses) (state_of c.lifting) c.line text

same_leaf : (c d : LineLifter) (text : List ℕ) → SameLeaf c.lifting d.lifting → d.line ≡ c.line + 1
    → lift_text (log_top c.lifting.images.formula) c.lifting.cube.items (length c.lifting.images.formula.clauses) (state_of d.lifting) (c.line + 1) text ≡ text_in d text
same_leaf c d text leaf next =
    ap (λ v. lift_text (log_top c.lifting.images.formula) v.items (length c.lifting.images.formula.clauses) (state_of d.lifting) (c.line + 1) text) (sym leaf.cube)
    ∙ ap (λ f. lift_text (log_top f) d.lifting.cube.items (length f.clauses) (state_of d.lifting) (c.line + 1) text) (sym leaf.formula)
    ∙ ap (λ n. lift_text (log_top d.lifting.images.formula) d.lifting.cube.items (length d.lifting.images.formula.clauses) (state_of d.lifting) n text) (sym next)

-- lines that are passed, one after the other, write these bytes
abbrev pub Writes : LineLifter → List ℕ → LineLifter → Type 0
Writes s text t = (appended : List ℕ) × (t.out.items ≡ s.out.items ++ appended) × ((more : List ℕ) → text_in s (text ++ more) ≡ prepend appended (text_in t more))

all_write : (lines : List (List ℕ)) (s t : LineLifter) → All IsOpen lines → TakesAll Takes s lines t → Writes s (ended_lines lines) t
all_write [] s t each e = (
  [],
  ap (λ (c : LineLifter). c.out.items) (sym e) ∙ sym (append-nil s.out.items),
  λ more. ap (λ (c : LineLifter). text_in c more) e ∙ sym (behind_none (text_in t more)),
)
all_write (line ∷ lines) s t each (m, takes, later) =
    let rest = all_write lines m t (All-tail IsOpen line lines each) later in (
      takes.appended ++ rest.0,
      rest.1 ∙ ap (λ (x : List ℕ). x ++ rest.0) takes.out ∙ append_assoc s.out.items takes.appended rest.0,
      λ more.
          ap (text_in s) (append_assoc line (10 ∷ ended_lines lines) more)
          ∙ lift_text-line (log_top s.lifting.images.formula) s.lifting.cube.items (length s.lifting.images.formula.clauses) (state_of s.lifting) s.line line (ended_lines lines ++ more) (All-head IsOpen line lines each)
          ∙ takes.goes_on (λ s'. lift_text (log_top s.lifting.images.formula) s.lifting.cube.items (length s.lifting.images.formula.clauses) s' (s.line + 1) (ended_lines lines ++ more))
          ∙ ap (prepend takes.appended) (same_leaf s m (ended_lines lines ++ more) takes.leaf takes.next ∙ rest.2 more)
          ∙ sym (behind_append takes.appended rest.0 (text_in t more)),
    )

-- the begun line and a piece
pub hands_write : (s : LineLifter) (begun piece : List ℕ) (t : LineLifter) (rest : List ℕ) → HandsOn Takes s (begun ++ piece) t rest
    → Appends s.out.items t.out.items (λ appended. LeadsTo (Within (held_of s.lifting) s.line begun) piece appended (Within (held_of t.lifting) t.line rest))
hands_write s begun piece t rest h =
    let w = all_write h.lines s t h.one_by_one h.taken in
    record {
      appended = w.0;
      out = w.1;
      holds = λ more.
          ap (text_in s) (sym (append_assoc begun piece more) ∙ ap (λ (x : List ℕ). x ++ more) h.whole ∙ append_assoc (ended_lines h.lines) rest more)
          ∙ w.2 (rest ++ more);
    }

-- a line that is refused
refused_writes : (s : LineLifter) (rest line later : List ℕ) (fault : CheckFault) → IsCut rest line later → LineFails s.lifting s.line line fault → (more : List ℕ) → text_in s (rest ++ more) ≡ Err fault
refused_writes s rest line later fault cut stops more =
    ap (λ (x : List ℕ). text_in s (x ++ more)) cut.0
    ∙ ap (text_in s) (append_assoc line (10 ∷ later) more)
    ∙ lift_text-line (log_top s.lifting.images.formula) s.lifting.cube.items (length s.lifting.images.formula.clauses) (state_of s.lifting) s.line line (later ++ more) cut.1
    ∙ stops (λ s'. lift_text (log_top s.lifting.images.formula) s.lifting.cube.items (length s.lifting.images.formula.clauses) s' (s.line + 1) (later ++ more))

abbrev pub Fails : LineLifter → List ℕ → List ℕ → CheckFault → List ℕ → Type 0
Fails s begun piece fault appended = (fault ≡ no_memory) ⊎ LeadsTo (Within (held_of s.lifting) s.line begun) piece appended (Failed fault)

-- the lines that were taken before memory ran out
none_write : (lines : List (List ℕ)) (s t : LineLifter) → TakesAll Takes s lines t → IsPrefix s.out.items t.out.items
none_write [] s t e = ([], ap (λ (c : LineLifter). c.out.items) (sym e) ∙ sym (append-nil s.out.items))
none_write (line ∷ lines) s t (m, takes, later) =
    let rest = none_write lines m t later in
    (takes.appended ++ rest.0, rest.1 ∙ ap (λ (x : List ℕ). x ++ rest.0) takes.out ∙ append_assoc s.out.items takes.appended rest.0)

pub stops_write : (s : LineLifter) (begun piece : List ℕ) (t : LineLifter) (fault : PieceFault CheckFault) → PieceStops Takes Refuses s (begun ++ piece) t fault
    → Appends s.out.items t.out.items (Fails s begun piece (piece_refusal fault))
stops_write s begun piece t NoPlace (lines, taken) = let front = none_write lines s t taken in record { appended = front.0; out = front.1; holds = inl refl }
stops_write s begun piece t (Line fault) (m, rest, line, later, h, cut, refuses) =
    let w = hands_write s begun piece m rest h in
    record {
      appended = w.appended ++ refuses.front.0;
      out = refuses.front.1 ∙ ap (λ (x : List ℕ). x ++ refuses.front.0) w.out ∙ append_assoc s.out.items w.appended refuses.front.0;
      holds = at refuses.stops;
    }
  where
    at : (fault ≡ no_memory) ⊎ LineFails m.lifting m.line line fault → Fails s begun piece fault ((hands_write s begun piece m rest h).appended ++ refuses.front.0)
    at (inl e) = inl e
    at (inr stops) = inr (λ more. (hands_write s begun piece m rest h).holds more ∙ ap (prepend (hands_write s begun piece m rest h).appended) (refused_writes m rest line later fault cut stops more))

-- ---- pieces
pub history : (old : LiftProgress) (piece appended : List ℕ) (new : LiftProgress) → (old ≡ Failed no_memory → new ≡ Failed no_memory) → (new ≡ Failed no_memory) ⊎ LeadsTo old piece appended new
    → (F : Cnf) (q : Cube) (bytes written : List ℕ) → HasTaken F q old bytes written → HasTaken F q new (bytes ++ piece) (written ++ appended)
history old piece appended new stays reaches F q bytes written (inl none) = inl (stays none)
history old piece appended new stays (inl none) F q bytes written (inr h) = inl none
history old piece appended new stays (inr leads) F q bytes written (inr h) =
    inr (λ more. ap (lift_of F q) (append_assoc bytes piece more) ∙ h (piece ++ more) ∙ ap (prepend written) (leads more) ∙ sym (behind_append written appended (lift_more new more)))

pub takes_nothing : (fault : CheckFault) (piece out : List ℕ) → TakesPiece (Failed fault) piece out out (Err fault) (Failed fault)
takes_nothing fault piece out = record {
  appended = [];
  out = sym (append-nil out);
  answers = refl;
  stays = λ f e. (refl, refl);
  history = history (Failed fault) piece [] (Failed fault) (λ e. e) (inr (λ more. refl));
}

never : {P : Type 0} (h : Held) (line : ℕ) (begun : List ℕ) (fault : CheckFault) → Within h line begun ≡ Failed fault → P
never h line begun fault e = absurd cc

pub takes_within : (h : Held) (line : ℕ) (begun piece before after : List ℕ) (new : LiftProgress)
    → Appends before after (λ appended. (new ≡ Failed no_memory) ⊎ LeadsTo (Within h line begun) piece appended new) → TakesPiece (Within h line begun) piece before after (answer_in new) new
takes_within h line begun piece before after new a = record {
  appended = a.appended;
  out = a.out;
  answers = refl;
  stays = λ f e. never h line begun f e;
  history = history (Within h line begun) piece a.appended new (λ e. never h line begun no_memory e) a.holds;
}

-- what is answered at the end
pub ends : (h : Held) (line : ℕ) (begun : List ℕ) → IsOpen begun → lift_more (Within h line begun) [] ≡ lift_end h.closed line begun
ends h line begun no_lf = ap (lift_text (log_top h.formula) h.cube (length h.formula.clauses) (state_in h) line) (append-nil begun) ∙ lift_text-end (log_top h.formula) h.cube (length h.formula.clauses) (state_in h) line begun no_lf

open_none : IsOpen []
open_none = All-nil (λ b. is_lf b ≡ false)

-- no literal of the cube stands in the empty clause
pub met_none : (q : Cube) → is_met q [] ≡ false
met_none [] = refl
met_none (x ∷ q) = met_none q

-- what becomes of a line of the empty lemma
line_is : (h : Held) (line n : ℕ) (hints : List ℕ) → h.formula.vars ≤ 199999999 → h.closed ≡ false → IsStep (Add n [] hints [])
    → lift_more (Within h line []) (empty_lemma n hints) ≡ lifted_step line h.own (lift_step h.cube (length h.formula.clauses) (state_in h) (Add n [] hints [])) (λ t. lift_text (log_top h.formula) h.cube (length h.formula.clauses) t (line + 1) [])
line_is h line n hints low still limits =
    let most : ℕ = log_top h.formula in
    let few : max 2000000 h.formula.vars < 2 ^ 48 = omega arith in
    let more : 2000000 ≤ max 2000000 h.formula.vars = omega arith in
    let q = h.cube in
    let m = length h.formula.clauses in
    let s = state_in h in
    let step = Add n [] hints [] in
    let none = no_lf_from (line_text n step) (written_one_line n step limits.0 limits) in
    lift_text-line most q m s line (line_text n step) [] none
    ∙ ap (λ r. lift_line q m s line r (λ t. lift_text most q m t (line + 1) []))
    (spelled_found_within most (line_text n step) step few (spells_step_more 2000000 most more (line_text n step) step (written_spells n step limits.0 limits)))
    ∙ ap (λ b. cond b (lift_text most q m s (line + 1) []) (lifted_step line h.own (lift_step q m s step) (λ t. lift_text most q m t (line + 1) []))) still

-- the line of an empty lemma that is lifted
line_lifts : (h : Held) (line n : ℕ) (hints : List ℕ) (steps : List Step) (s' : LiftState) → h.formula.vars ≤ 199999999 → h.closed ≡ false → IsStep (Add n [] hints [])
    → lift_step h.cube (length h.formula.clauses) (state_in h) (Add n [] hints []) ≡ Ok (steps, s') → lift_more (Within h line []) (empty_lemma n hints) ≡ Ok (text_of h.own steps)
line_lifts h line n hints steps s' low still limits is =
    let most : ℕ = log_top h.formula in
    let q = h.cube in
    let m = length h.formula.clauses in
    line_is h line n hints low still limits
    ∙ ap (λ (r : LiftedStep). lifted_step line h.own r (λ t. lift_text most q m t (line + 1) [])) is
    ∙ ap (prepend (text_of h.own steps)) (lift_text-end most q m s' (line + 1) [] open_none ∙ ap (λ b. lift_end b (line + 1) []) closed)
    ∙ ap (λ (x : List ℕ). Ok x) (append-nil (text_of h.own steps))
  where
    closed : s'.closed ≡ true
    closed = elim (addition_cases h.cube (state_in h) n [] hints [] steps s' is).1 [
      | inl gone ↦ absurd (both_ways (is_met h.cube []) (met_none h.cube) gone.met)
      | inr k ↦ ap (λ (t : LiftState). t.closed) k.leaves
    ]

-- no line of the empty lemma ends a text if none is lifted
pub nothing_ends : (h : Held) (line : ℕ) (rest out : List ℕ) → h.formula.vars ≤ 199999999 → rest ≡ [] → h.closed ≡ false
    → ((n : ℕ) (hints : List ℕ) (steps : List Step) (s' : LiftState) → IsStep (Add n [] hints []) → lift_step h.cube (length h.formula.clauses) (state_in h) (Add n [] hints []) ≡ Ok (steps, s') → ⊥)
    → EndsWithLine (Within h line rest) out → ⊥
nothing_ends h line rest out low none still nothing e =
    at (lift_step h.cube (length h.formula.clauses) (state_in h) (Add e.number [] e.hints [])) refl
    (sym (line_is h line e.number e.hints low still e.limits) ∙ sym (ap (λ (r : List ℕ). lift_more (Within h line r) (empty_lemma e.number e.hints)) none) ∙ e.lifts)
  where
    at : (r : LiftedStep) → lift_step h.cube (length h.formula.clauses) (state_in h) (Add e.number [] e.hints []) ≡ r
        → lifted_step line h.own r (λ t. lift_text (log_top h.formula) h.cube (length h.formula.clauses) t (line + 1) []) ≡ Ok out → ⊥
    at (Err number) is l = absurd cc
    at (Ok (steps, s')) is l = nothing e.number e.hints steps s' e.limits is

-- where a line is begun, and where none is
pub some_begun : (h : Held) (line : ℕ) (rest : List ℕ) (b : Bool) → IsOpen rest → b ≡ eqb (length rest) 0 → b ≡ false → lift_more (Within h line rest) [] ≡ refused 1 line 2
some_begun h line [] b no_lf e f = absurd (both_ways b f e)
some_begun h line (x ∷ rest) b no_lf e f = ends h line (x ∷ rest) no_lf

pub none_begun : (rest : List ℕ) (b : Bool) → b ≡ eqb (length rest) 0 → b ≡ true → rest ≡ []
none_begun [] b e t = refl
none_begun (x ∷ rest) b e t = absurd (both_ways b (e ∙ ne_eqb (length (x ∷ rest)) 0 (λ z. absurd (omega arith))) t)

pub end_is : (h : Held) (line : ℕ) (rest : List ℕ) (b : Bool) → rest ≡ [] → h.closed ≡ b → lift_more (Within h line rest) [] ≡ lift_end b line []
end_is h line rest b none is = ap (λ (r : List ℕ). lift_more (Within h line r) []) none ∙ ends h line [] open_none ∙ ap (λ c. lift_end c line []) is

pub closed_by : (h : Held) (line n : ℕ) (rest hints : List ℕ) (steps : List Step) (s' : LiftState) → h.formula.vars ≤ 199999999 → rest ≡ [] → h.closed ≡ false → IsStep (Add n [] hints [])
    → lift_step h.cube (length h.formula.clauses) (state_in h) (Add n [] hints []) ≡ Ok (steps, s') → IsEnded (Within h line rest) (text_of h.own steps)
closed_by h line n rest hints steps s' low none still limits is =
    inr (
      line,
      end_is h line rest false none still,
      record {
        number = n;
        hints = hints;
        limits = limits;
        lifts = ap (λ (r : List ℕ). lift_more (Within h line r) (empty_lemma n hints)) none ∙ line_lifts h line n hints steps s' low still limits is;
      },
    )

-- any other fault than 13
pub other_fault : (p : LiftProgress) (fault : CheckFault) → (fault.number ≡ 13 → ⊥) → lift_more p [] ≡ Err fault → IsLastFault p fault
other_fault p fault other first = record { first = first; wanting = λ e. absurd (other e) }

-- a fault that was met stays
pub failed_fault : (fault : CheckFault) → IsLastFault (Failed fault) fault
failed_fault fault = record { first = refl; wanting = λ e out l. never_lifts out l.lifts }
  where
    never_lifts : (out : List ℕ) → ◌≡◌ {A = LiftResult} (Err fault) (Ok out) → ⊥
    never_lifts out e = cc

-- ---- a whole text
failed_none : {P : Type 0} (p : LiftProgress) (more out : List ℕ) → p ≡ Failed no_memory → lift_more p more ≡ Ok out → P
failed_none p more out none is = absurd (let no : ◌≡◌ {A = LiftResult} (Err no_memory) (Ok out) = ap (λ (x : LiftProgress). lift_more x more) (sym none) ∙ is in cc)

-- what was written, and what is put after it, is what some text is lifted to
pub given : (F : Cnf) (q : Cube) (p : LiftProgress) (bytes written appended : List ℕ) → HasTaken F q p bytes written → IsEnded p appended → (text : List ℕ) × (lift_of F q text ≡ Ok (written ++ appended))
given F q p bytes written appended (inl none) (inl e) = failed_none p [] [] none e.0
given F q p bytes written appended (inl none) (inr (line, missing, e)) = failed_none p (empty_lemma e.number e.hints) appended none e.lifts
given F q p bytes written appended (inr h) (inl e) = (bytes ++ [], h [] ∙ ap (prepend written) e.0 ∙ ap (λ (x : List ℕ). Ok (written ++ x)) (sym e.1))
given F q p bytes written appended (inr h) (inr (line, missing, e)) = (bytes ++ empty_lemma e.number e.hints, h (empty_lemma e.number e.hints) ∙ ap (prepend written) e.lifts)

-- what lifting gives is answered, unless memory ran out
pub answered : (F : Cnf) (q : Cube) (p : LiftProgress) (bytes written out before after : List ℕ) (r : Result (Unit {0}) CheckFault) → HasTaken F q p bytes written → GivesEnd p r before after → lift_of F q bytes ≡ Ok out
    → (r ≡ Ok tt) ⊎ (r ≡ Err no_memory)
answered F q p bytes written out before after (Ok _) taken gives is = inl refl
answered F q p bytes written out before after (Err fault) taken (inl e) is = inr (ap (λ (f : CheckFault). Err f) e)
answered F q p bytes written out before after (Err fault) (inl none) (inr e) is =
    inr (let same : ◌≡◌ {A = LiftResult} (Err fault) (Err no_memory) = sym e.first ∙ ap (λ (x : LiftProgress). lift_more x []) none in ap (λ (f : CheckFault). Err f) (let f : fault ≡ no_memory = cc in f))
answered F q p bytes written out before after (Err fault) (inr h) (inr e) is =
    absurd (let no : ◌≡◌ {A = LiftResult} (Err fault) (Ok out) = sym (ap (lift_of F q) (sym (append-nil bytes)) ∙ h [] ∙ ap (prepend written) e.first) ∙ is in cc)

-- the fault is the text's
pub fault_of : (F : Cnf) (q : Cube) (p : LiftProgress) (bytes written before after : List ℕ) (fault : CheckFault) → HasTaken F q p bytes written → GivesEnd p (Err fault) before after → (fault ≡ no_memory) ⊎ IsFaultOf F q bytes fault
fault_of F q p bytes written before after fault taken (inl e) = inl e
fault_of F q p bytes written before after fault (inl none) (inr e) = inl (same (sym e.first ∙ ap (λ (x : LiftProgress). lift_more x []) none))
  where
    same : ◌≡◌ {A = LiftResult} (Err fault) (Err no_memory) → fault ≡ no_memory
    same h = cc
fault_of F q p bytes written before after fault (inr h) (inr e) = inr (record {
  first = ap (lift_of F q) (sym (append-nil bytes)) ∙ h [] ∙ ap (prepend written) e.first;
  wanting = λ is n hints out limits lifts.
      let b = behind_ok written (lift_more p (empty_lemma n hints)) out (sym (h (empty_lemma n hints)) ∙ lifts) in
      e.wanting is b.0 (record { number = n; hints = hints; limits = limits; lifts = b.1 });
})

-- A proof's text that is taken in pieces.
use Rattle.std.proofs.Common.{◌≡◌, ◌⊎◌, ℕ, ◌+◌, List, [], ◌∷◌, ◌++◌, Result, Ok, Err, inl, inr, refl, sym, ◌∙◌, ap, subst, append_assoc}
use Rattle.std.specs.List.{All}
use Rattle.std.proofs.lemmas.List.{append-nil}
use Rattle.std.proofs.lemmas.List.Elements.{All-head, All-tail}
use Rattle.dimacs.specs.logic.Cnf.{Cnf}
use Rattle.lrat_text.specs.Lines.{IsCut, IsOpen}
use Rattle.lrat_text.specs.LineSink.{TakesAll, HandsOn, PieceStops, ended_lines}
use Rattle.lrat_text.specs.declared.line_splitter.PieceFault.{PieceFault}
use Rattle.lrat_text.specs.declared.line_splitter.PieceFault.TheVariants.{NoMemory as NoPlace, Line}
use Rattle.lrat_check.specs.declared.line_checker.CheckFault.{CheckFault}
use Rattle.lrat_check.specs.declared.line_checker.LineChecker.{LineChecker}
use Rattle.lrat_check.specs.inner.Lines.{TakesProofLine, RefusesProofLine}
use Rattle.lrat_check.specs.State.{State}
use Rattle.lrat_check.specs.ProofFaults.{check_text, check_of, check_end, no_memory, GivesCheck}
use Rattle.lrat_check.specs.Refusals.{piece_refusal}
use Rattle.lrat_check.specs.inner.LineOutcomes.{LineFails}
use Rattle.lrat_check.specs.Stream.{CheckProgress, Within, Failed, check_more, answer_in, HasTaken, TakesPiece}
use Rattle.lrat_check.specs.inner.Stream.{LeadsTo, Reaches}
use Rattle.lrat_check.proofs.Lines.{check_text-line, check_text-end}
use Rattle.lrat_check.proofs.Passing.{gives}

-- ---- where lines lead

-- lines that are passed, one after the other
leads_all : (lines : List (List ℕ)) (s t : LineChecker) → All IsOpen lines → TakesAll TakesProofLine s lines t → (more : List ℕ)
    → check_text s.limit.most s.checker.refuted s.checker.live s.checker.top s.line (ended_lines lines ++ more) ≡ check_text t.limit.most t.checker.refuted t.checker.live t.checker.top t.line more
leads_all [] s t each e more = ap (λ (c : LineChecker). check_text c.limit.most c.checker.refuted c.checker.live c.checker.top c.line more) e
leads_all (line ∷ lines) s t each (m, (goes, follows, same), later) more =
    ap (check_text s.limit.most s.checker.refuted s.checker.live s.checker.top s.line) (append_assoc line (10 ∷ ended_lines lines) more)
    ∙ check_text-line s.limit.most s.checker.refuted s.checker.live s.checker.top s.line line (ended_lines lines ++ more) (All-head IsOpen line lines each)
    ∙ goes.1 (λ refuted M top. check_text s.limit.most refuted M top (s.line + 1) (ended_lines lines ++ more))
    ∙ ap (λ n. check_text s.limit.most m.checker.refuted m.checker.live m.checker.top n (ended_lines lines ++ more)) (sym follows)
    ∙ ap (λ n. check_text n m.checker.refuted m.checker.live m.checker.top m.line (ended_lines lines ++ more)) (sym same)
    ∙ leads_all lines m t (All-tail IsOpen line lines each) later more

-- the begun line and a piece
pub hands_lead : (s : LineChecker) (begun piece : List ℕ) (t : LineChecker) (rest : List ℕ) → HandsOn TakesProofLine s (begun ++ piece) t rest → LeadsTo (Within s.limit.most s.checker s.line begun) piece (Within t.limit.most t.checker t.line rest)
hands_lead s begun piece t rest h = λ more.
    ap (check_text s.limit.most s.checker.refuted s.checker.live s.checker.top s.line) (sym (append_assoc begun piece more) ∙ ap (λ (x : List ℕ). x ++ more) h.whole ∙ append_assoc (ended_lines h.lines) rest more)
    ∙ leads_all h.lines s t h.one_by_one h.taken (rest ++ more)

-- a line that is refused
refused_leads : (s : LineChecker) (rest line later : List ℕ) (fault : CheckFault) → IsCut rest line later → LineFails s.limit.most s.checker s.line line fault → LeadsTo (Within s.limit.most s.checker s.line []) rest (Failed fault)
refused_leads s rest line later fault cut stops = λ more.
    ap (λ (x : List ℕ). check_text s.limit.most s.checker.refuted s.checker.live s.checker.top s.line (x ++ more)) cut.0
    ∙ ap (check_text s.limit.most s.checker.refuted s.checker.live s.checker.top s.line) (append_assoc line (10 ∷ later) more)
    ∙ check_text-line s.limit.most s.checker.refuted s.checker.live s.checker.top s.line line (later ++ more) cut.1
    ∙ stops (λ refuted M top. check_text s.limit.most refuted M top (s.line + 1) (later ++ more))

pub stops_lead : (s : LineChecker) (begun piece : List ℕ) (t : LineChecker) (fault : PieceFault CheckFault) → PieceStops TakesProofLine RefusesProofLine s (begun ++ piece) t fault
    → (piece_refusal fault ≡ no_memory) ⊎ LeadsTo (Within s.limit.most s.checker s.line begun) piece (Failed (piece_refusal fault))
stops_lead s begun piece t NoPlace stops = inl refl
stops_lead s begun piece t (Line fault) (m, rest, line, later, h, cut, inl none) = inl none
stops_lead s begun piece t (Line fault) (m, rest, line, later, h, cut, inr stops) =
    inr (λ more. hands_lead s begun piece m rest h more ∙ refused_leads m rest line later fault cut stops more)

-- ---- pieces

history : (old : CheckProgress) (piece : List ℕ) (new : CheckProgress) → (old ≡ Failed no_memory → new ≡ Failed no_memory) → Reaches old piece new
    → (F : Cnf) (bytes : List ℕ) → HasTaken F old bytes → HasTaken F new (bytes ++ piece)
history old piece new stays reaches F bytes (inl none) = inl (stays none)
history old piece new stays (inl none) F bytes (inr h) = inl none
history old piece new stays (inr leads) F bytes (inr h) = inr (λ more. ap (check_of F) (append_assoc bytes piece more) ∙ h (piece ++ more) ∙ leads more)

pub takes_nothing : (fault : CheckFault) (piece : List ℕ) → TakesPiece (Failed fault) piece (Err fault) (Failed fault)
takes_nothing fault piece = record {
  answers = refl;
  stays = λ f e. refl;
  history = history (Failed fault) piece (Failed fault) (λ e. e) (inr (λ more. refl));
}

never : {P : Type 0} (most : ℕ) (s : State) (line : ℕ) (begun : List ℕ) (fault : CheckFault) → Within most s line begun ≡ Failed fault → P
never most s line begun fault e = absurd cc

pub takes_within : (most : ℕ) (s : State) (line : ℕ) (begun piece : List ℕ) (new : CheckProgress) → Reaches (Within most s line begun) piece new → TakesPiece (Within most s line begun) piece (answer_in new) new
takes_within most s line begun piece new reaches = record {
  answers = refl;
  stays = λ f e. never most s line begun f e;
  history = history (Within most s line begun) piece new (λ e. never most s line begun no_memory e) reaches;
}

pub fails : (old : CheckProgress) (piece : List ℕ) (fault : CheckFault) → (fault ≡ no_memory) ⊎ LeadsTo old piece (Failed fault) → Reaches old piece (Failed fault)
fails old piece fault (inl e) = inl (ap Failed e)
fails old piece fault (inr leads) = inr leads

-- what is answered at the end
pub ends : (most : ℕ) (s : State) (line : ℕ) (begun : List ℕ) → IsOpen begun → check_end s.refuted line begun ≡ check_more (Within most s line begun) []
ends most s line begun no_lf = sym (ap (check_text most s.refuted s.live s.top line) (append-nil begun) ∙ check_text-end most s.refuted s.live s.top line begun no_lf)

-- ---- a whole text

pub finished : (F : Cnf) (p : CheckProgress) (bytes : List ℕ) (r : Result (Unit {0}) CheckFault) → HasTaken F p bytes → r ≡ check_more p [] → GivesCheck r (check_of F bytes)
finished F p bytes r (inl none) is = subst (λ x. GivesCheck x (check_of F bytes)) (sym (is ∙ ap (λ q. check_more q []) none)) (inl refl)
finished F p bytes r (inr h) is = gives r (check_of F bytes) (ap (check_of F) (sym (append-nil bytes)) ∙ h [] ∙ sym is)

pub stopped : (F : Cnf) (p : CheckProgress) (done later whole : List ℕ) (fault : CheckFault) → whole ≡ done ++ later → HasTaken F p done → Err fault ≡ answer_in p → GivesCheck (Err fault) (check_of F whole)
stopped F (Within most s line begun) done later whole fault split taken is = absurd (let no : Err fault ≡ Ok tt = is in cc)
stopped F (Failed f) done later whole fault split taken is = at taken
  where
    same : f ≡ fault
    same = let e : Err fault ≡ Err f = is in cc

    at : HasTaken F (Failed f) done → GivesCheck (Err fault) (check_of F whole)
    at (inl none) = inl (sym same ∙ (let e : Failed f ≡ Failed no_memory = none in cc))
    at (inr h) = inr (ap (check_of F) split ∙ h later ∙ sym is)

-- A text of lines in pieces.
use Rattle.std.proofs.Common.{◌≡◌, ◌≢◌, ◌==◌, ℕ, ◌+◌, ◌<◌, arith, false, List, [], ◌∷◌, ◌++◌, length, take, drop, get_or, refl, sym, ap, subst, ◌∙◌, append_assoc, inl, inr, Result, Ok, Err, Contains}
use Rattle.std.specs.Global.{Vec}
use Rattle.std.specs.Prelude.{MatchResult}
use Rattle.std.specs.List.{All}
use Rattle.std.proofs.lemmas.List.{append-nil, take_more, take-append-drop}
use Rattle.std.proofs.lemmas.Bool.{true≢false, eq-eqb}
use Rattle.std.proofs.lemmas.List.Elements.{All-contains, All-head, All-tail}
use Rattle.std.proofs.lemmas.List.Concat.{flat_map-cons}
use Rattle.std.proofs.Math.Seq.{take-append_seam}
use Rattle.std.proofs.lemmas.Grind.{flat_map-append}
use Rattle.lrat_text.specs.declared.fault.TextFault.{TextFault}
use Rattle.lrat_text.specs.declared.fault.TextFault.TheVariants.{BadToken, LineNotEnded, MissingZero, NumberTooLarge, NoMemory}
use Rattle.lrat_text.specs.declared.step.Step.{Step}
use Rattle.lrat_text.specs.Grammar.{LineSpells}
use Rattle.lrat_text.specs.Lines.{IsOpen, IsCut}
use Rattle.lrat_text.specs.LineSink.{TakesAll, HandsOn, LineRefused, PieceStops, ended_lines}
use Rattle.lrat_text.specs.declared.line_splitter.PieceFault.{PieceFault}
use Rattle.lrat_text.specs.declared.line_splitter.PieceFault.TheVariants.{NoMemory as NoPlace, Line}
use Rattle.lrat_text.specs.Pieces.{Splits, Breaks, ReadProgress, Within, Failed, HasTaken, TakesPiece, HasFault, StopsBefore, answer_in, end_in, joined}
use Rattle.lrat_text.specs.inner.Pieces.{AppendsStep, AppendsNone}

pub none_of : (xs : List ℕ) → length xs ≡ 0 → xs ≡ []
none_of [] e = refl
none_of (x ∷ xs) e = absurd cc

-- ---- lines, one after the other

no_lf_to : (line : List ℕ) → IsOpen line → Contains line 10 → ⊥
no_lf_to line none m = true≢false (sym (eq-eqb 10 10 refl) ∙ All-contains (λ b. (b == 10) ≡ false) line 10 none m)

pub spells_append : (ss ts : List Step) (a b : List ℕ) → LineSpells a ss → LineSpells b ts → LineSpells (a ++ b) (ss ++ ts)
spells_append [] ts a b p q = subst (λ (x : List ℕ). LineSpells (x ++ b) ts) (sym p) q
spells_append (step ∷ ss) ts a b (line, rest, split, none, spells, more) q =
    (line, rest ++ b, ap (λ (x : List ℕ). x ++ b) split ∙ append_assoc line (10 ∷ rest) b, none, spells, spells_append ss ts rest b more q)

-- the rest of one is the next
pub splits_on : (a : List ℕ) (ss : List Step) (r : List ℕ) (ts : List Step) (s : List ℕ) → Splits a ss r → Splits r ts s → Splits a (ss ++ ts) s
splits_on a ss r ts s p q =
    record {
      lines = p.lines ++ q.lines;
      whole = p.whole ∙ ap (λ (x : List ℕ). p.lines ++ x) q.whole ∙ sym (append_assoc p.lines q.lines s);
      spelled = spells_append ss ts p.lines q.lines p.spelled q.spelled;
    }

pub breaks_on : (a : List ℕ) (ss : List Step) (r : List ℕ) (ts : List Step) (f : TextFault) → Splits a ss r → Breaks r ts f → Breaks a (ss ++ ts) f
breaks_on a ss r ts f p (rest, line, later, q, is, e) = (rest, line, later, splits_on a ss r ts rest p q, is, e)

-- with more bytes after it
pub splits_more : (a : List ℕ) (ss : List Step) (r more : List ℕ) → Splits a ss r → Splits (a ++ more) ss (r ++ more)
splits_more a ss r more p = record { lines = p.lines; whole = ap (λ (x : List ℕ). x ++ more) p.whole ∙ append_assoc p.lines r more; spelled = p.spelled }

pub cut_more : (a line later more : List ℕ) → IsCut a line later → IsCut (a ++ more) line (later ++ more)
cut_more a line later more p = (ap (λ (x : List ℕ). x ++ more) p.0 ∙ append_assoc line (10 ∷ later) more, p.1)

-- what follows a fault changes nothing
pub breaks_more : (a : List ℕ) (ss : List Step) (f : TextFault) (more : List ℕ) → Breaks a ss f → Breaks (a ++ more) ss f
breaks_more a ss f more (rest, line, later, p, is, e) = (rest ++ more, line, later ++ more, splits_more a ss rest more p, cut_more rest line later more is, e)

-- ---- pieces

pub takes_nothing : (fault : TextFault) (piece : List ℕ) (steps : List Step) → TakesPiece (Failed fault) piece steps steps (Err fault) (Failed fault)
takes_nothing fault piece steps = record {
  appended = [];
  steps = sym (append-nil steps);
  answers = refl;
  history = λ bytes given taken. subst (λ ss. Breaks (bytes ++ piece) ss fault) (sym (append-nil given)) (breaks_more bytes given fault piece taken);
}

pub takes_within : (begun piece begun' : List ℕ) (before after new : List Step) → after ≡ before ++ new → Splits (begun ++ piece) new begun' → IsOpen begun'
    → TakesPiece (Within begun) piece before after (Ok tt) (Within begun')
takes_within begun piece begun' before after new steps splits still = record {
  appended = new;
  steps = steps;
  answers = refl;
  history = λ bytes given taken. (splits_on (bytes ++ piece) given (begun ++ piece) new begun' (splits_more bytes given begun piece taken.0) splits, still);
}

pub takes_fault : (begun piece : List ℕ) (fault : TextFault) (before after new : List Step) → after ≡ before ++ new → Breaks (begun ++ piece) new fault
    → TakesPiece (Within begun) piece before after (Err fault) (Failed fault)
takes_fault begun piece fault before after new steps breaks = record {
  appended = new;
  steps = steps;
  answers = refl;
  history = λ bytes given taken. breaks_on (bytes ++ piece) given (begun ++ piece) new fault (splits_more bytes given begun piece taken.0) breaks;
}

-- ---- the lines of a piece, whose steps are appended

appended : (lines : List (List ℕ)) (s t : Vec Step) → TakesAll AppendsStep s lines t → (new : List Step) × (t.items ≡ s.items ++ new)
appended [] s t e = ([], ap (λ (v : Vec Step). v.items) (sym e) ∙ sym (append-nil s.items))
appended (line ∷ lines) s t (m, (step, is, spells), later) =
    let r = appended lines m t later in
    (step ∷ r.0, r.1 ∙ ap (λ (x : List Step). x ++ r.0) is ∙ append_assoc s.items (step ∷ []) r.0)

spelled : (lines : List (List ℕ)) (s t : Vec Step) → All IsOpen lines → TakesAll AppendsStep s lines t → (new : List Step) × (t.items ≡ s.items ++ new) × LineSpells (ended_lines lines) new
spelled [] s t each e = ([], ap (λ (v : Vec Step). v.items) (sym e) ∙ sym (append-nil s.items), refl)
spelled (line ∷ lines) s t each (m, (step, is, spells), later) =
    let r = spelled lines m t (All-tail IsOpen line lines each) later in (
      step ∷ r.0,
      r.1 ∙ ap (λ (x : List Step). x ++ r.0) is ∙ append_assoc s.items (step ∷ []) r.0,
      (line, ended_lines lines, refl, no_lf_to line (All-head IsOpen line lines each), spells, r.2),
    )

pub splits_by : (s : Vec Step) (text : List ℕ) (t : Vec Step) (rest : List ℕ) → HandsOn AppendsStep s text t rest → (new : List Step) × (t.items ≡ s.items ++ new) × Splits text new rest
splits_by s text t rest h =
    let r = spelled h.lines s t h.one_by_one h.taken in
    (r.0, r.1, record { lines = ended_lines h.lines; whole = h.whole; spelled = r.2 })

pub breaks_by : (s : Vec Step) (text : List ℕ) (t : Vec Step) (fault : TextFault) → fault ≢ NoMemory → LineRefused AppendsStep AppendsNone s text t fault → (new : List Step) × (t.items ≡ s.items ++ new) × Breaks text new fault
breaks_by s text t fault other (m, rest, line, later, h, cut, none) =
    let r = splits_by s text m rest h in
    (r.0, none.0 ∙ r.1, (rest, line, later, r.2, cut, none.1 other))

-- so what was there before is got back
pub cut_back : (s : Vec Step) (text : List ℕ) (t : Vec Step) (fault : PieceFault TextFault) → PieceStops AppendsStep AppendsNone s text t fault → take (length s.items) t.items ≡ s.items
cut_back s text t NoPlace (lines, taken) = let r = appended lines s t taken in ap (take (length s.items)) r.1 ∙ take-append_seam s.items r.0
cut_back s text t (Line fault) (m, rest, line, later, h, cut, none) =
    let r = appended h.lines s m h.taken in
    ap (take (length s.items)) (none.0 ∙ r.1) ∙ take-append_seam s.items r.0

-- ---- a whole text

pub finished : (p : ReadProgress) (bytes : List ℕ) (steps : List Step) → HasTaken p bytes steps → Ok tt ≡ end_in p → LineSpells bytes steps
finished (Within []) bytes steps taken e = subst (λ b. LineSpells b steps) (sym (taken.0.whole ∙ append-nil taken.0.lines)) taken.0.spelled
finished (Within (b ∷ bs)) bytes steps taken e = absurd cc
finished (Failed fault) bytes steps taken e = absurd cc

pub unfinished : (p : ReadProgress) (bytes : List ℕ) (steps : List Step) (fault : TextFault) → HasTaken p bytes steps → Err fault ≡ end_in p → HasFault bytes steps fault
unfinished (Within []) bytes steps fault taken e = absurd cc
unfinished (Within (b ∷ bs)) bytes steps fault taken e = let is : fault ≡ LineNotEnded = cc in inl (is, (b, bs, taken.0, taken.1))
unfinished (Failed g) bytes steps fault taken e = let is : g ≡ fault = cc in inr (subst (λ f. Breaks bytes steps f) is taken)

-- where a fault stops the reading, it is the text's
pub stopped : (p : ReadProgress) (done later whole : List ℕ) (steps : List Step) (fault : TextFault) → whole ≡ done ++ later → HasTaken p done steps → Err fault ≡ answer_in p → HasFault whole steps fault
stopped (Within begun) done later whole steps fault split taken e = absurd cc
stopped (Failed g) done later whole steps fault split taken e =
    let is : g ≡ fault = cc in
    inr (subst (λ f. Breaks whole steps f) is (subst (λ b. Breaks b steps g) (sym split) (breaks_more done steps g later taken)))

pub ended : (p : ReadProgress) (bytes : List ℕ) (steps : List Step) (r : Result (Unit {0}) TextFault) → HasTaken p bytes steps → r ≡ end_in p
    → MatchResult r (λ _. LineSpells bytes steps) (λ fault. fault ≢ NoMemory → HasFault bytes steps fault)
ended p bytes steps (Ok u) taken e = finished p bytes steps taken e
ended p bytes steps (Err fault) taken e = λ other. unfinished p bytes steps fault taken e

pub record StopsAt (fault : TextFault) (all : List ℕ) (before after : List Step) : Type 0 where
  pub new : List Step
  pub steps : after ≡ before ++ new
  pub tells : fault ≢ NoMemory → HasFault all new fault

abbrev pub failing : TextFault → Result (Unit {0}) TextFault
failing fault = Err fault

pub stopped_at : (fault : TextFault) (old new : ReadProgress) (done piece rest all : List ℕ) (before mid after given : List Step) → mid ≡ before ++ given → HasTaken old done given → all ≡ (done ++ piece) ++ rest
    → (failing fault ≢ failing NoMemory → TakesPiece old piece mid after (Err fault) new) → (failing fault ≡ failing NoMemory → (new ≡ old) × (after ≡ mid)) → StopsAt fault all before after
stopped_at fault old new done piece rest all before mid after given steps taken whole takes refused = by_fault fault refl
  where
    other_fault : fault ≢ NoMemory → StopsAt fault all before after
    other_fault other =
        let t = takes (λ e. other cc) in
        record {
          new = given ++ t.appended;
          steps = t.steps ∙ ap (λ x. x ++ t.appended) steps ∙ append_assoc before given t.appended;
          tells = λ _. stopped new (done ++ piece) rest all (given ++ t.appended) fault whole (t.history done given taken) t.answers;
        }

    by_fault : (f : TextFault) → fault ≡ f → StopsAt fault all before after
    by_fault NoMemory e = record { new = given; steps = (refused (ap failing e)).1 ∙ steps; tells = λ other. absurd (other e) }
    by_fault BadToken e = other_fault (λ n. let q : BadToken ≡ NoMemory = sym e ∙ n in cc)
    by_fault LineNotEnded e = other_fault (λ n. let q : LineNotEnded ≡ NoMemory = sym e ∙ n in cc)
    by_fault MissingZero e = other_fault (λ n. let q : MissingZero ≡ NoMemory = sym e ∙ n in cc)
    by_fault NumberTooLarge e = other_fault (λ n. let q : NumberTooLarge ≡ NoMemory = sym e ∙ n in cc)

-- ---- pieces, one after the other

pub joined_more : (ps : List (Vec ℕ)) (i : ℕ) (p : Vec ℕ) → i < length ps → p ≡ get_or ps i p → joined (take (i + 1) ps) ≡ joined (take i ps) ++ p.items
joined_more ps i p lt e =
    let items : Vec ℕ → List ℕ = λ q. q.items in
    ap joined (take_more ps i p lt ∙ ap (λ q. take i ps ++ q ∷ []) (sym e)) ∙ flat_map-append items (take i ps) (p ∷ []) ∙ ap (λ (bytes : List ℕ). joined (take i ps) ++ bytes) (flat_map-cons items p [] ∙ append-nil p.items)

-- the pieces up to one, and those after it
pub joined_split : (ps : List (Vec ℕ)) (i : ℕ) (p : Vec ℕ) → i < length ps → p ≡ get_or ps i p → joined ps ≡ (joined (take i ps) ++ p.items) ++ joined (drop (i + 1) ps)
joined_split ps i p lt e =
    ap joined (sym (take-append-drop (i + 1) ps)) ∙ flat_map-append (λ q. q.items) (take (i + 1) ps) (drop (i + 1) ps) ∙ ap (λ (bytes : List ℕ). bytes ++ joined (drop (i + 1) ps)) (joined_more ps i p lt e)

-- a reader that has met no fault, and took no further piece
pub stops_before : (ps : List (Vec ℕ)) (i : ℕ) (old : ReadProgress) (before mid after given : List Step) → i < length ps → mid ≡ before ++ given → after ≡ mid → answer_in old ≡ Ok tt → HasTaken old (joined (take i ps)) given
    → StopsBefore ps before after
stops_before ps i (Within begun) before mid after given l steps same well taken = record {
  count = i;
  few = omega (arith, l);
  appended = given;
  steps = same ∙ steps;
  rest = begun;
  splits = taken.0;
  within = taken.1;
}
stops_before ps i (Failed fault) before mid after given l steps same well taken = absurd cc

-- what is answered after the last piece is not want of memory
pub ends_otherwise : (p : ReadProgress) → answer_in p ≡ Ok tt → end_in p ≢ Err NoMemory
ends_otherwise (Within []) well e = absurd cc
ends_otherwise (Within (b ∷ bs)) well e = absurd cc
ends_otherwise (Failed fault) well e = absurd cc

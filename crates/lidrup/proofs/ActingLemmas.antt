-- The result of a line, and what the code does.
use Rattle.std.proofs.Common.{◌≡◌, ◌⊎◌, inl, inr, ℕ, ◌+◌, ◌-◌, ◌^◌, ◌<◌, ◌≤◌, Bool, true, false, List, [], ◌∷◌, ◌++◌, Option, Some, None, Ok, Err, cond, refl, sym, ◌∙◌, ap, subst, length, take, eqb, arith, length-append}
use Rattle.std.specs.Prelude.{nat_lt, option_map}
use Rattle.std.proofs.lemmas.Bool.{lt-leb, ne_eqb}
use Rattle.std.proofs.lemmas.Bool.Decides.{nat_tests}
use Rattle.std.proofs.lemmas.List.{append-nil, take_at}
use Rattle.std.proofs.lemmas.List.Elements.{All-cons, All-nil}
use Rattle.dimacs.specs.logic.ClauseMap.{ClauseMap}
use Rattle.dimacs.specs.logic.Literal.{Clause}
use Rattle.lrat_check.specs.ProofFaults.{no_memory}
use Rattle.lrat_check.specs.Logs.{LogState, TakesLogLine, RefusesLogLine, after_line, by_fault as by_log_fault, line_read, log_step_fault}
use Rattle.lrat_check.specs.declared.line_checker.CheckFault.{CheckFault}
use Rattle.lrat_check.proofs.Lines.{no_lf_from}
use Rattle.lrat_check.proofs.Logs.{takes_line}
use Rattle.lrat_text.specs.Grammar.{IsClauseNumber, IsStepWithin}
use Rattle.lrat_text.specs.Lines.{IsOpen}
use Rattle.lrat_text.specs.Log.{after_step, top_after}
use Rattle.lrat_text.specs.Parser.{step_within}
use Rattle.lrat_text.specs.Runs.{text_of}
use Rattle.lrat_text.specs.LineSink.{HandsOn}
use Rattle.lrat_text.specs.WrittenLine.{line_of, line_text}
use Rattle.lrat_text.specs.declared.step.Step.{Step}
use Rattle.lrat_text.specs.declared.step.Step.TheVariants.{Add}
use Rattle.lrat_text.proofs.LineLemmas.{written_spells_within, written_one_line_within}
use Rattle.lrat_text.proofs.SpellingLemmas.{spelled_found_within}
use Rattle.lidrup.specs.Lidrup.{Names, LidrupState, LineResult, after, by_fault, empty_after, given, going_on, logged, naming, take_line, take_read}
use Rattle.lidrup.specs.Lines.{Given, line_in}
use Rattle.lidrup.specs.NameMaps.{number_or_0}
use Rattle.lidrup.specs.View.{state_of}
use Rattle.lidrup.specs.inner.LineEffects.{CarriesOut, LogsStep, LineFails, FailsAs, TakesLidrupLine}
use Rattle.lidrup.specs.inner.Faults.{line_refusal, numbers_of}
use Rattle.lidrup.specs.inner.LogSteps.{ChecksStep, RefusesStep, fault_of_log}
use Rattle.lidrup.specs.declared.fault.LineFault.{LineFault}
use Rattle.lidrup.specs.declared.fault.LineFault.TheVariants.{NoMemory, OfLog}
use Rattle.lidrup.specs.declared.translator.Translator.{Translator}
use Rattle.lidrup.specs.declared.log_number.LogNumber.{LogNumber}
use Rattle.lidrup.specs.declared.cube_lines.CubeLines.{CubeLines}
use Rattle.lidrup.specs.declared.checked_log.CheckedLog.{CheckedLog}
use Rattle.lidrup.proofs.StreamLemmas.{behind_none, hands_none}

-- ---- a line of the log
-- the line that is written spells its step
pub step_back : (most : ℕ) → most < 2 ^ 48 → (front : ℕ) (step : Step) → IsClauseNumber front → IsStepWithin most step → step_within most (line_text front step) ≡ Ok step
step_back most few front step numbered limits = spelled_found_within most (line_text front step) step few (written_spells_within most few front step numbered limits)

-- without its LF
pub line_cut : (line made now : List ℕ) (end : ℕ) → now ≡ made → made ≡ line ++ 10 ∷ [] → end ≡ length made - 1 → take end now ≡ line
line_cut line made now end same is at =
    let long : length made ≡ length line + 1 = ap (λ (x : List ℕ). length x) is ∙ length-append line (10 ∷ []) in
    ap (take end) (same ∙ is) ∙ take_at line (10 ∷ []) end (omega arith)

-- one line is handed on
hands_one : (front : ℕ) (step : Step) (old new : LogState) → IsClauseNumber front → IsStepWithin old.most step → TakesLogLine old (line_text front step) new → HandsOn TakesLogLine old (line_of front step) new []
hands_one front step old new numbered limits takes = record {
  lines = line_text front step ∷ [];
  whole = sym (append-nil (line_text front step ++ 10 ∷ []));
  one_by_one = All-cons IsOpen (line_text front step) [] (no_lf_from (line_text front step) (written_one_line_within old.most takes.few front step numbered limits)) (All-nil IsOpen);
  taken = (new, takes, refl);
}

pub checked_line : (front : ℕ) (step : Step) (old new : LogState) (made : List ℕ) → IsClauseNumber front → IsStepWithin old.most step → made ≡ line_of front step → TakesLogLine old (line_text front step) new
    → ChecksStep front old step new made
checked_line front step old new made numbered limits is takes = at (log_step_fault old.base old.live old.top step) refl
  where
    read : by_log_fault old step (log_step_fault old.base old.live old.top step) ≡ Ok new
    read = sym (ap (line_read old) (step_back old.most takes.few front step numbered limits)) ∙ takes_line old new (line_text front step) takes

    at : (o : Option ℕ) → log_step_fault old.base old.live old.top step ≡ o → ChecksStep front old step new made
    at (Some number) e = absurd (let no = sym (ap (by_log_fault old step) e) ∙ read in cc)
    at None e =
        let same : Ok (after_line old step) ≡ Ok new = sym (ap (by_log_fault old step) e) ∙ read in
        let state : new ≡ after_line old step = cc in
        record {
          fits = e;
          live = ap (λ (s : LogState). s.live) state;
          top = ap (λ (s : LogState). s.top) state;
          base = ap (λ (s : LogState). s.base) state;
          hands = hands_one front step old new numbered limits takes;
          made_is = is;
          most = ap (λ (s : LogState). s.most) state;
        }

-- a line of the log is refused
refused_step : (old : LogState) (step : Step) (o : Option ℕ) (fault : CheckFault) → by_log_fault old step o ≡ Err fault → o ≡ Some fault.number
refused_step old step None fault e = absurd cc
refused_step old step (Some number) fault e =
    let same : record { number = number; line = old.line; text = 0 } ≡ fault = cc in ap (λ (f : CheckFault). Some f.number) same

pub refused_line : (front : ℕ) (step : Step) (old : LogState) (fault : CheckFault) → old.most < 2 ^ 48 → IsClauseNumber front → IsStepWithin old.most step → RefusesLogLine old (line_text front step) fault → RefusesStep old step (fault_of_log fault)
refused_line front step old fault few numbered limits (inl e) = inl (ap fault_of_log e)
refused_line front step old fault few numbered limits (inr e) =
    at (eqb fault.number 14) (refused_step old step (log_step_fault old.base old.live old.top step) fault (sym (ap (line_read old) (step_back old.most few front step numbered limits)) ∙ e))
  where
    at : (b : Bool) → log_step_fault old.base old.live old.top step ≡ Some fault.number → RefusesStep old step (cond b NoMemory (OfLog fault.number))
    at true is = inl refl
    at false is = inr (ap (option_map (λ n. (n, 0))) is)

-- ---- a step of the log
pub logged_ok : (m : ℕ) (s : LidrupState) (step : Step) → log_step_fault m s.live s.top step ≡ None → logged m s step ≡ Ok (step ∷ [], after s step)
logged_ok m s step e = ap (by_fault s step) e

pub logged_fault : (m : ℕ) (s : LidrupState) (step : Step) (p : ℕ × ℕ) → option_map (λ n. (n, 0)) (log_step_fault m s.live s.top step) ≡ Some p → logged m s step ≡ Err p
logged_fault m s step p = at (log_step_fault m s.live s.top step)
  where
    at : (o : Option ℕ) → option_map (λ n. (n, 0)) o ≡ Some p → by_fault s step o ≡ Err p
    at None e = absurd cc
    at (Some n) e = let h : (n, 0) ≡ p = cc in ap (λ (x : ℕ × ℕ). Err x) h

pub logged_stays : (m : ℕ) (s : LidrupState) (old : CheckedLog) (step : Step) (f : LineFault) → m ≡ old.checker.base → s.live ≡ old.checker.live → s.top ≡ old.checker.top → RefusesStep old.checker step f → FailsAs (logged m s step) f
logged_stays m s old step f base live top (inl e) = inl e
logged_stays m s old step f base live top (inr e) =
    inr (logged_fault m s step (numbers_of f) (ap (λ (b : ℕ). option_map (λ n. (n, 0)) (log_step_fault b s.live s.top step)) base ∙ ap (λ (M : ClauseMap). option_map (λ n. (n, 0)) (log_step_fault old.checker.base M s.top step)) live
    ∙ ap (λ (n : ℕ). option_map (λ k. (k, 0)) (log_step_fault old.checker.base old.checker.live n step)) top ∙ e))

pub state_same : (a b : LidrupState) → a.names ≡ b.names → a.last ≡ b.last → a.given ≡ b.given → a.closing ≡ b.closing → a.closings ≡ b.closings → a.empty ≡ b.empty → a.live ≡ b.live → a.top ≡ b.top → a ≡ b
state_same a b names last given closing closings empty live top =
    ap (λ (x : Names). record a { names = x }) names
    ∙ ap (λ (x : ℕ). record a { names = b.names; last = x }) last
    ∙ ap (λ (x : ℕ). record a { names = b.names; last = b.last; given = x }) given
    ∙ ap (λ (x : ℕ). record a { names = b.names; last = b.last; given = b.given; closing = x }) closing
    ∙ ap (λ (x : List ℕ). record a { names = b.names; last = b.last; given = b.given; closing = b.closing; closings = x }) closings
    ∙ ap (λ (x : ℕ). record a { names = b.names; last = b.last; given = b.given; closing = b.closing; closings = b.closings; empty = x }) empty
    ∙ ap (λ (x : ClauseMap). record a { names = b.names; last = b.last; given = b.given; closing = b.closing; closings = b.closings; empty = b.empty; live = x }) live
    ∙ ap (λ (x : ℕ). record b { top = x }) top

-- a step was logged, and the rest was changed so
pub logged_acts : (s : LidrupState) (step : Step) (old new : Translator) (before now : List ℕ)
    → s.live ≡ old.log.checker.live → s.top ≡ old.log.checker.top → s.empty ≡ old.log.empty
    → LogsStep old.log step new.log before now
    → s.names ≡ (state_of new).names → s.last ≡ new.last → s.given ≡ new.given → s.closing ≡ (state_of new).closing → s.closings ≡ new.closings.items
    → CarriesOut (logged old.log.checker.base s step) old new before now
logged_acts s step old new before now live top empty l names last given closing closings = record {
  steps = step ∷ [];
  is =
      logged_ok old.log.checker.base s step (ap (λ (M : ClauseMap). log_step_fault old.log.checker.base M s.top step) live ∙ ap (λ (n : ℕ). log_step_fault old.log.checker.base old.log.checker.live n step) top ∙ l.fits)
      ∙ ap (λ (t : LidrupState). Ok (step ∷ [], t)) (state_same (after s step) (state_of new) names last given closing closings
      (ap (λ e. empty_after e step) empty ∙ sym l.empty) (ap (λ (M : ClauseMap). after_step M step) live ∙ sym l.live) (ap (λ n. top_after n step) top ∙ sym l.top));
  base = l.base;
  hands = subst (λ (x : List ℕ). HandsOn TakesLogLine old.log.checker x new.log.checker []) (sym (append-nil (line_of old.log.checker.top step))) l.hands;
  out = l.out ∙ ap (λ (x : List ℕ). before ++ x) (sym (append-nil (line_of old.log.checker.top step)));
  most = l.most;
}

-- nothing was logged
pub quiet_acts : (taken : LineResult) (old new : Translator) (out : List ℕ) → taken ≡ Ok ([], state_of new) → new.log ≡ old.log → CarriesOut taken old new out out
quiet_acts taken old new out is log = record {
  steps = [];
  is = is;
  base = ap (λ (l : CheckedLog). l.checker.base) log;
  hands = subst (λ (l : CheckedLog). HandsOn TakesLogLine old.log.checker [] l.checker []) (sym log) (hands_none old.log.checker);
  out = sym (append-nil out);
  most = ap (λ (l : CheckedLog). l.checker.most) log;
}

pub acts_as : (a b : LineResult) (old new : Translator) (before after : List ℕ) → b ≡ a → CarriesOut a old new before after → CarriesOut b old new before after
acts_as a b old new before after e = subst (λ (t : LineResult). CarriesOut t old new before after) (sym e)

pub stays_as : (a b : LineResult) (f : LineFault) → b ≡ a → FailsAs a f → FailsAs b f
stays_as a b f e = subst (λ (t : LineResult). FailsAs t f) (sym e)

-- a clause after the formula's
not_below : (a b : ℕ) → b ≤ a → nat_lt a b ≡ false
not_below a b h = grind (arith, nat_tests)

pub given_logged : (m : ℕ) (s : LidrupState) (id : ℕ) (C : Clause) (closing : Option LogNumber) (k : LogNumber)
    → s.last < id → m ≤ s.given → closing ≡ Some k
    → take_line m (record s { closing = number_or_0 closing }) (Given id C)
    ≡ logged m (naming (record s { closing = number_or_0 closing }) id (s.top + 1)) (Add (s.top + 1) C (k.number ∷ []) [])
given_logged m s id C closing k above behind is =
    let t = record s { closing = number_or_0 closing } in
    let Steps : ℕ → LineResult = λ n. logged m (naming t id (s.top + 1)) (Add (s.top + 1) C (n ∷ []) []) in
    let closes : ℕ → LineResult = λ n. cond (eqb n 0) (Err (3, 0)) (Steps n) in
    let low = k.numbered.0 in
    ap (λ b. cond b (Err (2, 0)) (given m t id C)) (lt-leb id s.last above)
    ∙ ap (λ b. cond b (Ok ([], record (naming t id (s.given + 1)) { given = s.given + 1 })) (closes (number_or_0 closing))) (not_below s.given m behind)
    ∙ ap (λ (o : Option LogNumber). closes (number_or_0 o)) is
    ∙ ap (λ b. cond b (Err (3, 0)) (Steps k.number)) (ne_eqb k.number 0 (λ e. absurd (omega arith)))

-- ---- lines
pub line_takes : (old new : CubeLines) (line : List ℕ) → old.known.log.empty ≡ 0 → CarriesOut (take_read old.known.log.checker.base (state_of old.known) (line_in old.known.log.checker.most line)) old.known new.known old.out.items new.out.items
    → new.line ≡ old.line + 1 → TakesLidrupLine old line new
line_takes old new line empty a next = record {
  made = text_of old.known.log.checker.top a.steps;
  out = a.out;
  goes_on = λ later.
      ap (λ n. cond (eqb n 0) (going_on old.line old.known.log.checker.top (take_read old.known.log.checker.base (state_of old.known) (line_in old.known.log.checker.most line)) later) (later (state_of old.known))) empty
      ∙ ap (λ (t : LineResult). going_on old.line old.known.log.checker.top t later) a.is;
  hands = a.hands;
  base = a.base;
  next = next;
  most = a.most;
}

-- a line after the empty lemma
pub line_passes : (old new : CubeLines) (line : List ℕ) → eqb old.known.log.empty 0 ≡ false → new.known ≡ old.known → new.out ≡ old.out → new.line ≡ old.line + 1 → TakesLidrupLine old line new
line_passes old new line empty known out next = record {
  made = [];
  out = ap (λ o. o.items) out ∙ sym (append-nil old.out.items);
  goes_on = λ later.
      ap (λ b. cond b (going_on old.line old.known.log.checker.top (take_read old.known.log.checker.base (state_of old.known) (line_in old.known.log.checker.most line)) later) (later (state_of old.known))) empty
      ∙ ap (λ (k : Translator). later (state_of k)) (sym known)
      ∙ sym (behind_none (later (state_of new.known)));
  hands = subst (λ (k : Translator). HandsOn TakesLogLine old.known.log.checker [] k.log.checker []) (sym known) (hands_none old.known.log.checker);
  base = ap (λ (k : Translator). k.log.checker.base) known;
  next = next;
  most = ap (λ (k : Translator). k.log.checker.most) known;
}

-- a line that is refused
refusal : (f : LineFault) (line : ℕ) → (line_refusal f line ≡ no_memory) ⊎ (record { number = (numbers_of f).0; line = line; text = (numbers_of f).1 } ≡ line_refusal f line)
refusal NoMemory line = inl refl
refusal f line = inr refl

pub line_stops : (old : CubeLines) (line : List ℕ) (f : LineFault) → old.known.log.empty ≡ 0 → FailsAs (take_read old.known.log.checker.base (state_of old.known) (line_in old.known.log.checker.most line)) f
    → (line_refusal f old.line ≡ no_memory) ⊎ LineFails old line (line_refusal f old.line)
line_stops old line f empty (inl e) = inl (ap (λ (g : LineFault). line_refusal g old.line) e)
line_stops old line f empty (inr e) = elim (refusal f old.line) [
  | inl none ↦ inl none
  | inr same ↦ inr (λ later.
      ap (λ n. cond (eqb n 0) (going_on old.line old.known.log.checker.top (take_read old.known.log.checker.base (state_of old.known) (line_in old.known.log.checker.most line)) later) (later (state_of old.known))) empty
      ∙ ap (λ (t : LineResult). going_on old.line old.known.log.checker.top t later) e
      ∙ ap (λ (x : CheckFault). Err x) same)
]

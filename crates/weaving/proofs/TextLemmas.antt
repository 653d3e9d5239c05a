-- The text that is woven grows by lines that the checker takes.
use Rattle.std.proofs.Common.{◌≡◌, ℕ, ◌<◌, Bool, true, false, List, [], ◌∷◌, ◌++◌, length, Some, Result, Ok, Err, OnOk, refl, sym, ap, ◌∙◌, subst, append_assoc}
use Rattle.std.specs.Bool.{OnTrue}
use Rattle.std.specs.FinMap.{get}
use Rattle.std.proofs.lemmas.Bool.{true≢false}
use Rattle.std.proofs.lemmas.List.{append-nil}
use Rattle.std.proofs.lemmas.List.Elements.{All-cons, All-nil}
use Rattle.dimacs.specs.logic.ClauseMap.{ClauseMap, map_of}
use Rattle.dimacs.specs.logic.Cnf.{Cnf}
use Rattle.dimacs.specs.logic.Literal.{Clause}
use Rattle.lrat_check.specs.Logs.{IsBegun, LogState, TakesLogLine}
use Rattle.lrat_check.specs.declared.line_checker.CheckFault.{CheckFault}
use Rattle.lrat_check.proofs.Lines.{no_lf_to}
use Rattle.lrat_check.proofs.LogLines.{HasTakenLog, hands_piece, log_taken}
use Rattle.lrat_text.specs.Grammar.{LineSpellsWithin, SpellsStepWithin, lf}
use Rattle.lrat_text.specs.LineSink.{HandsOn}
use Rattle.lrat_text.specs.Lines.{IsOpen}
use Rattle.lrat_text.specs.Log.{Closes, Cube, IsLogStep, Negates, log_top}
use Rattle.lrat_text.specs.Runs.{after_steps, top_of}
use Rattle.lrat_text.specs.declared.step.Step.{Step}
use Rattle.lrat_text.proofs.RunLemmas.{log_append, spells_append_within}
use Rattle.lidrup.specs.CubeLog.{ClosesCube}
use Rattle.lidrup.specs.Lidrup.{IsClosing, Negates as IsNegated}
use Rattle.lidrup.proofs.ClosingLemmas.{closes_cube, closing_is, on_true}
use Rattle.weaving.specs.Woven.{ClosesAs, HasWoven, KeepsWoven}
use Rattle.weaving.specs.declared.checked_text.CheckedText.{CheckedText}
use Rattle.weaving.specs.inner.Lines.{AppendsLine}

-- ---- the empty text
pub woven_begun : (F : Cnf) (t : CheckedText) → IsBegun F t.checker → t.out.items ≡ [] → HasWoven F [] t
woven_begun F t begun none = record { leads = record { start = t.checker; begun = begun; hands = record { lines = []; whole = none; one_by_one = All-nil IsOpen; taken = refl } } }

-- ---- one line more
one_line : (s : LogState) (line : List ℕ) (t : LogState) → IsOpen line → TakesLogLine s line t → HandsOn TakesLogLine s (line ++ lf ∷ []) t []
one_line s line t bare takes = record {
  lines = line ∷ [];
  whole = sym (append-nil (line ++ lf ∷ []));
  one_by_one = All-cons IsOpen line [] bare (All-nil IsOpen);
  taken = (t, takes, refl);
}

longer : (handed before after line : List ℕ) → after ≡ before ++ line ++ lf ∷ [] → (handed ++ before) ++ (line ++ lf ∷ []) ≡ handed ++ after
longer handed before after line e = append_assoc handed before (line ++ lf ∷ []) ∙ ap (λ (x : List ℕ). handed ++ x) (sym (append_assoc before line (lf ∷ [])) ∙ sym e)

pub line_keeps : (old new : CheckedText) → AppendsLine old.checker new.checker old.out.items new.out.items → KeepsWoven old new
line_keeps old new a F handed h = record {
  leads = record {
    start = h.leads.start;
    begun = h.leads.begun;
    hands = subst (λ (x : List ℕ). HandsOn TakesLogLine h.leads.start x new.checker []) (longer handed old.out.items new.out.items a.line a.out)
        (hands_piece TakesLogLine h.leads.start (handed ++ old.out.items) old.checker [] (a.line ++ lf ∷ []) new.checker [] h.leads.hands (one_line old.checker a.line new.checker a.bare a.takes));
  };
}

pub on_line : (old new : CheckedText) (r : Result (Unit {0}) CheckFault) → OnOk r (AppendsLine old.checker new.checker old.out.items new.out.items) → OnOk r (KeepsWoven old new)
on_line old new (Ok u) h = line_keeps old new h
on_line old new (Err fault) h = tt

pub keeps_on : (a b c : CheckedText) → KeepsWoven a b → KeepsWoven b c → KeepsWoven a c
keeps_on a b c f g F handed h = g F handed (f F handed h)

pub closes_on : (q r : Cube) (a b c : CheckedText) → q ≡ r → KeepsWoven a b → ClosesAs q b c → ClosesAs r a c
closes_on q r a b c same f g F handed h = subst (λ (x : Cube). Closes F x (handed ++ c.out.items)) same (g F handed (f F handed h))

-- ---- the last line
one_spelled : (most : ℕ) (line : List ℕ) (step : Step) → IsOpen line → SpellsStepWithin most line step → LineSpellsWithin most (line ++ lf ∷ []) (step ∷ [])
one_spelled most line step bare s = (line, [], refl, no_lf_to line bare, s, refl)

pub line_closes : (q : Cube) (old new : CheckedText) → AppendsLine old.checker new.checker old.out.items new.out.items → Negates q new.checker.step → ClosesAs q old new
line_closes q old new a negates F handed h =
    let taken : (steps : List Step) × HasTakenLog F (handed ++ old.out.items) steps old.checker [] = log_taken F h.leads.start (handed ++ old.out.items) old.checker [] h.leads.begun h.leads.hands in
    let steps = taken.0 in
    let t : HasTakenLog F (handed ++ old.out.items) steps old.checker [] = taken.1 in
    let step = new.checker.step in
    let front : LineSpellsWithin (log_top F) (handed ++ old.out.items) steps = subst (λ (x : List ℕ). LineSpellsWithin (log_top F) x steps) (sym (t.whole ∙ append-nil t.front)) t.spelled in
    let spelled : SpellsStepWithin (log_top F) a.line step = subst (λ (n : ℕ). SpellsStepWithin n a.line step) t.most a.takes.spells in
    let follows : IsLogStep (length F.clauses) (after_steps (map_of F) steps) (top_of (length F.clauses) steps) step =
    subst (λ (n : ℕ). IsLogStep n (after_steps (map_of F) steps) (top_of (length F.clauses) steps) step) t.base
    (subst (λ (M : ClauseMap). IsLogStep old.checker.base M (top_of (length F.clauses) steps) step) t.live
    (subst (λ (n : ℕ). IsLogStep old.checker.base old.checker.live n step) t.top a.takes.follows)) in (
      steps ++ step ∷ [],
      subst (λ (x : List ℕ). LineSpellsWithin (log_top F) x (steps ++ step ∷ [])) (longer handed old.out.items new.out.items a.line a.out)
          (spells_append_within (log_top F) (handed ++ old.out.items) (a.line ++ lf ∷ []) steps (step ∷ []) front (one_spelled (log_top F) a.line step a.bare spelled)),
      log_append (length F.clauses) (map_of F) (length F.clauses) steps (step ∷ []) t.log (follows, tt),
      (steps, step, refl, negates),
    )

pub of_true : (b : Bool) (P : Type 0) → b ≡ true → OnTrue b P → P
of_true true P e h = h
of_true false P e h = absurd (true≢false (sym e))

-- ---- bytes that are handed out
pub woven_handed : (F : Cnf) (handed : List ℕ) (old new : CheckedText) → new.checker ≡ old.checker → new.out.items ≡ [] → HasWoven F handed old → HasWoven F (handed ++ old.out.items) new
woven_handed F handed old new same none h = record {
  leads = record {
    start = h.leads.start;
    begun = h.leads.begun;
    hands = subst (λ (x : List ℕ). HandsOn TakesLogLine h.leads.start x new.checker []) (sym (ap (λ (o : List ℕ). (handed ++ old.out.items) ++ o) none ∙ append-nil (handed ++ old.out.items)))
        (subst (λ (s : LogState). HandsOn TakesLogLine h.leads.start (handed ++ old.out.items) s []) (sym same) h.leads.hands);
  };
}

-- ---- cubes
pub has_closing : (s : LogState) (number : ℕ) (q : Cube) (C : Clause) (b : Bool) → s.base < number → get s.live number ≡ Some C → OnTrue b (IsNegated q C) → OnTrue b (IsClosing s.base s.live number q)
has_closing s number q C b own lives = on_true b (IsNegated q C) (IsClosing s.base s.live number q) (closing_is s.base s.live number q C own lives)

pub closing_closes : (t : CheckedText) (number : ℕ) (q : Cube) (b : Bool) → OnTrue b (IsClosing t.checker.base t.checker.live number q)
    → OnTrue b ((F : Cnf) (handed : List ℕ) → HasWoven F handed t → ClosesCube F q (handed ++ t.out.items))
closing_closes t number q b =
    on_true b (IsClosing t.checker.base t.checker.live number q) ((F : Cnf) (handed : List ℕ) → HasWoven F handed t → ClosesCube F q (handed ++ t.out.items))
    (λ k F handed h. closes_cube F q (handed ++ t.out.items) t.checker number h.leads k)

-- The log of many cubes, and the bytes of it that are handed out.
use Rattle.std.proofs.Common.{◌≡◌, ◌⊎◌, inl, inr, ℕ, ◌∙◌, true, false, List, [], ◌∷◌, ◌++◌, Option, Some, None, Ok, Err, eqb, refl, sym, ap, subst, append_assoc, length, arith}
use Rattle.std.specs.Prelude.{is_some}
use Rattle.std.proofs.lemmas.Bool.{both_ways, ne_eqb}
use Rattle.std.proofs.lemmas.List.{append-nil}
use Rattle.std.proofs.lemmas.List.Elements.{All-nil}
use Rattle.dimacs.specs.logic.Cnf.{Cnf}
use Rattle.lrat_check.specs.ProofFaults.{no_memory}
use Rattle.lrat_check.specs.Logs.{IsBegun, LogState, SpellsLog, TakesLogLine}
use Rattle.lrat_check.specs.declared.line_checker.CheckFault.{CheckFault}
use Rattle.lrat_check.proofs.LogLines.{HasTakenLog, hands_piece, log_taken}
use Rattle.lrat_text.specs.Grammar.{LineSpellsWithin}
use Rattle.lrat_text.specs.Lines.{IsOpen}
use Rattle.lrat_text.specs.Log.{log_top}
use Rattle.lrat_text.specs.LineSink.{HandsOn}
use Rattle.lrat_text.specs.declared.step.Step.{Step}
use Rattle.lidrup.specs.CubeLog.{LeadsTo, HasLogged, EndsAs, by_kept, text_after}
use Rattle.lidrup.specs.Lidrup.{LidrupState, LidrupResult, begun, prepend, lidrup_end, lidrup_of, lidrup_text, refused}
use Rattle.lidrup.specs.View.{state_of}
use Rattle.lidrup.specs.inner.LineEffects.{Leads, LeadsToFault}
use Rattle.lidrup.specs.declared.cube_log.CubeLog.{CubeLog}
use Rattle.lidrup.specs.declared.translator.Translator.{Translator}
use Rattle.lidrup.proofs.StreamLemmas.{behind_append, behind_none, hands_none, text-end}

pub no_fault : (o : Option CheckFault) → is_some o ≡ false → o ≡ None
no_fault None e = refl
no_fault (Some f) e = absurd cc

pub some_fault : (o : Option CheckFault) → is_some o ≡ true → o ≡ None → {P : Type 0} → P
some_fault None e n = absurd cc
some_fault (Some f) e n = absurd cc

-- ---- the beginning
pub stands_begun : (F : Cnf) (x : CubeLog) → x.fault ≡ None → x.begun ≡ [] → x.lines.out.items ≡ [] → x.lines.line ≡ 1 → state_of x.lines.known ≡ begun F → IsBegun F x.lines.known.log.checker
    → HasLogged F [] [] x
stands_begun F x fine none out line state log = record {
  taken = inr (λ more.
      sym (ap (λ f. by_kept f (lidrup_text x.lines.known.log.checker.most x.lines.known.log.checker.base (state_of x.lines.known) x.lines.line (x.begun ++ more))) fine
      ∙ ap (λ (b : List ℕ). lidrup_text x.lines.known.log.checker.most x.lines.known.log.checker.base (state_of x.lines.known) x.lines.line (b ++ more)) none
      ∙ ap (λ n. lidrup_text x.lines.known.log.checker.most x.lines.known.log.checker.base (state_of x.lines.known) n more) line
      ∙ ap (λ (s : LidrupState). lidrup_text x.lines.known.log.checker.most x.lines.known.log.checker.base s 1 more) state
      ∙ ap (λ b. lidrup_text x.lines.known.log.checker.most b (begun F) 1 more) log.base
      ∙ ap (λ n. lidrup_text n (length F.clauses) (begun F) 1 more) log.most)
      ∙ sym (behind_none (text_after x more))
      ∙ ap (λ (o : List ℕ). prepend o (text_after x more)) (sym out));
  log = λ f. subst (λ (o : List ℕ). LeadsTo F o x.lines.known.log.checker) (sym out) (record { start = x.lines.known.log.checker; begun = log; hands = hands_none x.lines.known.log.checker });
}

-- ---- pieces
pub stands_more : (F : Cnf) (bytes handed piece : List ℕ) (old new : CubeLog) → old.fault ≡ None → new.fault ≡ None → Leads old.begun old.lines piece new.begun new.lines
    → HasLogged F bytes handed old → HasLogged F (bytes ++ piece) handed new
stands_more F bytes handed piece old new was fine l s = record { taken = at s.taken; log = λ e. logs (s.log was) }
  where
    taken : ((more : List ℕ) → lidrup_of F (bytes ++ more) ≡ prepend (handed ++ old.lines.out.items) (text_after old more)) → (more : List ℕ)
        → lidrup_of F ((bytes ++ piece) ++ more) ≡ prepend (handed ++ new.lines.out.items) (text_after new more)
    taken h more =
        ap (lidrup_of F) (append_assoc bytes piece more)
        ∙ h (piece ++ more)
        ∙ ap (λ f. prepend (handed ++ old.lines.out.items) (by_kept f (lidrup_text old.lines.known.log.checker.most old.lines.known.log.checker.base (state_of old.lines.known) old.lines.line (old.begun ++ (piece ++ more))))) was
        ∙ ap (prepend (handed ++ old.lines.out.items)) (l.goes_on more)
        ∙ sym (behind_append (handed ++ old.lines.out.items) l.made _)
        ∙ ap (λ (o : List ℕ). prepend o (lidrup_text new.lines.known.log.checker.most new.lines.known.log.checker.base (state_of new.lines.known) new.lines.line (new.begun ++ more))) (append_assoc handed old.lines.out.items l.made ∙ ap (λ (o : List ℕ). handed ++ o) (sym l.out))
        ∙ ap (λ f. prepend (handed ++ new.lines.out.items) (by_kept f (lidrup_text new.lines.known.log.checker.most new.lines.known.log.checker.base (state_of new.lines.known) new.lines.line (new.begun ++ more)))) (sym fine)

    at : (old.fault ≡ Some no_memory) ⊎ ((more : List ℕ) → lidrup_of F (bytes ++ more) ≡ prepend (handed ++ old.lines.out.items) (text_after old more))
        → (new.fault ≡ Some no_memory) ⊎ ((more : List ℕ) → lidrup_of F ((bytes ++ piece) ++ more) ≡ prepend (handed ++ new.lines.out.items) (text_after new more))
    at (inl e) = absurd (let no : ◌≡◌ {A = Option CheckFault} None (Some no_memory) = sym was ∙ e in cc)
    at (inr h) = inr (taken h)

    logs : LeadsTo F (handed ++ old.lines.out.items) old.lines.known.log.checker → LeadsTo F (handed ++ new.lines.out.items) new.lines.known.log.checker
    logs k = record {
      start = k.start;
      begun = k.begun;
      hands = subst (λ (x : List ℕ). HandsOn TakesLogLine k.start x new.lines.known.log.checker []) (append_assoc handed old.lines.out.items l.made ∙ ap (λ (o : List ℕ). handed ++ o) (sym l.out))
          (hands_piece TakesLogLine k.start (handed ++ old.lines.out.items) old.lines.known.log.checker [] l.made new.lines.known.log.checker [] k.hands l.hands);
    }

-- a fault is kept from now on
pub stands_fault : (F : Cnf) (bytes handed piece : List ℕ) (old new : CubeLog) (fault : CheckFault) → old.fault ≡ None → new.fault ≡ Some fault → LeadsToFault old.begun old.lines piece fault
    → HasLogged F bytes handed old → HasLogged F (bytes ++ piece) handed new
stands_fault F bytes handed piece old new fault was is l s = record { taken = at l s.taken; log = λ none. absurd (let no : ◌≡◌ {A = Option CheckFault} (Some fault) None = sym is ∙ none in cc) }
  where
    at : LeadsToFault old.begun old.lines piece fault → (old.fault ≡ Some no_memory) ⊎ ((more : List ℕ) → lidrup_of F (bytes ++ more) ≡ prepend (handed ++ old.lines.out.items) (text_after old more))
        → (new.fault ≡ Some no_memory) ⊎ ((more : List ℕ) → lidrup_of F ((bytes ++ piece) ++ more) ≡ prepend (handed ++ new.lines.out.items) (text_after new more))
    at (inl e) t = inl (is ∙ ap (λ (f : CheckFault). Some f) e)
    at (inr stops) (inl e) = absurd (let no : ◌≡◌ {A = Option CheckFault} None (Some no_memory) = sym was ∙ e in cc)
    at (inr stops) (inr h) = inr (λ more.
        ap (lidrup_of F) (append_assoc bytes piece more)
        ∙ h (piece ++ more)
        ∙ ap (λ f. prepend (handed ++ old.lines.out.items) (by_kept f (lidrup_text old.lines.known.log.checker.most old.lines.known.log.checker.base (state_of old.lines.known) old.lines.line (old.begun ++ (piece ++ more))))) was
        ∙ ap (prepend (handed ++ old.lines.out.items)) (stops more)
        ∙ ap (λ f. prepend (handed ++ new.lines.out.items) (by_kept f (lidrup_text new.lines.known.log.checker.most new.lines.known.log.checker.base (state_of new.lines.known) new.lines.line (new.begun ++ more)))) (sym is))

-- a fault that is kept stays
pub stands_kept : (F : Cnf) (bytes handed piece : List ℕ) (x : CubeLog) → is_some x.fault ≡ true → HasLogged F bytes handed x → HasLogged F (bytes ++ piece) handed x
stands_kept F bytes handed piece x kept s = record { taken = at s.taken; log = λ none. some_fault x.fault kept none }
  where
    same : (o : Option CheckFault) → is_some o ≡ true → (a b : LidrupResult) → by_kept o a ≡ by_kept o b
    same None e a b = absurd cc
    same (Some f) e a b = refl

    at : (x.fault ≡ Some no_memory) ⊎ ((more : List ℕ) → lidrup_of F (bytes ++ more) ≡ prepend (handed ++ x.lines.out.items) (text_after x more))
        → (x.fault ≡ Some no_memory) ⊎ ((more : List ℕ) → lidrup_of F ((bytes ++ piece) ++ more) ≡ prepend (handed ++ x.lines.out.items) (text_after x more))
    at (inl e) = inl e
    at (inr h) = inr (λ more. ap (lidrup_of F) (append_assoc bytes piece more) ∙ h (piece ++ more) ∙ ap (prepend (handed ++ x.lines.out.items)) (same x.fault kept _ _))

-- bytes are handed out
pub stands_out : (F : Cnf) (bytes handed : List ℕ) (old new : CubeLog) → new.fault ≡ old.fault → new.begun ≡ old.begun → new.lines.known ≡ old.lines.known → new.lines.line ≡ old.lines.line → new.lines.out.items ≡ []
    → HasLogged F bytes handed old → HasLogged F bytes (handed ++ old.lines.out.items) new
stands_out F bytes handed old new fault begun known line out s = record { taken = at s.taken; log = λ e. logs (s.log (sym fault ∙ e)) }
  where
    all : (handed ++ old.lines.out.items) ++ new.lines.out.items ≡ handed ++ old.lines.out.items
    all = ap (λ (o : List ℕ). (handed ++ old.lines.out.items) ++ o) out ∙ append-nil (handed ++ old.lines.out.items)

    same : (more : List ℕ) → text_after new more ≡ text_after old more
    same more =
        ap (λ f. by_kept f (lidrup_text new.lines.known.log.checker.most new.lines.known.log.checker.base (state_of new.lines.known) new.lines.line (new.begun ++ more))) fault
        ∙ ap (λ (b : List ℕ). by_kept old.fault (lidrup_text new.lines.known.log.checker.most new.lines.known.log.checker.base (state_of new.lines.known) new.lines.line (b ++ more))) begun
        ∙ ap (λ n. by_kept old.fault (lidrup_text new.lines.known.log.checker.most new.lines.known.log.checker.base (state_of new.lines.known) n (old.begun ++ more))) line
        ∙ ap (λ (k : Translator). by_kept old.fault (lidrup_text k.log.checker.most k.log.checker.base (state_of k) old.lines.line (old.begun ++ more))) known

    at : (old.fault ≡ Some no_memory) ⊎ ((more : List ℕ) → lidrup_of F (bytes ++ more) ≡ prepend (handed ++ old.lines.out.items) (text_after old more))
        → (new.fault ≡ Some no_memory) ⊎ ((more : List ℕ) → lidrup_of F (bytes ++ more) ≡ prepend ((handed ++ old.lines.out.items) ++ new.lines.out.items) (text_after new more))
    at (inl e) = inl (fault ∙ e)
    at (inr h) = inr (λ more. h more ∙ ap (prepend (handed ++ old.lines.out.items)) (sym (same more)) ∙ ap (λ (o : List ℕ). prepend o (text_after new more)) (sym all))

    logs : LeadsTo F (handed ++ old.lines.out.items) old.lines.known.log.checker → LeadsTo F ((handed ++ old.lines.out.items) ++ new.lines.out.items) new.lines.known.log.checker
    logs k = subst (λ (o : List ℕ). LeadsTo F o new.lines.known.log.checker) (sym all) (subst (λ (n : Translator). LeadsTo F (handed ++ old.lines.out.items) n.log.checker) (sym known) k)

-- ---- the end
leads_spells : (F : Cnf) (text : List ℕ) (s : LogState) → LeadsTo F text s → SpellsLog F text
leads_spells F text s l =
    let taken : (steps : List Step) × HasTakenLog F text steps s [] = log_taken F l.start text s [] l.begun l.hands in
    let h : HasTakenLog F text taken.0 s [] = taken.1 in
    (taken.0, subst (λ (x : List ℕ). LineSpellsWithin (log_top F) x taken.0) (sym (h.whole ∙ append-nil h.front)) h.spelled, h.log)

-- the checker's formula has as many clauses
pub stands_base : (F : Cnf) (bytes handed : List ℕ) (x : CubeLog) → x.fault ≡ None → HasLogged F bytes handed x → x.lines.known.log.checker.base ≡ length F.clauses
stands_base F bytes handed x fine s =
    let l = s.log fine in
    let taken : (steps : List Step) × HasTakenLog F (handed ++ x.lines.out.items) steps x.lines.known.log.checker [] =
    log_taken F l.start (handed ++ x.lines.out.items) x.lines.known.log.checker [] l.begun l.hands in
    taken.1.base

-- what is known at the end of a text without a fault that ends so
at_end : (F : Cnf) (bytes handed : List ℕ) (x : CubeLog) → x.fault ≡ None → IsOpen x.begun → HasLogged F bytes handed x
    → lidrup_of F bytes ≡ prepend (handed ++ x.lines.out.items) (lidrup_end (state_of x.lines.known) x.lines.line x.begun)
at_end F bytes handed x fine bare s = at s.taken
  where
    at : (x.fault ≡ Some no_memory) ⊎ ((more : List ℕ) → lidrup_of F (bytes ++ more) ≡ prepend (handed ++ x.lines.out.items) (text_after x more))
        → lidrup_of F bytes ≡ prepend (handed ++ x.lines.out.items) (lidrup_end (state_of x.lines.known) x.lines.line x.begun)
    at (inl e) = absurd (let no : ◌≡◌ {A = Option CheckFault} None (Some no_memory) = sym fine ∙ e in cc)
    at (inr h) =
        ap (lidrup_of F) (sym (append-nil bytes))
        ∙ h []
        ∙ ap (λ f. prepend (handed ++ x.lines.out.items) (by_kept f (lidrup_text x.lines.known.log.checker.most x.lines.known.log.checker.base (state_of x.lines.known) x.lines.line (x.begun ++ [])))) fine
        ∙ ap (λ (b : List ℕ). prepend (handed ++ x.lines.out.items) (lidrup_text x.lines.known.log.checker.most x.lines.known.log.checker.base (state_of x.lines.known) x.lines.line b)) (append-nil x.begun)
        ∙ ap (prepend (handed ++ x.lines.out.items)) (text-end x.lines.known.log.checker.most x.lines.known.log.checker.base (state_of x.lines.known) x.lines.line x.begun bare)

pub ends_ok : (F : Cnf) (bytes handed : List ℕ) (x : CubeLog) → x.fault ≡ None → x.begun ≡ [] → HasLogged F bytes handed x → EndsAs F bytes (handed ++ x.lines.out.items) (state_of x.lines.known) (Ok tt)
ends_ok F bytes handed x fine none s = record {
  comes =
      at_end F bytes handed x fine (subst (λ (b : List ℕ). IsOpen b) (sym none) (All-nil (λ b. eqb b 10 ≡ false))) s
      ∙ ap (λ (b : List ℕ). prepend (handed ++ x.lines.out.items) (lidrup_end (state_of x.lines.known) x.lines.line b)) none
      ∙ ap (λ (o : List ℕ). Ok (o, state_of x.lines.known)) (append-nil (handed ++ x.lines.out.items));
  is_log = leads_spells F (handed ++ x.lines.out.items) x.lines.known.log.checker (s.log fine);
}

pub ends_cut : (F : Cnf) (bytes handed : List ℕ) (x : CubeLog) → x.fault ≡ None → IsOpen x.begun → eqb (length x.begun) 0 ≡ false → HasLogged F bytes handed x
    → lidrup_of F bytes ≡ refused 1 x.lines.line 2
ends_cut F bytes handed x fine bare some s = at_end F bytes handed x fine bare s ∙ at x.begun some
  where
    at : (b : List ℕ) → eqb (length b) 0 ≡ false → prepend (handed ++ x.lines.out.items) (lidrup_end (state_of x.lines.known) x.lines.line b) ≡ refused 1 x.lines.line 2
    at [] e = absurd (both_ways (eqb 0 0) e refl)
    at (b ∷ bs) e = refl

pub ends_fault : (F : Cnf) (bytes handed : List ℕ) (x : CubeLog) (fault : CheckFault) → x.fault ≡ Some fault → HasLogged F bytes handed x → EndsAs F bytes (handed ++ x.lines.out.items) (state_of x.lines.known) (Err fault)
ends_fault F bytes handed x fault is s = at s.taken
  where
    at : (x.fault ≡ Some no_memory) ⊎ ((more : List ℕ) → lidrup_of F (bytes ++ more) ≡ prepend (handed ++ x.lines.out.items) (text_after x more)) → EndsAs F bytes (handed ++ x.lines.out.items) (state_of x.lines.known) (Err fault)
    at (inl e) = inl (let same : ◌≡◌ {A = Option CheckFault} (Some fault) (Some no_memory) = sym is ∙ e in cc)
    at (inr h) = inr (
        ap (lidrup_of F) (sym (append-nil bytes))
        ∙ h []
        ∙ ap (λ f. prepend (handed ++ x.lines.out.items) (by_kept f (lidrup_text x.lines.known.log.checker.most x.lines.known.log.checker.base (state_of x.lines.known) x.lines.line (x.begun ++ [])))) is)

pub none_begun : (b : List ℕ) → eqb (length b) 0 ≡ true → b ≡ []
none_begun [] e = refl
none_begun (x ∷ b) e = absurd (both_ways (eqb (length (x ∷ b)) 0) (ne_eqb (length (x ∷ b)) 0 (λ z. absurd (omega arith))) e)

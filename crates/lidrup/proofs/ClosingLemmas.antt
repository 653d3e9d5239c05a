-- Lemmas that close cubes.
use Rattle.std.proofs.Common.{◌≡◌, inl, inr, ℕ, ◌+◌, ◌<◌, ◌∙◌, Bool, true, false, List, [], ◌++◌, Ok, Some, sym, ap, subst, length, take, get_or}
use Rattle.std.specs.Prelude.{Contains, MatchBool}
use Rattle.std.specs.Bool.{OnTrue}
use Rattle.std.specs.FinMap.{get}
use Rattle.std.proofs.lemmas.List.{append-nil, take_more}
use Rattle.std.proofs.lemmas.List.Elements.{Contains-push_cases}
use Rattle.dimacs.specs.logic.ClauseMap.{ClauseMap}
use Rattle.dimacs.specs.logic.Cnf.{Cnf}
use Rattle.dimacs.specs.logic.Literal.{Literal, Clause, negation}
use Rattle.lrat_check.specs.Logs.{LogState}
use Rattle.lrat_check.proofs.LogLines.{HasTakenLog, log_taken}
use Rattle.lrat_text.specs.Grammar.{LineSpellsWithin}
use Rattle.lrat_text.specs.Log.{Cube, log_top}
use Rattle.lrat_text.specs.declared.step.Step.{Step}
use Rattle.lidrup.specs.CubeLog.{ClosesCube, IsClosed, IsEnded, LeadsTo, HasLogged}
use Rattle.lidrup.specs.Lidrup.{ClosesQuery, IsClosing, Negates, LidrupState, closing_of, lidrup_of}
use Rattle.lidrup.specs.View.{state_of}
use Rattle.lidrup.specs.declared.cube_log.CubeLog.{CubeLog}
use Rattle.lidrup.proofs.LogLemmas.{ends_ok, stands_base}

-- a live lemma closes the cube
pub closes_cube : (F : Cnf) (q : Cube) (text : List ℕ) (s : LogState) (number : ℕ) → LeadsTo F text s → IsClosing s.base s.live number q → ClosesCube F q text
closes_cube F q text s number l k =
    let taken : (steps : List Step) × HasTakenLog F text steps s [] = log_taken F l.start text s [] l.begun l.hands in
    let steps = taken.0 in
    let h : HasTakenLog F text steps s [] = taken.1 in
    record {
      steps = steps;
      spells = subst (λ (x : List ℕ). LineSpellsWithin (log_top F) x steps) (sym (h.whole ∙ append-nil h.front)) h.spelled;
      is_log = h.log;
      id = number;
      clause = k.clause;
      own = subst (λ (n : ℕ). n < number) h.base k.own;
      lives = subst (λ (M : ClauseMap). get M number ≡ Some k.clause) h.live k.lives;
      negates = k.negates;
    }

pub on_true : (b : Bool) (P Q : Type 0) → (P → Q) → OnTrue b P → OnTrue b Q
on_true true P Q f h = f h
on_true false P Q f h = tt

pub true_of : (b : Bool) (P Q R : Type 0) → (P → R) → MatchBool b P Q → OnTrue b R
true_of true P Q R f h = f h
true_of false P Q R f h = tt

pub match_weaker : (b : Bool) (P Q P' Q' : Type 0) → (P → P') → (Q → Q') → MatchBool b P Q → MatchBool b P' Q'
match_weaker true P Q P' Q' f g h = f h
match_weaker false P Q P' Q' f g h = g h

pub negates_more : (q : Cube) (C : Clause) (i : ℕ) (l : Literal) → i < length C → l ≡ get_or C i l → Contains q (negation l) → ((k : Literal) → Contains (take i C) k → Contains q (negation k))
    → (k : Literal) → Contains (take (i + 1) C) k → Contains q (negation k)
negates_more q C i l inside at here before k m = elim (Contains-push_cases (take i C) (get_or C i l) k (subst (λ (D : Clause). Contains D k) (take_more C i l inside) m)) [
  | inl h ↦ before k h
  | inr same ↦ subst (λ j. Contains q (negation j)) (at ∙ same) here
]

pub closing_is : (m : ℕ) (live : ClauseMap) (number : ℕ) (q : Cube) (C : Clause) → m < number → get live number ≡ Some C → Negates q C → IsClosing m live number q
closing_is m live number q C own lives negates = record { clause = C; own = own; lives = lives; negates = negates }

pub closing_not : (m : ℕ) (live : ClauseMap) (number : ℕ) (q : Cube) (C : Clause) → get live number ≡ Some C → ¬ (Negates q C) → ¬ (IsClosing m live number q)
closing_not m live number q C lives not k =
    let both : Some C ≡ Some k.clause = sym lives ∙ k.lives in
    let same : k.clause ≡ C = cc in
    not (subst (Negates q) same k.negates)

-- what is told of a query is told of the text
pub closes_text : (F : Cnf) (bytes handed : List ℕ) (x : CubeLog) (query : ℕ) (q : Cube) (b : Bool) → IsEnded x → HasLogged F bytes handed x → MatchBool b (IsClosed x query q) (¬ (IsClosed x query q))
    → MatchBool b (ClosesQuery F bytes query q) (¬ (ClosesQuery F bytes query q))
closes_text F bytes handed x query q b e s =
    match_weaker b (IsClosed x query q) (¬ (IsClosed x query q)) (ClosesQuery F bytes query q) (¬ (ClosesQuery F bytes query q)) to (λ not k. not (back k))
  where
    state : LidrupState
    state = state_of x.lines.known

    comes : lidrup_of F bytes ≡ Ok (handed ++ x.lines.out.items, state)
    comes = (ends_ok F bytes handed x e.fine e.whole s).comes

    base : x.lines.known.log.checker.base ≡ length F.clauses
    base = stands_base F bytes handed x e.fine s

    to : IsClosed x query q → ClosesQuery F bytes query q
    to k = record {
      log = handed ++ x.lines.out.items;
      state = state;
      comes = comes;
      closing = subst (λ (m : ℕ). IsClosing m state.live (closing_of state query) q) base k.closing;
    }

    back : ClosesQuery F bytes query q → IsClosed x query q
    back k =
        let both : Ok (handed ++ x.lines.out.items, state) ≡ Ok (k.log, k.state) = sym comes ∙ k.comes in
        let pair : (handed ++ x.lines.out.items, state) ≡ (k.log, k.state) = cc in
        let same : k.state ≡ state = sym (ap (λ (p : List ℕ × LidrupState). p.1) pair) in
        record { fine = e.fine; closing = subst (λ (m : ℕ). IsClosing m state.live (closing_of state query) q) (sym base) (subst (λ (t : LidrupState). IsClosing (length F.clauses) t.live (closing_of t query) q) same k.closing) }

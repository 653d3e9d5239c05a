-- Searches by one session, and their parts of its log.
use Rattle.std.proofs.Common.{◌≡◌, ℕ, ◌+◌, ◌≤◌, ◌<◌, ◌^◌, max, inl, inr, true, ◌&&◌, List, [], ◌∷◌, ◌++◌, length, map, nat_eq, Some, refl, sym, ◌∙◌, ap, subst, arith, append_assoc}
use Rattle.std.specs.FinMap.{insert}
use Rattle.std.specs.List.{All, Contains, IsDistinct}
use Rattle.std.proofs.lemmas.List.{append-nil}
use Rattle.std.proofs.lemmas.List.Elements.{All-contains, All-weaker, Contains-append_left, Contains-append_right, Contains-push_cases}
use Rattle.dimacs.specs.logic.ClauseMap.{ClauseMap, live_in, map_of}
use Rattle.dimacs.specs.logic.Cnf.{Cnf, assignment_of}
use Rattle.dimacs.specs.logic.Literal.{Clause, Literal, IsTautology, IsTrueIn, IsWithin, negation, var_of}
use Rattle.dimacs.specs.logic.Propagation.{Rup}
use Rattle.dimacs.proofs.LiteralLemmas.{IsWithin-negation, negation-negation}
use Rattle.dimacs.proofs.Members.{Contains-cons, Contains-cons_cases, Contains-has, Contains-head, Contains-nil}
use Rattle.icnf.specs.Leaves.{Cube}
use Rattle.cube_solve.specs.Session.{AreGiven, IfUnknown, IsRightAnswer, last_of, log_of, vars_of}
use Rattle.cube_solve.specs.SessionLog.{HasFailed, IsFailure, IsKnown, LogGrowsFrom, LogGrows}
use Rattle.cube_solve.specs.declared.answer.Answer.{Answer}
use Rattle.cube_solve.specs.declared.answer.Answer.TheVariants as answer
use Rattle.cube_solve.specs.declared.session.Session.{Session}
use Rattle.cube_solve.proofs.SearchLemmas.{cube_sound}
use Rattle.log_join.specs.ClosedLeaves.{closes}
use Rattle.log_join.proofs.PlacedLemmas.{counted_top}
use Rattle.lrat_text.specs.Grammar.{IsClauseNumber, IsStepWithin, LineSpellsWithin}
use Rattle.lrat_text.specs.Log.{AreLogSteps, additions, log_top}
use Rattle.lrat_text.specs.Runs.{after_steps, text_of, top_of}
use Rattle.lrat_text.specs.WrittenLine.{line_of, line_text}
use Rattle.lrat_text.specs.declared.step.Step.{Step}
use Rattle.lrat_text.specs.declared.step.Step.TheVariants.{Add, Delete}
use Rattle.lrat_text.proofs.ClauseMapLemmas.{get_here, get_other}
use Rattle.lrat_text.proofs.LineLemmas.{spells_more, written_one_line_within, written_spells_within}
use Rattle.lrat_text.proofs.RunLemmas.{after_append, log_append, spells_append_within, top_append}
use Rattle.leaves.specs.BlockSearch.{Closed, Limit}
use Rattle.leaves.specs.inner.BlockSearch.{HasEnded, IsAnswered, AnswerIsRight, HasSearched}
use Rattle.leaves.specs.declared.search_session.SearchSession.{SearchSession}
use Rattle.leaves.proofs.RightStepLemmas.{all_of, in_numbers, numbers_low, numbers_to, right_logged, right_spelled, stays}

-- ---- what an answer says
-- why a core fails, if these clauses are live
abbrev pub FailsIn : ClauseMap → Answer → Type 0
FailsIn M (answer.Satisfied values) = Unit {0}
FailsIn M (answer.Failed failure) = IsFailure M failure.core.items failure.hints.items
FailsIn M answer.Unknown = Unit {0}

fails_in : {P : Type 0} (a : Answer) (s : Session P) → HasFailed a s → (given : List ℕ) (M : ClauseMap) → IsKnown given M s → FailsIn M a
fails_in (answer.Satisfied values) s h given M k = tt
fails_in (answer.Failed failure) s h given M k = h given M k
fails_in answer.Unknown s h given M k = tt

says_so : (F : Cnf) (closing : List Clause) (q : Cube) (limit count last new vars : ℕ) (M : ClauseMap) (a : Answer) → vars ≡ F.vars → new ≡ last + count → IsRightAnswer vars (F.clauses ++ closing) q a → IfUnknown a (new ≡ last + limit) → new ≤ last + limit → FailsIn M a
    → AnswerIsRight F q limit M count a
says_so F closing q limit count last new vars M (answer.Satisfied values) same grew right unknown most fails = record {
  whole = right.whole ∙ same;
  base = all_of (IsTrueIn (assignment_of values)) F.clauses (λ C i. All-contains (IsTrueIn (assignment_of values)) (F.clauses ++ closing) C right.clauses (Contains-append_left F.clauses closing C i));
  cube = right.query;
}
says_so F closing q limit count last new vars M (answer.Failed failure) same grew right unknown most fails = (fails, right.within, omega arith)
says_so F closing q limit count last new vars M answer.Unknown same grew right unknown most fails = omega arith

module _ {P : Type 0} (F : Cnf) (closing : List Clause) (steps : List Step) (s u : SearchSession P) where
  -- ---- a query
  pub is_answered : (mid : Session P) (q : Cube) (limit : ℕ) (a : Answer) → vars_of s.session ≤ 199999999 → LogGrows s.session mid → ((G : List Clause) → AreGiven G s.session → AreGiven G mid) → vars_of mid ≡ vars_of s.session
      → ((G : List Clause) → AreGiven G s.session → IsRightAnswer (vars_of s.session) G q a) → IfUnknown a (last_of mid ≡ last_of s.session + limit) → last_of mid ≤ last_of s.session + limit → HasFailed a mid
      → vars_of u.session ≡ vars_of mid → last_of u.session ≡ last_of mid → ((G : List Clause) → AreGiven G mid → AreGiven G u.session)
      → ((given : List ℕ) (M : ClauseMap) → IsKnown given M mid → IsKnown given M u.session) → log_of u.session ≡ [] → u.log ≡ s.log ++ log_of mid
      → HasSearched F closing steps s → IsAnswered F closing steps q limit a u
  is_answered mid q limit a few tells gave vars right unknown most failed vars_too last gives knows taken log h =
      let m = length F.clauses in
      let M = after_steps (map_of F) steps in
      let top = last_of s.session in
      let t : LogGrowsFrom h.given M s.session mid = tells h.given M h.known in
      let own = t.steps in
      let text : log_of mid ≡ text_of top own = t.text ∙ ap (λ (x : List ℕ). x ++ text_of top own) h.taken in
      let bound : ℕ = vars_of s.session in
      let short : bound < 2 ^ 48 = omega (arith, few) in
      let fits : bound ≤ max 2000000 F.vars = omega (arith, h.vars) in
      let l : AreLogSteps m M top own = right_logged bound h.given m M top own h.first t.right in
      let spelled : LineSpellsWithin (log_top F) (text_of top own) own = spells_more bound (log_top F) fits (text_of top own) own (right_spelled bound short h.given M top own t.right) in
      let after : after_steps (map_of F) (steps ++ own) ≡ after_steps M own = after_append (map_of F) steps own in
      record {
        own = own;
        stands = record {
          given = h.given;
          vars = vars_too ∙ vars ∙ h.vars;
          spells = subst (λ (x : List ℕ). LineSpellsWithin (log_top F) x (steps ++ own)) (sym (log ∙ ap (λ (x : List ℕ). s.log ++ x) text)) (spells_append_within (log_top F) s.log (text_of top own) steps own h.spells spelled);
          is_log = log_append m (map_of F) m steps own h.is_log (subst (λ k. AreLogSteps m M k own) h.last l);
          last = last ∙ t.last ∙ ap (λ k. top_of k own) h.last ∙ sym (top_append m steps own);
          taken = taken;
          known = subst (λ (N : ClauseMap). IsKnown h.given N u.session) (sym after) (knows h.given (after_steps M own) t.known);
          held = gives (F.clauses ++ closing) (gave (F.clauses ++ closing) h.held);
          first = h.first;
          lives = λ C i. let x = h.lives C i in (x.0, x.1, x.2, subst (λ (N : ClauseMap). live_in N x.0 C) (sym after) (stays bound h.given M top own t.right x.0 x.1 (h.known.before x.0 x.1) C x.3));
        };
        says = subst (λ (N : ClauseMap). AnswerIsRight F q limit N (additions own) a) (sym after)
            (says_so F closing q limit (additions own) top (last_of mid) (vars_of s.session) (after_steps M own) a h.vars (t.last ∙ counted_top m M top own l) (right (F.clauses ++ closing) h.held) unknown most
            (fails_in a mid failed h.given (after_steps M own) t.known));
      }

  -- ---- a lemma that stays
  pub stands_closed : (w : Session P) (C : Clause) (hints : List ℕ) → vars_of s.session ≤ 199999999 → vars_of w ≡ vars_of s.session → last_of w ≡ last_of s.session + 1 → IsClauseNumber (last_of w) → log_of w ≡ log_of s.session
      → ((G : List Clause) → AreGiven G s.session → AreGiven (G ++ C ∷ []) w)
      → ((given : List ℕ) (M : ClauseMap) → IsKnown given M s.session → IsKnown (given ++ last_of w ∷ []) (insert M (last_of w) C) w)
      → IsStepWithin (vars_of s.session) (Add (last_of w) C hints []) → u.session ≡ w → u.log ≡ s.log ++ line_of (last_of w) (Add (last_of w) C hints [])
      → HasSearched F closing steps s → Rup (live_in (after_steps (map_of F) steps)) C hints → HasSearched F (closing ++ C ∷ []) (steps ++ Add (last_of u.session) C hints [] ∷ []) u
  stands_closed w C hints few vars next number none gives knows limits is log h rup =
      let bound : ℕ = vars_of s.session in
      let short : bound < 2 ^ 48 = omega (arith, few) in
      let fits : bound ≤ max 2000000 F.vars = omega (arith, h.vars) in
      let m = length F.clauses in
      let M = after_steps (map_of F) steps in
      let id = last_of w in
      let step = Add id C hints [] in
      let same : last_of u.session ≡ id = ap (λ (x : Session P). last_of x) is in
      let grown = counted_top m (map_of F) m steps h.is_log in
      let low : m ≤ last_of s.session = (let e = h.last in omega arith) in
      let after : after_steps (map_of F) (steps ++ step ∷ []) ≡ insert M id C = after_append (map_of F) steps (step ∷ []) in
      subst (λ k. HasSearched F (closing ++ C ∷ []) (steps ++ Add k C hints [] ∷ []) u) (sym same) (record {
        given = h.given ++ id ∷ [];
        vars = ap (λ (x : Session P). vars_of x) is ∙ vars ∙ h.vars;
        spells = subst (λ (x : List ℕ). LineSpellsWithin (log_top F) x (steps ++ step ∷ [])) (sym log)
            (spells_append_within (log_top F) s.log (line_of id step) steps (step ∷ []) h.spells
            (spells_more bound (log_top F) fits (line_of id step) (step ∷ []) (line_text id step, [], refl, written_one_line_within bound short id step number limits, written_spells_within bound short id step number limits, refl)));
        is_log = log_append m (map_of F) m steps (step ∷ []) h.is_log ((next ∙ ap (λ k. k + 1) h.last, refl, rup), tt);
        last = same ∙ sym (top_append m steps (step ∷ []));
        taken = ap (λ (x : Session P). log_of x) is ∙ none ∙ h.taken;
        known = subst (λ (x : Session P). IsKnown (h.given ++ id ∷ []) (after_steps (map_of F) (steps ++ step ∷ [])) x) (sym is)
            (subst (λ (N : ClauseMap). IsKnown (h.given ++ id ∷ []) N w) (sym after) (knows h.given M h.known));
        held = subst (λ (x : Session P). AreGiven (F.clauses ++ (closing ++ C ∷ [])) x) (sym is) (subst (λ (G : List Clause). AreGiven G w) (append_assoc F.clauses closing (C ∷ [])) (gives (F.clauses ++ closing) h.held));
        first = λ n low up. Contains-append_left h.given (id ∷ []) n (h.first n low up);
        lives = λ D i. elim (Contains-push_cases closing C D i) [
          | inl j ↦
              let x = h.lives D j in
              let below = h.known.before x.0 x.1 in
              (x.0, Contains-append_left h.given (id ∷ []) x.0 x.1, x.2, subst (λ (N : ClauseMap). live_in N x.0 D) (sym after) (get_other M id x.0 C (λ e. omega arith) ∙ x.3))
          | inr e ↦ (
            id,
            Contains-append_right h.given (id ∷ []) id (Contains-head id []),
            (let l = low in omega arith),
            subst (λ (N : ClauseMap). live_in N id D) (sym after) (get_here M id C ∙ ap (λ (E : Clause). Some E) e),
          )
        ];
      })

-- ---- a search
-- a cube of distinct variables has no pair
no_pair : (q : Cube) (core : List Literal) → IsDistinct nat_eq (map var_of q) → ((l : Literal) → Contains core l → Contains q l) → ¬ (IsTautology core)
no_pair q core apart within (l, i, j) = cube_sound q apart l (within l i) (within (negation l) j)

pub rup_of : (q : Cube) (core : List Literal) (hints : List ℕ) (M : ClauseMap) → IsDistinct nat_eq (map var_of q) → ((l : Literal) → Contains core l → Contains q l) → IsFailure M core hints → Rup (live_in M) (map negation core) hints
rup_of q core hints M apart within (inl pair) = absurd (no_pair q core apart within pair)
rup_of q core hints M apart within (inr rup) = rup

-- the clause of a core's negations closes the cube
negated_from : (core : List Literal) (l : Literal) → Contains (map negation core) l → Contains core (negation l)
negated_from [] l i = absurd (Contains-nil l i)
negated_from (k ∷ core) l i = elim (Contains-cons_cases (negation k) l (map negation core) i) [
  | inl e ↦ subst (Contains (k ∷ core)) (sym (negation-negation k) ∙ ap negation e) (Contains-head k core)
  | inr j ↦ Contains-cons k (negation l) core (negated_from core l j)
]

negating_closes : (q : Cube) (C : Clause) → ((l : Literal) → Contains C l → Contains q (negation l)) → closes q C ≡ true
negating_closes q [] h = refl
negating_closes q (l ∷ C) h =
    ap (λ b. b && closes q C) (Contains-has q (negation l) (h l (Contains-head l C)))
    ∙ negating_closes q C (λ k i. h k (Contains-cons l k C i))

one_addition : (own : List Step) (id : ℕ) (C : Clause) (hints : List ℕ) → additions (own ++ Add id C hints [] ∷ []) ≡ additions own + 1
one_addition [] id C hints = refl
one_addition (Add n D ns groups ∷ own) id C hints = let r = one_addition own id C hints in omega arith
one_addition (Delete ids ∷ own) id C hints = one_addition own id C hints

module _ {P : Type 0} (F : Cnf) (closing : List Clause) (steps own : List Step) (q : Cube) (limit : ℕ) (u : SearchSession P) where
  pub ends_closed : (core : List Literal) (hints : List ℕ) (id : ℕ) → ((l : Literal) → Contains core l → Contains q l) → additions own ≤ limit
      → HasSearched F (closing ++ map negation core ∷ []) ((steps ++ own) ++ Add id (map negation core) hints [] ∷ []) u
      → HasEnded F closing steps q limit (Closed (own ++ Add id (map negation core) hints [] ∷ [])) u
  ends_closed core hints id within most h =
      let C = map negation core in
      let step = Add id C hints [] in
      let negates : (l : Literal) → Contains C l → Contains q (negation l) = λ l i. within (negation l) (negated_from core l i) in
      record {
        more = C ∷ [];
        stands = subst (λ (xs : List Step). HasSearched F (closing ++ C ∷ []) xs u) (append_assoc steps own (step ∷ [])) h;
        ended = ((own, step, refl, negates), (let more = one_addition own id C hints in omega arith));
        closed = (C, Contains-head C [], negating_closes q C negates);
      }

  pub ends_at_limit : additions own ≡ limit → HasSearched F closing (steps ++ own) u → HasEnded F closing steps q limit (Limit own) u
  ends_at_limit count h = record {
    more = [];
    stands = subst (λ (Cs : List Clause). HasSearched F Cs (steps ++ own) u) (sym (append-nil closing)) h;
    ended = count;
    closed = tt;
  }

-- ---- the beginning
pub begins : {P : Type 0} (F : Cnf) (u : SearchSession P) → vars_of u.session ≡ F.vars → last_of u.session ≡ length F.clauses → log_of u.session ≡ [] → AreGiven F.clauses u.session
    → ((given : List ℕ) → ((n : ℕ) → Contains given n → n ≤ length F.clauses) → IsKnown given (map_of F) u.session) → u.log ≡ [] → HasSearched F [] [] u
begins F u vars last log given known none = record {
  given = numbers_to (length F.clauses);
  vars = vars;
  spells = none;
  is_log = tt;
  last = last;
  taken = log;
  known = known (numbers_to (length F.clauses)) (numbers_low (length F.clauses));
  held = subst (λ (G : List Clause). AreGiven G u.session) (sym (append-nil F.clauses)) given;
  first = in_numbers (length F.clauses);
  lives = λ C i. absurd (Contains-nil C i);
}

-- ---- limits
pub within_negated : (vars : ℕ) (core : List Literal) → All (IsWithin vars) core → All (IsWithin vars) (map negation core)
within_negated vars core h = all_of (IsWithin vars) (map negation core) (λ l i.
    subst (IsWithin vars) (negation-negation l) (IsWithin-negation vars (negation l) (All-contains (IsWithin vars) core (negation l) h (negated_from core l i))))

pub within_limit : (vars : ℕ) (lits : List Literal) → vars ≤ 199999999 → All (IsWithin vars) lits → All (IsWithin 199999999) lits
within_limit vars lits few h = All-weaker (IsWithin vars) (IsWithin 199999999) (λ l w. (w.0, (let u = w.1 in omega arith))) lits h

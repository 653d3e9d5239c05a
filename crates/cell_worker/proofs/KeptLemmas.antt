-- A worker over what elimination has left of a formula.
use Rattle.std.proofs.Common.{◌≡◌, ℕ, ◌+◌, ◌-◌, ◌<◌, ◌≤◌, inl, inr, List, [], ◌∷◌, ◌++◌, length, map, get_or, refl, sym, ◌∙◌, ap, subst, arith}
use Rattle.std.specs.List.{All, Contains}
use Rattle.std.specs.FinMap.{insert}
use Rattle.std.proofs.lemmas.Bool.{cases_eq, cases_lt}
use Rattle.std.proofs.lemmas.List.{get_or-map, length-map}
use Rattle.std.proofs.lemmas.List.Elements.{All-contains, All-nil, Contains-append_left, Contains-get_or, Contains-push}
use Rattle.dimacs.specs.logic.ClauseMap.{ClauseMap, live_in, map_of}
use Rattle.dimacs.specs.logic.Cnf.{Cnf}
use Rattle.dimacs.specs.logic.Literal.{Clause}
use Rattle.elimination.specs.Kept.{IsLeftOf, clause_of}
use Rattle.elimination.specs.declared.kept.Kept.{Kept}
use Rattle.lrat_text.specs.Runs.{after_steps, top_of}
use Rattle.lrat_text.proofs.ClauseMapLemmas.{get_here, get_other, numbered_at, numbered_between, some_is}
use Rattle.cube_solve.specs.Session.{last_of, log_of}
use Rattle.cube_solve.specs.SessionLog.{AreOrLeftOut, IsKnown}
use Rattle.cube_solve.specs.declared.session.Session.{Session}
use Rattle.shared_logs.specs.SharedLogs.{SharedLogState, initial_state}
use Rattle.cell_worker.specs.WorkerLog.{HasBegun, IsPartOf, IsSharedText, clock_in, formula_in, last_in, log_state, vars_in}
use Rattle.cell_worker.specs.declared.worker.CellWorker.{CellWorker}
use Rattle.cell_worker.specs.inner.KeptSession.{AreNumbered, HasNumbered, KnowsAll}
use Rattle.cell_worker.proofs.TextLemmas.{all_own, own, own_state, text_begins, text_of_log}
use Rattle.cell_worker.proofs.WrittenLemmas.{first_all, first_low, first_numbers}

-- ---- a session that is given clauses under numbers with gaps
-- a number up to the new one is up to the old one, or is left out
pub left_out : (last top : ℕ) (given : List ℕ) → ((n : ℕ) → n ≤ last → Contains given n) → AreOrLeftOut last top given (first_numbers top)
left_out last top given every n i = elim (cases_lt last n) [
  | inl above ↦ inr (above, first_low top n i)
  | inr below ↦ inl (every n below)
]

module _ {P : Type 0} where
  -- numbers were left out
  pub knows_skipped : (M : ClauseMap) (s u : Session P) (top : ℕ) → last_of u ≡ top
      → ((given more : List ℕ) (N : ClauseMap) → IsKnown given N s → AreOrLeftOut (last_of s) top given more → IsKnown more N u) → KnowsAll M s → KnowsAll M u
  knows_skipped M s u top last on h = record {
    given = first_numbers top;
    every = λ n l. first_all top n (subst (λ k. n ≤ k) last l);
    known = on h.given (first_numbers top) M h.known (left_out (last_of s) top h.given h.every);
  }

  -- a clause was given
  pub knows_given : (M : ClauseMap) (C : Clause) (s u : Session P) → last_of u ≡ last_of s + 1
      → ((given : List ℕ) (N : ClauseMap) → IsKnown given N s → IsKnown (given ++ last_of u ∷ []) (insert N (last_of u) C) u) → KnowsAll M s → KnowsAll (insert M (last_of u) C) u
  knows_given M C s u next on h = record {
    given = h.given ++ last_of u ∷ [];
    every = λ n l. elim (cases_eq n (last_of u)) [
      | inl e ↦ subst (Contains (h.given ++ last_of u ∷ [])) (sym e) (Contains-push h.given (last_of u))
      | inr d ↦ Contains-append_left h.given (last_of u ∷ []) n (h.every n (omega arith))
    ];
    known = on h.given M h.known;
  }

  -- a session has no clause
  pub numbered_none : (clauses : List Clause) (numbers : List ℕ) (B : Cnf) (s : Session P) → B.clauses ≡ [] → last_of s ≡ length B.clauses
      → ((given : List ℕ) → ((n : ℕ) → Contains given n → n ≤ length B.clauses) → IsKnown given (map_of B) s) → HasNumbered clauses numbers s
  numbered_none clauses numbers B s none last known =
      let empty : length B.clauses ≡ 0 = ap (λ (cs : List Clause). length cs) none in
      record {
        map = map_of B;
        all = record {
          given = first_numbers 0;
          every = λ n l. first_all 0 n (omega arith);
          known = known (first_numbers 0) (λ n i. let l = first_low 0 n i in omega arith);
        };
        are = λ n C l. (let b = numbered_between B.clauses n C l in let low = b.0 in let high = b.1 in absurd (omega arith));
      }

  -- what a session knows of the clauses, after a call that changes none
  pub numbered_skipped : (clauses : List Clause) (numbers : List ℕ) (s u : Session P) (top : ℕ) → last_of u ≡ top
      → ((given more : List ℕ) (N : ClauseMap) → IsKnown given N s → AreOrLeftOut (last_of s) top given more → IsKnown more N u) → HasNumbered clauses numbers s → HasNumbered clauses numbers u
  numbered_skipped clauses numbers s u top last on h = record { map = h.map; all = knows_skipped h.map s u top last on h.all; are = h.are }

  pub numbered_same : (clauses : List Clause) (numbers : List ℕ) (s u : Session P) → last_of u ≡ last_of s
      → ((given : List ℕ) (N : ClauseMap) → IsKnown given N s → IsKnown given N u) → HasNumbered clauses numbers s → HasNumbered clauses numbers u
  numbered_same clauses numbers s u last on h = record {
    map = h.map;
    all = record {
      given = (h.all).given;
      every = λ n l. (h.all).every n (subst (λ k. n ≤ k) last l);
      known = on (h.all).given h.map (h.all).known;
    };
    are = h.are;
  }

  -- one more of the clauses was given
  pub numbered_more : (clauses : List Clause) (numbers : List ℕ) (i number : ℕ) (C : Clause) (s u : Session P) → i < length numbers → get_or numbers i 0 ≡ number → get_or clauses i [] ≡ C
      → ((M : ClauseMap) → KnowsAll M s → KnowsAll (insert M number C) u) → HasNumbered clauses numbers s → HasNumbered clauses numbers u
  numbered_more clauses numbers i number C s u below is same on h = record {
    map = insert h.map number C;
    all = on h.map h.all;
    are = λ n D l. elim (cases_eq n number) [
      | inl e ↦
          let here : live_in (insert h.map number C) number D = subst (λ k. live_in (insert h.map number C) k D) e l in
          (i, below, is ∙ sym e, same ∙ some_is C D (sym (get_here h.map number C) ∙ here))
      | inr ne ↦ h.are n D (sym (get_other h.map number n C ne) ∙ l)
    ];
  }

-- ---- what is left of a formula
module _ (F : Cnf) (k : Kept) (left : IsLeftOf F k) where
  pub numbered_of : AreNumbered k.formula.clauses k.numbers.items k.all
  numbered_of = record {
    matched = ap (λ (cs : List Clause). length cs) (left.kept).clauses ∙ length-map k.numbers.items (clause_of (left.all).clauses);
    rising = (left.kept).rising;
    within = subst (λ m. All (λ n. (1 ≤ n) × (n ≤ m)) k.numbers.items) left.count (left.kept).within;
  }

  -- what a session knows of the kept clauses is live
  pub part_of : {P : Type 0} (s : Session P) (x : HasNumbered k.formula.clauses k.numbers.items s) → IsPartOf x.map (map_of left.all)
  part_of s x n C l =
      let (i, below, is, same) = x.are n C l in
      let all = (left.all).clauses in
      let f = clause_of all in
      let b = All-contains (λ m. (1 ≤ m) × (m ≤ length all)) k.numbers.items (get_or k.numbers.items i 0) (left.kept).within (Contains-get_or k.numbers.items i 0 below) in
      let low : 1 ≤ n = subst (λ m. 1 ≤ m) is b.0 in
      let high : n ≤ length all = subst (λ m. m ≤ length all) is b.1 in
      let at : get_or k.formula.clauses i [] ≡ f n = ap (λ (cs : List Clause). get_or cs i []) (left.kept).clauses ∙ get_or-map f k.numbers.items i 0 [] below ∙ ap f is in
      let stands : live_in (map_of left.all) (n - 1 + 1) (f n) = numbered_at all (n - 1) [] (omega arith) in
      let back : n - 1 + 1 ≡ n = omega arith in
      subst (live_in (map_of left.all) n) (sym at ∙ same) (subst (λ m. live_in (map_of left.all) m (f n)) back stands)

  -- a worker over that has written the lines of the resolvents
  pub begun : {P : Type 0} (w : CellWorker P) → w.log.items ≡ k.lines → formula_in w ≡ F → vars_in w ≡ k.formula.vars → last_in w ≡ k.all → clock_in w ≡ 0 → log_of w.search ≡ []
      → HasNumbered k.formula.clauses k.numbers.items w.search → HasBegun F w
  begun w bytes over vars last clock told x =
      let adds = left.adds in
      let xs = adds.steps in
      let lines = map own xs in
      let st : SharedLogState = record { live = after_steps (map_of F) xs; last = top_of (length F.clauses) xs; clock = 0 } in
      let is : log_state F lines ≡ st = own_state (initial_state F) xs in
      let text = text_of_log F [] xs [] [] k.lines (initial_state F) refl adds.log adds.spells (text_begins F) in
      record {
        lines = lines;
        own = all_own xs;
        written = record {
          is_text = subst (IsSharedText F [] lines) (sym bytes) text;
          over = over;
          vars = vars ∙ (left.kept).vars ∙ adds.vars;
          last = ap (λ (t : SharedLogState). t.last) is ∙ adds.top ∙ left.count ∙ sym last;
          clock = ap (λ (t : SharedLogState). t.clock) is ∙ sym clock;
          used = All-nil (λ y. y.0 ≤ w.names);
          told = told;
          given = (x.all).given;
          first = λ n l. (x.all).every n (let c = left.count in let a = adds.count in omega arith);
          knows = x.map;
          part = subst (λ (t : SharedLogState). IsPartOf x.map t.live) (sym is) (subst (IsPartOf x.map) (sym adds.live) (part_of w.search x));
          known = (x.all).known;
        };
      }

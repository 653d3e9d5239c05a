-- The invariant of a search is kept by each lemma, and gives the outcomes.
use Rattle.std.proofs.Common.{◌≡◌, ℕ, ◌+◌, ◌^◌, ◌<◌, ◌≤◌, ◌⊎◌, inl, inr, Bool, true, false, eqb, List, [], ◌∷◌, ◌++◌, length, map, get_or, refl, sym, ◌∙◌, ap, subst, arith, None}
use Rattle.std.specs.List.{All, Contains, IsDistinct, list_any}
use Rattle.std.specs.FinMap.{get, insert}
use Rattle.std.proofs.lemmas.Bool.{both_ways, cases_Bool, or_left, or_right, eq-eqb}
use Rattle.std.proofs.lemmas.List.Elements.{All-contains}
use Rattle.std.proofs.lemmas.Map.Keys.{IsDistinct-tail}
use Rattle.dimacs.specs.logic.Cnf.{Cnf, IsBase, assignment_of}
use Rattle.dimacs.specs.logic.ClauseMap.{ClauseMap, Live, live_in, map_of}
use Rattle.dimacs.specs.logic.Literal.{Literal, Clause, IsWithin, negation, var_of, literal_true}
use Rattle.dimacs.specs.logic.Propagation.{IsFalse}
use Rattle.dimacs.proofs.LiteralLemmas.{negation_apart, var_of-negation}
use Rattle.dimacs.proofs.Members.{Contains-head, Contains-cons, Contains-cons_cases, Contains-nil}
use Rattle.clause_arena.specs.Clauses.{Clauses, live_of}
use Rattle.lrat_text.specs.Grammar.{LineSpellsWithin, IsClauseNumber}
use Rattle.lrat_text.specs.Log.{Cube, Closes, IsHonest, log_top}
use Rattle.lrat_text.specs.Runs.{after_steps, top_of}
use Rattle.lrat_text.specs.WrittenLine.{line_text}
use Rattle.lrat_text.specs.declared.step.Step.{Step}
use Rattle.lrat_text.specs.declared.step.Step.TheVariants.{Add}
use Rattle.lrat_text.proofs.ClauseMapLemmas.{not_in, numbered_between, numbered_at}
use Rattle.lrat_text.proofs.LineLemmas.{spells_step_more, written_spells_within, written_one_line_within}
use Rattle.watches.specs.declared.trail.Assigned.{Assigned}
use Rattle.watches.specs.Law.{NoneFalseOrUnit, SameUpToOrder, IsConflict}
use Rattle.watches.specs.Trails.{TrailValue, IsTrailValue, holds, present, up_to}
use Rattle.watches.proofs.TrailLemmas.{head_alone}
use Rattle.conflict_analysis.specs.BuiltTrails.{AreBuilt}
use Rattle.conflict_analysis.specs.Lemmas.{IsDecision, NegatesAssumptions}
use Rattle.conflict_analysis.specs.declared.final_analysis.Closing.TheVariants as closing
use Rattle.conflict_analysis.proofs.WalkEndLemmas.{above_cut}
use Rattle.cube_solve.specs.Conflicts.{AllHold, MeetsConflict}
use Rattle.cube_solve.specs.inner.LearntLog.{AreBelow, IsLearnt, IsWritten, Learns, IsSearch}
use Rattle.cube_solve.specs.inner.Twins.{AreLinked, IsAdded}
use Rattle.cube_solve.specs.Outcome.{IsModel, IsBrief, IsFresh}
use Rattle.cube_solve.specs.inner.State.{IsState, IsAssuming, IsTotal}
use Rattle.cube_solve.proofs.AssumptionLemmas.{assuming_all, assuming_up_to, assuming_below, level_le}
use Rattle.cube_solve.proofs.BuiltLemmas.{sound, built_same, decision_above}
use Rattle.cube_solve.proofs.ClauseLemmas.{same_back, same_forth, twins_trans, linked_same, linked_more, linked_turned}
use Rattle.cube_solve.proofs.LevelCutLemmas.{quiet_fewer}
use Rattle.cube_solve.proofs.LogLemmas.{spells_push, vars_in_log, log_push, fresh_push, additions_push, after_push, top_push, rup_same, new_same}
use Rattle.cube_solve.proofs.MapLemmas.{map_added}

-- ---- the cube
variable_from : (q : Cube) (l : Literal) (v : ℕ) → Contains q l → var_of l ≡ v → list_any (eqb v) (map var_of q) ≡ true
variable_from [] l v i e = absurd (Contains-nil l i)
variable_from (x ∷ q) l v i e = elim (Contains-cons_cases x l q i) [
  | inl s ↦ or_left (eqb v (var_of x)) (list_any (eqb v) (map var_of q)) (eq-eqb v (var_of x) (sym e ∙ ap var_of (sym s)))
  | inr j ↦ or_right (eqb v (var_of x)) (list_any (eqb v) (map var_of q)) (variable_from q l v j e)
]

-- no literal stands in it with its negation
pub cube_sound : (q : Cube) → IsDistinct eqb (map var_of q) → (l : Literal) → Contains q l → Contains q (negation l) → ⊥
cube_sound [] d l i j = Contains-nil l i
cube_sound (x ∷ q) d l i j = elim (Contains-cons_cases x l q i) [
  | inl e ↦ elim (Contains-cons_cases x (negation l) q j) [
    | inl f ↦ negation_apart l (sym f ∙ e)
    | inr f ↦ head_alone (var_of x) (map var_of q) d (variable_from q (negation l) (var_of x) f (var_of-negation l ∙ ap var_of (sym e)))
  ]
  | inr e ↦ elim (Contains-cons_cases x (negation l) q j) [
    | inl f ↦ head_alone (var_of x) (map var_of q) d (variable_from q l (var_of x) e (sym (var_of-negation l) ∙ ap var_of (sym f)))
    | inr f ↦ cube_sound q (IsDistinct-tail eqb (var_of x) (map var_of q) d) l e f
  ]
]

pub decision_in_cube : (q : Cube) (es : List Assigned) (a : ℕ) (l : Literal) → IsAssuming q es a → present es ≤ a → IsDecision es l → Contains q l
decision_in_cube q es a l h p (e, i, is, none) = subst (Contains q) is (h.decided e i none (let b = level_le es e i in omega arith))

pub false_beside : (live : Live) (es : List Assigned) (l : Literal) → AreBuilt live [] es → holds es (negation l) ≡ true → holds es l ≡ false
false_beside live es l b h = elim (cases_Bool (holds es l)) [ inl t ↦ absurd (sound live es b l t h) | inr f ↦ f ]

-- ---- a log that grows
pub learnt_none : (B : Cnf) (live : Live) → AreLinked (live_in (map_of B)) live → IsLearnt B [] 0 live
learnt_none B live h = record { steps = []; spells = refl; log = tt; count = refl; fresh = tt; top = omega arith; linked = h }

module _ (B : Cnf) (vars n id : ℕ) (live : Live) (lits : Clause) (before text : List ℕ)
    (same : vars ≡ B.vars) (is : id ≡ length B.clauses + 1 + n) (number : IsClauseNumber id)
    (l : IsLearnt B before n live) (w : IsWritten live vars id lits before text) where
  abbrev pub step : Step
  step = Add id lits w.hints []

  below_numbers : vars < 2 ^ 48
  below_numbers = (let few = w.few in omega arith)

  pub spelled : LineSpellsWithin (log_top B) text (l.steps ++ step ∷ [])
  spelled = subst (λ t. LineSpellsWithin (log_top B) t (l.steps ++ step ∷ [])) (sym w.text)
      (spells_push (log_top B) before l.steps (line_text id step) step l.spells (written_one_line_within vars below_numbers id step number w.limits)
      (spells_step_more vars (log_top B) (vars_in_log B vars same) (line_text id step) step (written_spells_within vars below_numbers id step number w.limits)))

  next : id ≡ top_of (length B.clauses) l.steps + 1
  next = let t = l.top in omega arith

  pub logged : Rattle.lrat_text.specs.Log.IsLog B (l.steps ++ step ∷ [])
  logged = log_push (length B.clauses) (map_of B) (length B.clauses) l.steps step l.log
      (next, refl, rup_same live (live_in (after_steps (map_of B) l.steps)) ((linked_turned (live_in (after_steps (map_of B) l.steps)) live l.linked).forth) lits w.hints w.rup)

  pub counted : Rattle.lrat_text.specs.Log.additions (l.steps ++ step ∷ []) ≡ n + 1
  counted = additions_push l.steps step refl ∙ ap (λ k. k + 1) l.count

  pub closed : (q : Cube) (limit : ℕ) → n ≤ limit → ((k : Literal) → Contains lits k → Contains q (negation k)) → Closes B q text × IsBrief B (limit + 1) text
  closed q limit few negates = (
    (l.steps ++ step ∷ [], spelled, logged, (l.steps, step, refl, negates)),
    record { front = l.steps; last = step; spells = spelled; count = (let c = counted in omega arith); fresh = l.fresh },
  )

pub learnt_more : (B : Cnf) (vars n id : ℕ) (old new : Live) (before text : List ℕ) → vars ≡ B.vars → id ≡ length B.clauses + 1 + n → IsClauseNumber id → AreBelow id old
    → IsLearnt B before n old → Learns vars id old new before text → IsLearnt B text (n + 1) new
learnt_more B vars n id old new before text v is number below l g =
    let M : ClauseMap = after_steps (map_of B) l.steps in
    let s : Step = step B vars n id old g.lits before text v is number l g.written in
    let fresh : get M id ≡ None = not_in M id (λ C h. let d = l.linked.forth id C h in let b = below id d.0 d.1 in let up = b.1 in omega arith) in
    record {
      steps = l.steps ++ s ∷ [];
      spells = spelled B vars n id old g.lits before text v is number l g.written;
      log = logged B vars n id old g.lits before text v is number l g.written;
      count = counted B vars n id old g.lits before text v is number l g.written;
      fresh = fresh_push B (map_of B) l.steps s l.fresh (subst (λ k. All (IsWithin k) g.lits) v (g.written).within, new_same (live_in M) old (l.linked).forth g.lits g.is_new);
      top = top_push (length B.clauses) l.steps s ∙ (let e : id ≡ length B.clauses + (n + 1) = omega arith in e);
      linked = subst (λ N. AreLinked (live_in N) new) (sym (after_push (map_of B) l.steps s))
          (linked_more (live_in M) (live_in (insert M id g.lits)) old new id g.lits l.linked (map_added M id g.lits fresh) g.added);
    }

-- ---- a search
pub search_begins : (B : Cnf) (m : Clauses) (t : TrailValue) (text : List ℕ) → AreLinked (live_in (map_of B)) (live_of m) → t.vars ≡ B.vars → text ≡ [] → IsSearch B 0 m t text
search_begins B m t text h v empty = record {
  vars = v;
  below = λ n D i.
      let c = h.back n D i in
      let b = numbered_between B.clauses n c.0 c.1 in
      let up = b.1 in
      (b.0, omega arith);
  kept = h.forth;
  learnt = subst (λ x. IsLearnt B x 0 (live_of m)) (sym empty) (learnt_none B (live_of m) h);
}

pub search_same : (B : Cnf) (n : ℕ) (m k : Clauses) (t u : TrailValue) (text : List ℕ) → IsSearch B n m t text → SameUpToOrder m k → u.vars ≡ t.vars → IsSearch B n k u text
search_same B n m k t u text h s v = record {
  vars = v ∙ h.vars;
  below = λ j D i. let c = same_back m k s j D i in h.below j c.0 c.1;
  kept = λ j C i. let d = h.kept j C i in let e = same_forth m k s j d.0 d.1 in (e.0, e.1, twins_trans C d.0 e.0 d.2 e.2);
  learnt = record {
    steps = (h.learnt).steps;
    spells = (h.learnt).spells;
    log = (h.learnt).log;
    count = (h.learnt).count;
    fresh = (h.learnt).fresh;
    top = (h.learnt).top;
    linked = linked_same (live_in (after_steps (map_of B) (h.learnt).steps)) m k (h.learnt).linked s;
  };
}

pub search_learns : (B : Cnf) (n id : ℕ) (m k : Clauses) (t u : TrailValue) (before text : List ℕ) → id ≡ length B.clauses + 1 + n → IsClauseNumber id
    → IsSearch B n m t before → Learns t.vars id (live_of m) (live_of k) before text → u.vars ≡ t.vars → IsSearch B (n + 1) k u text
search_learns B n id m k t u before text is number h g v = record {
  vars = v ∙ h.vars;
  below = λ j D i. elim ((g.added).only j D i) [
    | inl o ↦ (let b = h.below j o.0 o.1 in let up = b.1 in (b.0, omega arith))
    | inr o ↦ (let e = o.0 in let low = number.0 in (omega arith, omega arith))
  ];
  kept = λ j C i. let d = h.kept j C i in let e = (g.added).stays j d.0 d.1 in (e.0, e.1, twins_trans C d.0 e.0 d.2 e.2);
  learnt = learnt_more B t.vars n id (live_of m) (live_of k) before text h.vars is number (λ j C i. let b = h.below j C i in let up = b.1 in (b.0, omega arith)) h.learnt g;
}

-- ---- the ends
pub limited : (B : Cnf) (q : Cube) (limit n number : ℕ) (att : List ℕ) (m : Clauses) (t : TrailValue) (a : ℕ) (text : List ℕ) → IsSearch B n m t text → IsAssuming q t.entries a → IsState att m t → IsTrailValue t
    → IsConflict (live_of m) t.entries number → a < present t.entries → n ≡ limit → IsHonest B limit text × IsFresh B text × MeetsConflict B q text
limited B q limit n number att m t a text h assumes s v c above e =
    let l = h.learnt in
    let back = linked_turned (live_in (after_steps (map_of B) l.steps)) (live_of m) l.linked in
    let d = decision_above (live_of m) a [] t.entries s.built (omega arith) above in
    let f = back.forth number c.0 c.1 in (
      (l.steps, l.spells, l.log, l.count ∙ e),
      record { steps = l.steps; spells = l.spells; fresh = l.fresh },
      record {
        steps = l.steps;
        spells = l.spells;
        conflict = record {
          trail = t.entries;
          within = subst (λ vars. All (λ x. IsWithin vars x.literal) t.entries) h.vars v.within;
          built = built_same (live_of m) (live_in (after_steps (map_of B) l.steps)) back.forth [] t.entries s.built;
          quiet = quiet_fewer (live_of m) (live_in (after_steps (map_of B) l.steps)) t.entries back.back s.quiet;
          cube = assuming_all q t.entries a assumes above;
          decision = (d.0).literal;
          decided = (d.0, d.1, refl, d.2);
          outside = λ i. both_ways (up_to t.entries a (d.0).literal) (above_cut t.entries d.0 a v.apart d.1 d.3) (assuming_up_to q t.entries a assumes above (d.0).literal i);
          number = number;
          conflict = (f.0, f.1, λ k i. c.2 k ((f.2 k).1 i));
        };
      },
    )

true_or_false : (t : TrailValue) (C : Clause) → ((l : Literal) → Contains C l → IsWithin t.vars l) → ((l : Literal) → Contains C l → (holds t.entries l ≡ true) ⊎ (holds t.entries (negation l) ≡ true))
    → ((l : Literal) × Contains C l × (holds t.entries l ≡ true) × IsWithin t.vars l) ⊎ IsFalse (holds t.entries) C
true_or_false t [] b h = inr (λ m i. absurd (Contains-nil m i))
true_or_false t (x ∷ C) b h = elim (h x (Contains-head x C)) [
  | inl y ↦ inl (x, Contains-head x C, y, b x (Contains-head x C))
  | inr y ↦ elim (true_or_false t C (λ l i. b l (Contains-cons x l C i)) (λ l i. h l (Contains-cons x l C i))) [
    | inl z ↦ inl (z.0, Contains-cons x z.0 C z.1, z.2, z.3)
    | inr z ↦ inr (λ m i. elim (Contains-cons_cases x m C i) [ inl e ↦ subst (λ k. holds t.entries (negation k) ≡ true) e y | inr j ↦ z m j ])
  ]
]

pub calm_is_true : (att : List ℕ) (m : Clauses) (t : TrailValue) → IsState att m t → NoneFalseOrUnit (live_of m) (holds t.entries) → IsTotal m t → (n : ℕ) (C : Clause) → live_of m n C
    → (l : Literal) × Contains C l × (holds t.entries l ≡ true) × IsWithin t.vars l
calm_is_true att m t s calm total n C i = elim (true_or_false t C (λ l k. All-contains (IsWithin t.vars) C l (s.inside n C i) k) (λ l k. total l (n, C, i, k))) [
  | inl y ↦ y
  | inr f ↦ absurd ((calm n C i).0 f)
]

-- each clause of the base has a literal on the trail, and so has the cube all of its own
pub record Satisfies (B : Cnf) (q : Cube) (t : TrailValue) : Type 0 where
  pub vars : t.vars ≡ B.vars
  pub clauses : (n : ℕ) (C : Clause) → live_in (map_of B) n C → (l : Literal) × Contains C l × (holds t.entries l ≡ true) × IsWithin t.vars l
  pub cube : AllHold t.entries q

pub satisfied : (B : Cnf) (q : Cube) (n : ℕ) (att : List ℕ) (m : Clauses) (t : TrailValue) (text : List ℕ) → IsSearch B n m t text → IsState att m t
    → NoneFalseOrUnit (live_of m) (holds t.entries) → AllHold t.entries q → IsTotal m t → Satisfies B q t
satisfied B q n att m t text h s calm all total = record {
  vars = h.vars;
  clauses = λ j C i.
      let d = h.kept j C i in
      let r = calm_is_true att m t s calm total j d.0 d.1 in
      (r.0, (d.2 r.0).1 r.1, r.2, r.3);
  cube = all;
}

-- ---- a cube that is closed
pub closes_clause : (q : Cube) (es : List Assigned) (a n : ℕ) (lits : Clause) → IsAssuming q es a → present es ≤ a → NegatesAssumptions es (closing.Clause n) lits
    → (l : Literal) → Contains lits l → Contains q (negation l)
closes_clause q es a n lits h p d l i = decision_in_cube q es a (negation l) h p (d l i)

pub closes_assumption : (q : Cube) (live : Live) (es : List Assigned) (a : ℕ) (x : Literal) (lits : Clause) → IsAssuming q es a → AreBuilt live [] es → Contains q x → holds es (negation x) ≡ true
    → NegatesAssumptions es (closing.Assumption x) lits → (l : Literal) → Contains lits l → Contains q (negation l)
closes_assumption q live es a x lits h b i f d l j = elim (d l j) [
  | inl y ↦ decision_in_cube q es a (negation l) h (assuming_below q es a x i (false_beside live es x b f) h) y
  | inr e ↦ subst (Contains q) (sym e) i
]

-- an assumption that is false was implied: the cube does not hold its negation
pub false_assumption : (q : Cube) (live : Live) (es : List Assigned) (a : ℕ) (x : Literal) → IsDistinct eqb (map var_of q) → IsAssuming q es a → AreBuilt live [] es → Contains q x
    → holds es (negation x) ≡ true → ¬ (IsDecision es (negation x))
false_assumption q live es a x d h b i f k = cube_sound q d x i (decision_in_cube q es a (negation x) h (assuming_below q es a x i (false_beside live es x b f) h) k)

-- the number of the next lemma, by the length of the base that was read
pub next_number : (B : Cnf) (len n : ℕ) → IsBase B → len ≡ length B.clauses → n ≤ 2 ^ 47 → IsClauseNumber (len + 1 + n)
next_number B len n valid is few = (omega arith, (let b = valid.clauses in omega arith))

pub next_below : (B : Cnf) (len n : ℕ) (m : Clauses) (t : TrailValue) (text : List ℕ) → len ≡ length B.clauses → IsSearch B n m t text → AreBelow (len + 1 + n) (live_of m)
next_below B len n m t text is h = subst (λ (k : ℕ). AreBelow (k + 1 + n) (live_of m)) (sym is) h.below

pub below_next : (B : Cnf) (n id : ℕ) (m k : Clauses) (t : TrailValue) (text : List ℕ) → id ≡ length B.clauses + 1 + n → IsSearch B n m t text → SameUpToOrder m k → AreBelow id (live_of k)
below_next B n id m k t text is h s = λ j D i.
    let c = same_back m k s j D i in
    let b = h.below j c.0 c.1 in
    let up = b.1 in
    (b.0, omega arith)

-- after the lemma of a number the live numbers are below the next
pub below_more : (id : ℕ) (old new : Live) (lits : Clause) → IsClauseNumber id → AreBelow id old → IsAdded old id lits new → AreBelow (id + 1) new
below_more id old new lits number below add j D i = elim (add.only j D i) [
  | inl o ↦ (let b = below j o.0 o.1 in let up = b.1 in (b.0, omega arith))
  | inr o ↦ (let e = o.0 in let low = number.0 in (omega arith, omega arith))
]

-- the truth values that are read from the trail
pub model_read : (B : Cnf) (q : Cube) (t : TrailValue) (values : List Bool) → All (IsWithin B.vars) q → Satisfies B q t → length values ≡ t.vars
    → ((l : Literal) → IsWithin t.vars l → holds t.entries l ≡ true → literal_true (assignment_of values) l ≡ true) → IsModel B q values
model_read B q t values within h len reads = record {
  whole = len ∙ h.vars;
  base = λ i d b.
      let r = h.clauses (i + 1) (get_or B.clauses i d) (numbered_at B.clauses i d b) in
      (r.0, r.1, reads r.0 r.3 r.2);
  cube = λ l i. reads l (subst (λ v. IsWithin v l) (sym h.vars) (All-contains (IsWithin B.vars) q l within i)) (h.cube l i);
}

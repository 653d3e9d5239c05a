-- Resolvents that are added behind a formula's clauses, and the lines that add them.
use Rattle.std.proofs.Common.{◌≡◌, ℕ, ◌+◌, ◌<◌, ◌≤◌, ◌^◌, inl, inr, true, false, List, [], ◌∷◌, ◌++◌, length, refl, sym, ◌∙◌, ap, subst, arith}
use Rattle.std.specs.List.{All, Contains}
use Rattle.std.specs.FinMap.{insert}
use Rattle.std.proofs.lemmas.Bool.{cases_Bool, or_left, or_right}
use Rattle.std.proofs.lemmas.List.{length_push}
use Rattle.std.proofs.lemmas.List.Elements.{All-nil, All-cons, All-weaker, All-contains, All-contains_itself}
use Rattle.dimacs.specs.logic.Cnf.{Cnf}
use Rattle.dimacs.specs.logic.ClauseMap.{ClauseMap, Live, map_of, live_in}
use Rattle.dimacs.specs.logic.Literal.{Literal, Clause, IsWithin, negation, same, has, var_of}
use Rattle.dimacs.specs.logic.Propagation.{IsFalse, IsUnit, Rup, negations, with_literal}
use Rattle.dimacs.proofs.LiteralLemmas.{same-is, negation-negation, var_of-negation}
use Rattle.dimacs.proofs.Members.{Contains-has, has-Contains}
use Rattle.lrat_text.specs.Grammar.{LineSpellsWithin, IsStepWithin, IsClauseNumber, IsGroup}
use Rattle.lrat_text.specs.Log.{after_step, additions, IsLogStep, IsNew, IsFreshStep, AreFresh, log_top}
use Rattle.lrat_text.specs.Runs.{after_steps, top_of}
use Rattle.lrat_text.specs.WrittenLine.{line_of, line_text}
use Rattle.lrat_text.specs.declared.step.Step.{Step}
use Rattle.lrat_text.specs.declared.step.Step.TheVariants.{Add, Delete}
use Rattle.lrat_text.proofs.ClauseMapLemmas.{numbered-push, numbered_at, numbered_between}
use Rattle.lrat_text.proofs.LineLemmas.{written_spells_within, written_one_line_within}
use Rattle.lrat_text.proofs.RunLemmas.{after_append, top_append, log_append, spells_append_within}
use Rattle.elimination.specs.Kept.{AddsResolvents}
use Rattle.elimination.specs.inner.Resolvents.{IsResolvent}
use Rattle.elimination.specs.inner.Indexed.{clause_at}
use Rattle.elimination.specs.inner.Reducing.{AddsMore}

-- ---- a resolvent follows from its two clauses
module _ (live : Live) (C D R : Clause) (x : Literal) (i j : ℕ) (r : IsResolvent C D x R) (left_lives : live i C) (right_lives : live j D) where
  not_held : (l : Literal) → var_of l ≡ var_of x → has R l ≡ false
  not_held l e = elim (cases_Bool (has R l)) [
    | inl t ↦ absurd (r.apart l (has-Contains R l t) e)
    | inr f ↦ f
  ]

  held : (k : Literal) → Contains R k → negations R (negation k) ≡ true
  held k h = ap (has R) (negation-negation k) ∙ Contains-has R k h

  left_unit : IsUnit (negations R) C x
  left_unit = record {
    member = r.left;
    not_true = not_held (negation x) (var_of-negation x);
    not_false = not_held (negation (negation x)) (ap var_of (negation-negation x));
    others = λ k inside differs. elim (r.left_kept k inside) [
      | inl e ↦ absurd (differs e)
      | inr h ↦ held k h
    ];
  }

  right_false : IsFalse (with_literal (negations R) x) D
  right_false k inside = elim (r.right_kept k inside) [
    | inl e ↦ or_left (same (negation k) x) (negations R (negation k)) (same-is (negation k) x (ap negation e ∙ negation-negation x))
    | inr h ↦ or_right (same (negation k) x) (negations R (negation k)) (held k h)
  ]

  pub resolvent_follows : Rup live R (i ∷ j ∷ [])
  resolvent_follows = record {
    no_pair = r.no_pair;
    refutes = record {
      front = i ∷ [];
      last = j;
      reached = with_literal (negations R) x;
      clause = D;
      splits = refl;
      leads = (C, x, left_lives, left_unit, refl);
      lives = right_lives;
      conflict = right_false;
    };
  }

-- ---- one step more
fresh_push : (B : Cnf) (M : ClauseMap) (steps : List Step) (step : Step) → AreFresh B M steps → IsFreshStep B (after_steps M steps) step → AreFresh B M (steps ++ step ∷ [])
fresh_push B M [] step h s = (s, tt)
fresh_push B M (x ∷ steps) step h s = (h.0, fresh_push B (after_step M x) steps step h.1 s)

additions_push : (steps : List Step) (step : Step) → additions (step ∷ []) ≡ 1 → additions (steps ++ step ∷ []) ≡ additions steps + 1
additions_push [] step one = one
additions_push (Add id lits hints groups ∷ steps) step one = let r = additions_push steps step one in omega arith
additions_push (Delete ids ∷ steps) step one = additions_push steps step one

-- ---- the limits of the line that adds a resolvent
live_number : (all : Cnf) → length all.clauses < 200000190 → (n : ℕ) (E : Clause) → live_in (map_of all) n E → IsClauseNumber n
live_number all room n E h = let b = numbered_between all.clauses n E h in let up = b.1 in (b.0, omega arith)

next_number : (all : Cnf) → length all.clauses < 200000190 → IsClauseNumber (length all.clauses + 1)
next_number all room = (omega arith, omega arith)

pub line_limits : (most : ℕ) (all : Cnf) (C D R : Clause) (i j : ℕ) → all.vars ≤ most → length all.clauses < 200000190 → live_in (map_of all) i C → live_in (map_of all) j D
    → All (IsWithin all.vars) R → IsStepWithin most (Add (length all.clauses + 1) R (i ∷ j ∷ []) [])
line_limits most all C D R i j few room left_lives right_lives within = (
  next_number all room,
  All-weaker (IsWithin all.vars) (IsWithin most) (λ l w. (w.0, let up = w.1 in omega arith)) R within,
  All-cons IsClauseNumber i (j ∷ []) (live_number all room i C left_lives) (All-cons IsClauseNumber j [] (live_number all room j D right_lives) (All-nil IsClauseNumber)),
  All-nil IsGroup,
)

-- ---- nothing added, and one resolvent more
pub adds_none : (F : Cnf) → AddsResolvents F F []
adds_none F = record {
  steps = [];
  spells = refl;
  log = tt;
  fresh = tt;
  vars = refl;
  live = refl;
  count = omega arith;
  top = refl;
}

module _ (F all : Cnf) (text : List ℕ) (C D R : Clause) (x : Literal) (i j : ℕ) (adds : AddsResolvents F all text) (few : F.vars ≤ 199999999)
    (room : length all.clauses < 200000190) (left_lives : live_in (map_of all) i C) (right_lives : live_in (map_of all) j D) (r : IsResolvent C D x R)
    (within : All (IsWithin all.vars) R) (new : IsNew (live_in (map_of all)) R) where
  abbrev id : ℕ
  id = length all.clauses + 1

  abbrev step : Step
  step = Add id R (i ∷ j ∷ []) []

  -- the live clauses after the steps so far
  abbrev before : ClauseMap
  before = after_steps (map_of F) adds.steps

  limits : IsStepWithin (log_top F) step
  limits = line_limits (log_top F) all C D R i j (omega (arith, adds.vars)) room left_lives right_lives within

  own_variables : All (IsWithin F.vars) R
  own_variables = subst (λ v. All (IsWithin v) R) adds.vars within

  small : log_top F < 2 ^ 48
  small = omega arith

  spelled : LineSpellsWithin (log_top F) (text ++ line_of id step) (adds.steps ++ step ∷ [])
  spelled =
      spells_append_within (log_top F) text (line_of id step) adds.steps (step ∷ []) adds.spells
      (line_text id step, [], refl, written_one_line_within (log_top F) small id step (next_number all room) limits, written_spells_within (log_top F) small id step (next_number all room) limits, refl)

  next : id ≡ top_of (length F.clauses) adds.steps + 1
  next = ap (λ n. n + 1) (sym adds.top)

  is_step : IsLogStep (length F.clauses) before (top_of (length F.clauses) adds.steps) step
  is_step = (next, refl, subst (λ M. Rup (live_in M) R (i ∷ j ∷ [])) (sym adds.live) (resolvent_follows (live_in (map_of all)) C D R x i j r left_lives right_lives))

  pub adds_one : AddsResolvents F (record all { clauses = all.clauses ++ R ∷ [] }) (text ++ line_of (length all.clauses + 1) (Add (length all.clauses + 1) R (i ∷ j ∷ []) []))
  adds_one = record {
    steps = adds.steps ++ step ∷ [];
    spells = spelled;
    log = log_append (length F.clauses) (map_of F) (length F.clauses) adds.steps (step ∷ []) adds.log (is_step, tt);
    fresh = fresh_push F (map_of F) adds.steps step adds.fresh (own_variables, subst (λ M. IsNew (live_in M) R) (sym adds.live) new);
    vars = adds.vars;
    live = after_append (map_of F) adds.steps (step ∷ []) ∙ ap (λ (M : ClauseMap). insert M id R) adds.live ∙ sym (numbered-push all.clauses R);
    count = omega (arith, length_push all.clauses R, adds.count, additions_push adds.steps step refl);
    top = top_append (length F.clauses) adds.steps (step ∷ []) ∙ sym (length_push all.clauses R);
  }

-- ---- what is handed on of a resolvent
pub resolvent_within : (C D R : Clause) (x : Literal) (P : Literal → Type 0) → IsResolvent C D x R → All P C → All P D → All P R
resolvent_within C D R x P r left right =
    All-weaker (Contains R) P
    (λ l h. elim (r.only l h) [
      | inl i ↦ All-contains P C l left i.0
      | inr i ↦ All-contains P D l right i.0
    ])
    R (All-contains_itself R)

-- ---- the resolvent of two clauses, by their indices
-- R is a new resolvent of the clauses of index i and j of `all`, which has room for it
pub record IsFound (all : Cnf) (i j : ℕ) (x : Literal) (R : Clause) : Type 0 where
  pub few : all.vars ≤ 199999999
  pub left : i < length all.clauses
  pub right : j < length all.clauses
  pub is : IsResolvent (clause_at all.clauses i) (clause_at all.clauses j) x R
  pub within : All (IsWithin all.vars) R
  pub new : IsNew (live_in (map_of all)) R
  pub room : length all.clauses < 200000190

pub found_by : (all : Cnf) (i j : ℕ) (x : Literal) (C D R : Clause) → all.vars ≤ 199999999 → i < length all.clauses → j < length all.clauses
    → C ≡ clause_at all.clauses i → D ≡ clause_at all.clauses j → All (IsWithin all.vars) C → All (IsWithin all.vars) D → IsResolvent C D x R
    → IsNew (live_in (map_of all)) R → length all.clauses < 200000190 → IsFound all i j x R
found_by all i j x C D R few left right c d left_within right_within is new room = record {
  few = few;
  left = left;
  right = right;
  is = subst (λ E. IsResolvent E (clause_at all.clauses j) x R) c (subst (λ E. IsResolvent C E x R) d is);
  within = resolvent_within C D R x (IsWithin all.vars) is left_within right_within;
  new = new;
  room = room;
}

-- the line that adds it
abbrev pub found_step : Cnf → ℕ → ℕ → Clause → Step
found_step all i j R = Add (length all.clauses + 1) R ((i + 1) ∷ (j + 1) ∷ []) []

pub found_limits : (all : Cnf) (i j : ℕ) (x : Literal) (R : Clause) → IsFound all i j x R → IsStepWithin 199999999 (found_step all i j R)
found_limits all i j x R f =
    line_limits 199999999 all (clause_at all.clauses i) (clause_at all.clauses j) R (i + 1) (j + 1) f.few f.room
    (numbered_at all.clauses i [] f.left) (numbered_at all.clauses j [] f.right) f.within

pub found_adds : (all new : Cnf) (text longer : List ℕ) (i j n : ℕ) (x : Literal) (R S T : Clause) → IsFound all i j x R → n ≡ length all.clauses → S ≡ R → T ≡ R
    → new ≡ record all { clauses = all.clauses ++ S ∷ [] } → longer ≡ text ++ line_of (n + 1) (Add (n + 1) T ((i + 1) ∷ (j + 1) ∷ []) [])
    → AddsMore all text new longer
found_adds all new text longer i j n x R S T f count s t is spelled F adds =
    subst (λ (B : Cnf). AddsResolvents F B longer) (sym (is ∙ ap (λ E. record all { clauses = all.clauses ++ E ∷ [] }) s))
    (subst (AddsResolvents F (record all { clauses = all.clauses ++ R ∷ [] })) (sym (spelled
    ∙ ap (λ k. text ++ line_of (k + 1) (Add (k + 1) T ((i + 1) ∷ (j + 1) ∷ []) [])) count
    ∙ ap (λ E. text ++ line_of (length all.clauses + 1) (found_step all i j E)) t))
    (adds_one F all text (clause_at all.clauses i) (clause_at all.clauses j) R x (i + 1) (j + 1) adds (let v = adds.vars in let few = f.few in omega arith) f.room
    (numbered_at all.clauses i [] f.left) (numbered_at all.clauses j [] f.right) f.is f.within f.new))

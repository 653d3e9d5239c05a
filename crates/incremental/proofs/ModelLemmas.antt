-- The literals that an assignment makes true are a model.
use Rattle.std.proofs.Common.{◌≡◌, ℕ, suc, ◌+◌, ◌-◌, ◌<◌, ◌≤◌, inl, inr, Bool, true, false, not, ◌&&◌, List, [], ◌∷◌, ◌++◌, length, get_or, take, refl, sym, ◌∙◌, ap, subst, arith}
use Rattle.std.specs.List.{All, Contains, list_all, list_any}
use Rattle.std.specs.FinMap.{get}
use Rattle.std.proofs.lemmas.Bool.{and_from, both_ways, cases_eq, not-true, or_left, or_right}
use Rattle.std.proofs.lemmas.List.{length-take-le, take_more}
use Rattle.std.proofs.lemmas.List.Elements.{All-cons, All-contains, All-nil}
use Rattle.dimacs.specs.logic.ClauseMap.{live_in}
use Rattle.dimacs.specs.logic.Cnf.{assignment_of}
use Rattle.dimacs.specs.logic.Literal.{Literal, Pos, Neg, Clause, IsTrueIn, IsWithin, has, literal_true, negation, var_of}
use Rattle.dimacs.proofs.Members.{Contains-cons, Contains-cons_cases, Contains-has, Contains-head, Contains-nil}
use Rattle.lrat_check.specs.StepFaults.{is_tautology}
use Rattle.lrat_check.proofs.RatExact.{no_pair_is}
use Rattle.lrat_text.specs.Grammar.{IsClauseNumber, IsGroup, IsStepWithin}
use Rattle.lrat_text.specs.Log.{Cube}
use Rattle.lrat_text.specs.declared.step.Step.TheVariants.{Add}
use Rattle.cube_solve.specs.Session.{IsSolution}
use Rattle.sessions.specs.Texts.{State, is_met, is_model}
use Rattle.incremental.specs.SessionHistory.{literal_of, literals_from}

-- ---- tests of lists
pub all_by : {X : Type 0} (p : X → Bool) (xs : List X) → ((x : X) → Contains xs x → p x ≡ true) → list_all p xs ≡ true
all_by p [] h = refl
all_by p (x ∷ xs) h = and_from (p x) (list_all p xs) (h x (Contains-head x xs)) (all_by p xs (λ y i. h y (Contains-cons x y xs i)))

any_by : {X : Type 0} (p : X → Bool) (xs : List X) (x : X) → Contains xs x → p x ≡ true → list_any p xs ≡ true
any_by p [] x i h = absurd (Contains-nil x i)
any_by p (y ∷ xs) x i h = elim (Contains-cons_cases y x xs i) [
  | inl e ↦ or_left (p y) (list_any p xs) (ap p e ∙ h)
  | inr j ↦ or_right (p y) (list_any p xs) (any_by p xs x j h)
]

-- ---- which literals are listed
true_of : (a : ℕ → Bool) (v : ℕ) (b : Bool) → a v ≡ b → literal_true a (literal_of v b) ≡ true
true_of a v true e = e
true_of a v false e = ap not e

is_of : (a : ℕ → Bool) (v : ℕ) (b : Bool) (l : Literal) → a v ≡ b → var_of l ≡ v → literal_true a l ≡ true → literal_of v b ≡ l
is_of a v true (Pos w) e s t = ap Pos (sym s)
is_of a v true (Neg w) e s t = absurd (both_ways (a v) (ap a (sym s) ∙ not-true (a w) t) e)
is_of a v false (Pos w) e s t = absurd (both_ways (a v) e (ap a (sym s) ∙ t))
is_of a v false (Neg w) e s t = ap Neg (sym s)

-- the values are those from a variable on
abbrev Agrees : (ℕ → Bool) → ℕ → List Bool → Type 0
Agrees a v values = (i : ℕ) → i < length values → a (v + i) ≡ get_or values i false

agrees_tail : (a : ℕ → Bool) (v : ℕ) (b : Bool) (values : List Bool) → Agrees a v (b ∷ values) → Agrees a (v + 1) values
agrees_tail a v b values h i d = let e : (v + 1) + i ≡ v + suc i = omega arith in ap a e ∙ h (suc i) (omega arith)

agrees_head : (a : ℕ → Bool) (v : ℕ) (b : Bool) (values : List Bool) → Agrees a v (b ∷ values) → a v ≡ b
agrees_head a v b values h = let e : v ≡ v + 0 = omega arith in ap a e ∙ h 0 (omega arith)

module _ (a : ℕ → Bool) where
  listed_true : (v : ℕ) (values : List Bool) → Agrees a v values → (l : Literal) → Contains (literals_from v values) l → literal_true a l ≡ true
  listed_true v [] h l i = absurd (Contains-nil l i)
  listed_true v (b ∷ values) h l i = elim (Contains-cons_cases (literal_of v b) l (literals_from (v + 1) values) i) [
    | inl e ↦ subst (λ k. literal_true a k ≡ true) e (true_of a v b (agrees_head a v b values h))
    | inr j ↦ listed_true (v + 1) values (agrees_tail a v b values h) l j
  ]

  listed_has : (v : ℕ) (values : List Bool) → Agrees a v values → (l : Literal) → v ≤ var_of l → var_of l < v + length values → literal_true a l ≡ true → Contains (literals_from v values) l
  listed_has v [] h l low up t = absurd (omega arith)
  listed_has v (b ∷ values) h l low up t = elim (cases_eq (var_of l) v) [
    | inl e ↦ subst (Contains (literals_from v (b ∷ values))) (is_of a v b l (agrees_head a v b values h) e t) (Contains-head (literal_of v b) (literals_from (v + 1) values))
    | inr n ↦ Contains-cons (literal_of v b) l (literals_from (v + 1) values) (listed_has (v + 1) values (agrees_tail a v b values h) l (omega arith) (omega arith) t)
  ]

agrees_all : (values : List Bool) → Agrees (assignment_of values) 1 values
agrees_all values i d = let e : (1 + i) - 1 ≡ i = omega arith in ap (λ k. get_or values k false) e

pub listed_all : (values : List Bool) (l : Literal) → IsWithin (length values) l → literal_true (assignment_of values) l ≡ true → Contains (literals_from 1 values) l
listed_all values l w t = let low = w.0 in let up = w.1 in listed_has (assignment_of values) 1 values (agrees_all values) l (omega arith) (omega arith) t

listed_one : (values : List Bool) (l : Literal) → Contains (literals_from 1 values) l → literal_true (assignment_of values) l ≡ true
listed_one values l i = listed_true (assignment_of values) 1 values (agrees_all values) l i

not_both : (a : ℕ → Bool) (l : Literal) → literal_true a l ≡ true → literal_true a (negation l) ≡ true → ⊥
not_both a (Pos v) t n = both_ways (a v) (not-true (a v) n) t
not_both a (Neg v) t n = both_ways (a v) (not-true (a v) t) n

no_pair : (values : List Bool) → is_tautology (literals_from 1 values) ≡ false
no_pair values = no_pair_is (literals_from 1 values) (λ p. not_both (assignment_of values) p.0 (listed_one values p.0 p.1) (listed_one values (negation p.0) p.2))

within_of : (vars : ℕ) (C : Clause) (l : Literal) → All (IsWithin vars) C → Contains C l → IsWithin vars l
within_of vars C l h i = All-contains (IsWithin vars) C l h i

-- ---- the test of a reader
pub model_holds : (s : State) (F : List Clause) (A : Cube) (vars : ℕ) (values : List Bool) → IsSolution vars F A values → All (All (IsWithin vars)) F → All (IsWithin vars) A → s.query ≡ A
    → ((n : ℕ) → Contains s.given n → (C : Clause) × live_in s.live n C × Contains F C) → is_model s (literals_from 1 values) ≡ true
model_holds s F A vars values sol few short query named =
    let model = literals_from 1 values in
    let listed : (l : Literal) → IsWithin vars l → literal_true (assignment_of values) l ≡ true → has model l ≡ true =
    λ l w t. Contains-has model l (listed_all values l (subst (λ n. IsWithin n l) (sym sol.whole) w) t) in
    let met : (n : ℕ) → Contains s.given n → is_met (has model) (get s.live n) ≡ true =
    λ n i.
    let c = named n i in
    let t = All-contains (IsTrueIn (assignment_of values)) F c.0 sol.clauses c.2 in
    ap (is_met (has model)) c.1 ∙ any_by (has model) c.0 t.0 t.1 (listed t.0 (within_of vars c.0 t.0 (All-contains (All (IsWithin vars)) F c.0 few c.2) t.1) t.2) in
    let asked : list_all (has model) s.query ≡ true =
    ap (list_all (has model)) query ∙ all_by (has model) A (λ l i. listed l (within_of vars A l short i) (sol.query l i)) in
    and_from (not (is_tautology model)) (list_all (λ id. is_met (has model) (get s.live id)) s.given && list_all (has model) s.query) (ap not (no_pair values))
    (and_from (list_all (λ id. is_met (has model) (get s.live id)) s.given) (list_all (has model) s.query) (all_by (λ id. is_met (has model) (get s.live id)) s.given met) asked)

-- ---- as they are listed
literals_push : (v : ℕ) (values : List Bool) (b : Bool) → literals_from v (values ++ b ∷ []) ≡ literals_from v values ++ literal_of (v + length values) b ∷ []
literals_push v [] b = ap (λ k. literal_of k b ∷ []) (let e : v ≡ v + 0 = omega arith in e)
literals_push v (x ∷ values) b =
    ap (λ (ls : List Literal). literal_of v x ∷ ls) (literals_push (v + 1) values b ∙ ap (λ k. literals_from (v + 1) values ++ literal_of k b ∷ []) (let e : (v + 1) + length values ≡ v + suc (length values) = omega arith in e))

pub listed_more : (values given : List Bool) (i number : ℕ) (lits now : List Literal) (l : Literal) (d : Bool) → given ≡ values → i < length given → number ≡ i + 1 → lits ≡ literals_from 1 (take i values)
    → now ≡ lits ++ l ∷ [] → l ≡ literal_of number (get_or given i d) → now ≡ literals_from 1 (take (i + 1) values)
listed_more values given i number lits now l d same below is listed push lit =
    let low : i < length values = subst (λ (xs : List Bool). i < length xs) same below in
    let long : length (take i values) ≡ i = length-take-le i values (omega arith) in
    let b = get_or values i d in
    let at : l ≡ literal_of (1 + length (take i values)) b = lit ∙ ap (λ (xs : List Bool). literal_of number (get_or xs i d)) same ∙ ap (λ k. literal_of k b) (let e : number ≡ 1 + length (take i values) = omega arith in e) in
    push ∙ ap (λ (ls : List Literal). ls ++ l ∷ []) listed ∙ ap (λ (k : Literal). literals_from 1 (take i values) ++ k ∷ []) at ∙ sym (literals_push 1 (take i values) b) ∙ ap (literals_from 1) (sym (take_more values i d low))

literals_within : (v top : ℕ) (values : List Bool) → 1 ≤ v → v + length values ≤ top + 1 → All (IsWithin top) (literals_from v values)
literals_within v top [] low up = All-nil (IsWithin top)
literals_within v top (true ∷ values) low up = All-cons (IsWithin top) (Pos v) (literals_from (v + 1) values) (omega arith, omega arith) (literals_within (v + 1) top values (omega arith) (omega arith))
literals_within v top (false ∷ values) low up = All-cons (IsWithin top) (Neg v) (literals_from (v + 1) values) (omega arith, omega arith) (literals_within (v + 1) top values (omega arith) (omega arith))

pub model_limits : (most : ℕ) (values : List Bool) → length values ≤ most → IsStepWithin most (Add 1 (literals_from 1 values) [] [])
model_limits most values few = ((omega arith, omega arith), literals_within 1 most values (omega arith) (omega arith), All-nil IsClauseNumber, All-nil IsGroup)

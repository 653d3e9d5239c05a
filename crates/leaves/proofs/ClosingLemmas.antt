-- Whether a log closes a leaf, lemma by lemma.
use Rattle.std.proofs.Common.{◌≡◌, ℕ, ◌+◌, ◌<◌, ◌≤◌, inl, inr, Bool, true, false, ◌||◌, cond, Option, Some, None, List, [], ◌∷◌, ◌++◌, length, map, refl, sym, ◌∙◌, ap, subst, arith}
use Rattle.std.specs.Prelude.{◌↔◌, is_none, is_some}
use Rattle.std.specs.FinMap.{get}
use Rattle.std.specs.List.{Contains, list_any}
use Rattle.std.proofs.lemmas.Bool.{true≢false, cases_Bool, or_cases}
use Rattle.std.proofs.lemmas.List.Elements.{Contains-append_right}
use Rattle.std.proofs.lemmas.List.Sums.{fold-append}
use Rattle.dimacs.proofs.Members.{Contains-head, Contains-cons, Contains-cons_cases, Contains-nil}
use Rattle.dimacs.specs.logic.ClauseMap.{map_of}
use Rattle.dimacs.specs.logic.Cnf.{Cnf}
use Rattle.dimacs.specs.logic.Literal.{Clause}
use Rattle.icnf.specs.Leaves.{Cube}
use Rattle.lrat_text.specs.Log.{additions}
use Rattle.lrat_text.specs.Runs.{after_steps}
use Rattle.lrat_text.specs.declared.step.Step.{Step}
use Rattle.proof_join.specs.RenumberedSteps.{behind}
use Rattle.proof_join.proofs.MapLemmas.{between_formula}
use Rattle.log_join.specs.ClosedLeaves.{Leaf, Numbered, all_settled, can_close, closes, is_closed, settled}
use Rattle.log_join.specs.JoinedLogs.{AreLogs, JoinState, Handed, IsClosedBy, joined_so_far, left_by, lemmas_of, nothing, with_log}
use Rattle.log_join.specs.Written.{AtLogEnd, NoneLive, lemmas_below, leaves_of}
use Rattle.log_join.specs.declared.log_joiner.LogJoiner.{LogJoiner}
use Rattle.log_join.proofs.ClosedLemmas.{closed_all, closed_only, gathered_cubes}
use Rattle.log_join.proofs.PlacedLemmas.{log_between, counted_top}
use Rattle.log_join.proofs.SettleLemmas.{both, from_map}
use Rattle.log_join.proofs.SettlingLemmas.{lemmas_all, lemmas_longer}
use Rattle.leaves.specs.inner.CheckedLines.{ClosesNewly, ClosesOpen, TellsClosing}

-- ---- lists
any_of : {X : Type 0} (p : X → Bool) (xs : List X) → list_any p xs ≡ true → (x : X) × Contains xs x × (p x ≡ true)
any_of p [] h = absurd (true≢false (sym h))
any_of p (y ∷ xs) h = elim (or_cases (p y) (list_any p xs) h) [
  | inl here ↦ (y, Contains-head y xs, here)
  | inr later ↦ (let r = any_of p xs later in (r.0, Contains-cons y r.0 xs r.1, r.2))
]

pub contains_map : {X Y : Type 0} (f : X → Y) (xs : List X) (x : X) → Contains xs x → Contains (map f xs) (f x)
contains_map f [] x i = absurd (Contains-nil x i)
contains_map f (y ∷ xs) x i = elim (Contains-cons_cases y x xs i) [
  | inl s ↦ subst (λ z. Contains (map f (y ∷ xs)) (f z)) s (Contains-head (f y) (map f xs))
  | inr later ↦ Contains-cons (f y) (f x) (map f xs) (contains_map f xs x later)
]

-- ---- one lemma
open_of : (o : Option Numbered) → is_none o ≡ true → is_some o ≡ false
open_of None e = refl
open_of (Some l) e = absurd (true≢false (sym e))

-- a lemma that is found to close a leaf closes an open one
pub closes_open : (F : Cnf) (log : List Step) (leaves : List Leaf) (l : Numbered) (number : ℕ) (b : Bool) → b ≡ true → b ≡ list_any (can_close l) leaves → length F.clauses < number
    → get (after_steps (map_of F) log) number ≡ Some l.clause → ClosesOpen F log leaves
closes_open F log leaves l number b is told own live =
    let k = any_of (can_close l) leaves (sym told ∙ is) in
    let two = both (is_none k.0.closing) (closes k.0.cube l.clause) k.2 in
    (k.0, k.1, open_of k.0.closing two.0, record { id = number; clause = l.clause; own = own; lives = live; ends = two.1 })

either_false : (a b : Bool) → (a || b) ≡ false → (a ≡ false) × (b ≡ false)
either_false true b e = absurd (true≢false e)
either_false false b e = (refl, e)

-- a lemma that closes none leaves the leaves as they are
stay : (l : Numbered) (leaves : List Leaf) → list_any (can_close l) leaves ≡ false → settled l leaves ≡ leaves
stay l [] e = refl
stay l (k ∷ leaves) e =
    let two = either_false (can_close l k) (list_any (can_close l) leaves) e in
    ap (λ (b : Bool). cond {A = Leaf} b (record { cube = k.cube; closing = Some l }) k ∷ settled l leaves) two.0 ∙ ap (λ (ks : List Leaf). k ∷ ks) (stay l leaves two.1)

settled_append : (leaves : List Leaf) (xs : List Numbered) (l : Numbered) → all_settled leaves (xs ++ l ∷ []) ≡ settled l (all_settled leaves xs)
settled_append leaves [] l = refl
settled_append leaves (x ∷ xs) l = settled_append (settled x leaves) xs l

pub closes_none : (F : Cnf) (cubes : List Cube) (logs : List Handed) (log : List Step) (written : List ℕ) (n number : ℕ) (C : Clause) (id : ℕ) (old new : LogJoiner) (b : Bool) → b ≡ false
    → b ≡ list_any (can_close (record { id = id; clause = C })) (leaves_of old)
    → AtLogEnd F cubes logs (record { steps = log; accepted = true }) n old written → AtLogEnd F cubes logs (record { steps = log; accepted = true }) (number + 1) new written
    → n ≤ number → NoneLive (after_steps (map_of F) log) n number → get (after_steps (map_of F) log) number ≡ Some C → leaves_of new ≡ leaves_of old
closes_none F cubes logs log written n number C id old new b is told before after up none live =
    let f : ℕ → ℕ = behind (length F.clauses) (joined_so_far F cubes logs).top in
    let one : Numbered = record { id = f number; clause = C } in
    let first : List Leaf = (joined_so_far F cubes logs).leaves in
    let below : List Numbered = lemmas_below F cubes logs log n in
    let longer : lemmas_below F cubes logs log (number + 1) ≡ below ++ one ∷ [] =
    lemmas_longer f (after_steps (map_of F) log) (length F.clauses + 1) n number C (let l = before.low in omega arith) up none live in
    let none_closes : list_any (can_close one) (all_settled first below) ≡ false = ap (list_any (can_close one)) (sym before.way.stands.leaves) ∙ sym told ∙ is in
    after.way.stands.leaves
    ∙ ap (all_settled first) longer
    ∙ settled_append first below one
    ∙ stay one (all_settled first below) none_closes
    ∙ sym before.way.stands.leaves

-- ---- all lemmas
pub tells_none : (F : Cnf) (log : List Step) (leaves : List Leaf) (g : LogJoiner) → leaves_of g ≡ leaves → TellsClosing F log leaves g false
tells_none F log leaves g is = record { some = λ e. absurd (true≢false (sym e)); none = λ e. is }

-- what one more lemma closes
pub tells_more : (F : Cnf) (log : List Step) (leaves : List Leaf) (old new : LogJoiner) (a b c : Bool) → c ≡ (a || b) → TellsClosing F log leaves old a → TellsClosing F log (leaves_of old) new b
    → TellsClosing F log leaves new c
tells_more F log leaves old new true b c is before one = record { some = λ e. before.some refl; none = λ e. absurd (true≢false (sym is ∙ e)) }
tells_more F log leaves old new false b c is before one = record {
  some = λ e. subst (λ (ks : List Leaf). ClosesOpen F log ks) (before.none refl) (one.some (sym is ∙ e));
  none = λ e. one.none (sym is ∙ e) ∙ before.none refl;
}

-- ---- a log that has ended
-- the leaves after its lemmas are those after the log
pub ending_leaves : (F : Cnf) (cubes : List Cube) (logs : List Handed) (h : Handed) (n : ℕ) (g : LogJoiner) (written : List ℕ) → AtLogEnd F cubes logs h n g written
    → ((k : ℕ) → n ≤ k → get (after_steps (map_of F) h.steps) k ≡ None) → leaves_of g ≡ (joined_so_far F cubes (logs ++ h ∷ [])).leaves
ending_leaves F cubes logs h n g written e none =
    let m : ℕ = length F.clauses in
    let so_far : JoinState = joined_so_far F cubes logs in
    let beyond : (k : ℕ) → (m + 1) + additions h.steps ≤ k → get (after_steps (map_of F) h.steps) k ≡ None = λ k far. not_live k far (get (after_steps (map_of F) h.steps) k) refl in
    let all : lemmas_below F cubes logs h.steps n ≡ lemmas_of F so_far.top h.steps =
    lemmas_all (behind m so_far.top) (after_steps (map_of F) h.steps) (m + 1) n (additions h.steps) (let l = e.low in omega arith) none beyond in
    let whole : joined_so_far F cubes (logs ++ h ∷ []) ≡ with_log F so_far h = fold-append (with_log F) (nothing F cubes) logs (h ∷ []) in
    e.way.stands.leaves ∙ ap (left_by h.accepted so_far.leaves) all ∙ sym (ap (λ (z : JoinState). z.leaves) whole)
  where
    not_live : (k : ℕ) → (length F.clauses + 1) + additions h.steps ≤ k → (o : Option Clause) → get (after_steps (map_of F) h.steps) k ≡ o → get (after_steps (map_of F) h.steps) k ≡ None
    not_live k far None z = z
    not_live k far (Some C) z =
        let r = (log_between (length F.clauses) (map_of F) (length F.clauses) h.steps e.way.is_log (between_formula F) k C z).1 in
        let t = counted_top (length F.clauses) (map_of F) (length F.clauses) h.steps e.way.is_log in
        absurd (omega arith)

-- an open leaf is closed by none of the logs before
open_newly : (F : Cnf) (cubes : List Cube) (logs : List Handed) (log : List Step) → AreLogs F logs → ClosesOpen F log (joined_so_far F cubes logs).leaves → ClosesNewly F cubes logs log
open_newly F cubes logs log are (k, i, is_open, closes_it) = (
  k.cube,
  subst (λ (qs : List Cube). Contains qs k.cube) (gathered_cubes F cubes logs) (contains_map (λ (z : Leaf). z.cube) (joined_so_far F cubes logs).leaves k i),
  λ by. true≢false (sym (closed_all F cubes logs k are i by) ∙ is_open),
  closes_it,
)

-- if the leaves stay as they are, none is closed
stays_open : (F : Cnf) (cubes : List Cube) (logs : List Handed) (log : List Step) → AreLogs F (logs ++ record { steps = log; accepted = true } ∷ [])
    → (joined_so_far F cubes (logs ++ record { steps = log; accepted = true } ∷ [])).leaves ≡ (joined_so_far F cubes logs).leaves → ¬ (ClosesNewly F cubes logs log)
stays_open F cubes logs log are same (q, i, not_before, closes_it) =
    let h : Handed = record { steps = log; accepted = true } in
    let later : List Leaf = (joined_so_far F cubes (logs ++ h ∷ [])).leaves in
    let k = from_map (λ (z : Leaf). z.cube) later q (subst (λ (qs : List Cube). Contains qs q) (sym (gathered_cubes F cubes (logs ++ h ∷ []))) i) in
    let by : IsClosedBy F (logs ++ h ∷ []) q = record { log = h; one = Contains-append_right logs (h ∷ []) h (Contains-head h []); accepted = refl; closes = closes_it } in
    let shut : is_closed k.0 ≡ true = closed_all F cubes (logs ++ h ∷ []) k.0 are k.1 (subst (IsClosedBy F (logs ++ h ∷ [])) (sym k.2) by) in
    not_before (subst (IsClosedBy F logs) k.2 (closed_only F cubes logs k.0 (subst (λ (ks : List Leaf). Contains ks k.0) same k.1) shut))

-- so the result says whether the log closes a leaf
pub told_newly : (F : Cnf) (cubes : List Cube) (logs : List Handed) (log : List Step) (g : LogJoiner) (b : Bool) → AreLogs F logs → AreLogs F (logs ++ record { steps = log; accepted = true } ∷ [])
    → leaves_of g ≡ (joined_so_far F cubes (logs ++ record { steps = log; accepted = true } ∷ [])).leaves → TellsClosing F log (joined_so_far F cubes logs).leaves g b → (b ≡ true) ↔ ClosesNewly F cubes logs log
told_newly F cubes logs log g b before after are t = (
  λ e. open_newly F cubes logs log before (t.some e),
  λ c. elim (cases_Bool b) [
    | inl e ↦ e
    | inr e ↦ absurd (stays_open F cubes logs log after (sym are ∙ t.none e) c)
  ],
)

-- Files that close leaves, and the logs that are gathered of them.
use Rattle.std.proofs.Common.{◌≡◌, ◌⊎◌, ℕ, ◌<◌, ◌≤◌, ◌^◌, max, inl, inr, Bool, true, false, ◌&&◌, List, [], ◌∷◌, ◌++◌, length, Result, Ok, Err, refl, sym, ◌∙◌, ap, subst, arith}
use Rattle.std.specs.Prelude.{◌↔◌}
use Rattle.std.specs.List.{Contains, list_all}
use Rattle.std.proofs.lemmas.Bool.{true≢false}
use Rattle.std.proofs.lemmas.List.Elements.{Contains-append_cases, Contains-append_left, Contains-append_right}
use Rattle.dimacs.proofs.Members.{Contains-head, Contains-cons, Contains-cons_cases, Contains-nil}
use Rattle.dimacs.specs.logic.Cnf.{Cnf}
use Rattle.icnf.specs.Leaves.{Cube}
use Rattle.lrat_check.specs.Logs.{log_of}
use Rattle.lrat_check.specs.declared.line_checker.CheckFault.{CheckFault}
use Rattle.lrat_check.proofs.LogTexts.{log_checked}
use Rattle.lrat_text.specs.Grammar.{LineSpellsWithin}
use Rattle.lrat_text.specs.Log.{IsLog, log_top}
use Rattle.lrat_text.specs.declared.step.Step.{Step}
use Rattle.lrat_text.proofs.CountingLemmas.{one_list_within}
use Rattle.proof_join.proofs.MapLemmas.{between_formula}
use Rattle.log_join.specs.ClosedLeaves.{Leaf, is_closed}
use Rattle.log_join.specs.JoinedLogs.{AreLogs, ClosesLeaf, Handed, IsClosedBy, joined_so_far}
use Rattle.log_join.proofs.ClosedLemmas.{closed_all, closed_only, gathered_cubes}
use Rattle.log_join.proofs.SettleLemmas.{both, from_map}
use Rattle.leaves.specs.Join.{AreClosed, ClosesAsLog, ClosesNewLeaf, HasFirstByte, IsClosedByFile, LeavesClosedByFiles, is_answer}
use Rattle.leaves.specs.inner.CheckedLines.{ClosesNewly}
use Rattle.leaves.proofs.AnswerLemmas.{answer_is_no_log}
use Rattle.leaves.proofs.ClosingLemmas.{contains_map}

-- the accepted logs close the leaves that the files close
abbrev pub AreOf : Cnf → List Handed → List (List ℕ) → Type 0
AreOf F logs files = (q : Cube) → IsClosedBy F logs q ↔ IsClosedByFile F files q

-- ---- one more log
by_more : (F : Cnf) (logs : List Handed) (h : Handed) (q : Cube) → IsClosedBy F (logs ++ h ∷ []) q → IsClosedBy F logs q ⊎ ((h.accepted ≡ true) × ClosesLeaf F q h.steps)
by_more F logs h q c = elim (Contains-append_cases logs (h ∷ []) c.log c.one) [
  | inl before ↦ inl (record { log = c.log; one = before; accepted = c.accepted; closes = c.closes })
  | inr last ↦ elim (Contains-cons_cases h c.log [] last) [
    | inl s ↦ inr (ap (λ (z : Handed). z.accepted) s ∙ c.accepted, subst (λ (z : Handed). ClosesLeaf F q z.steps) (sym s) c.closes)
    | inr none ↦ absurd (Contains-nil c.log none)
  ]
]

more_by : (F : Cnf) (logs : List Handed) (h : Handed) (q : Cube) → IsClosedBy F logs q → IsClosedBy F (logs ++ h ∷ []) q
more_by F logs h q c = record { log = c.log; one = Contains-append_left logs (h ∷ []) c.log c.one; accepted = c.accepted; closes = c.closes }

last_by : (F : Cnf) (logs : List Handed) (h : Handed) (q : Cube) → h.accepted ≡ true → ClosesLeaf F q h.steps → IsClosedBy F (logs ++ h ∷ []) q
last_by F logs h q accepted c = record { log = h; one = Contains-append_right logs (h ∷ []) h (Contains-head h []); accepted = accepted; closes = c }

-- ---- one more file
file_more : (F : Cnf) (files : List (List ℕ)) (text : List ℕ) (q : Cube) → IsClosedByFile F (files ++ text ∷ []) q → IsClosedByFile F files q ⊎ ClosesAsLog F q text
file_more F files text q (t, i, c) = elim (Contains-append_cases files (text ∷ []) t i) [
  | inl before ↦ inl (t, before, c)
  | inr last ↦ elim (Contains-cons_cases text t [] last) [
    | inl s ↦ inr (subst (ClosesAsLog F q) (sym s) c)
    | inr none ↦ absurd (Contains-nil t none)
  ]
]

more_file : (F : Cnf) (files : List (List ℕ)) (text : List ℕ) (q : Cube) → IsClosedByFile F files q → IsClosedByFile F (files ++ text ∷ []) q
more_file F files text q (t, i, c) = (t, Contains-append_left files (text ∷ []) t i, c)

last_file : (F : Cnf) (files : List (List ℕ)) (text : List ℕ) (q : Cube) → ClosesAsLog F q text → IsClosedByFile F (files ++ text ∷ []) q
last_file F files text q c = (text, Contains-append_right files (text ∷ []) text (Contains-head text []), c)

-- ---- a file that is read to its end
-- it is a log, of these steps
pub closes_as : (F : Cnf) (q : Cube) (text : List ℕ) (log : List Step) → LineSpellsWithin (log_top F) text log → IsLog F log → ClosesLeaf F q log → ClosesAsLog F q text
closes_as F q text log spells is_log c = record { steps = log; spells = spells; is_log = is_log; closes = c }

as_closes : (F : Cnf) → F.vars ≤ 199999999 → (q : Cube) (text : List ℕ) (log : List Step) → LineSpellsWithin (log_top F) text log → ClosesAsLog F q text → ClosesLeaf F q log
as_closes F low q text log spells c =
    let few : max 2000000 F.vars < 2 ^ 48 = omega (arith, low) in
    subst (ClosesLeaf F q) (one_list_within (log_top F) few text c.steps log c.spells spells) c.closes

pub log_more : (F : Cnf) → F.vars ≤ 199999999 → (logs : List Handed) (files : List (List ℕ)) (text : List ℕ) (log : List Step) → AreOf F logs files → LineSpellsWithin (log_top F) text log → IsLog F log
    → AreOf F (logs ++ record { steps = log; accepted = true } ∷ []) (files ++ text ∷ [])
log_more F low logs files text log are spells is_log q = (
  λ by. elim (by_more F logs (record { steps = log; accepted = true }) q by) [
    | inl before ↦ more_file F files text q ((are q).0 before)
    | inr last ↦ last_file F files text q (closes_as F q text log spells is_log last.1)
  ],
  λ by. elim (file_more F files text q by) [
    | inl before ↦ more_by F logs (record { steps = log; accepted = true }) q ((are q).1 before)
    | inr last ↦ last_by F logs (record { steps = log; accepted = true }) q refl (as_closes F low q text log spells last)
  ],
)

-- it is handed in as one that is not accepted
pub refused_more : (F : Cnf) (logs : List Handed) (files : List (List ℕ)) (log : List Step) → AreOf F logs files → AreOf F (logs ++ record { steps = log; accepted = false } ∷ []) files
refused_more F logs files log are q = (
  λ by. elim (by_more F logs (record { steps = log; accepted = false }) q by) [
    | inl before ↦ (are q).0 before
    | inr last ↦ absurd (true≢false (sym last.0))
  ],
  λ by. more_by F logs (record { steps = log; accepted = false }) q ((are q).1 by),
)

-- it closes no leaf
pub nothing_more : (F : Cnf) (logs : List Handed) (files : List (List ℕ)) (text : List ℕ) → AreOf F logs files → ((q : Cube) → ¬ (ClosesAsLog F q text)) → AreOf F logs (files ++ text ∷ [])
nothing_more F logs files text are none q = (
  λ by. more_file F files text q ((are q).0 by),
  λ by. elim (file_more F files text q by) [
    | inl before ↦ (are q).1 before
    | inr last ↦ absurd (none q last)
  ],
)

pub answer_closes_none : (F : Cnf) (text : List ℕ) → is_answer text ≡ true → (q : Cube) → ¬ (ClosesAsLog F q text)
answer_closes_none F text is q c = answer_is_no_log (log_top F) text c.steps c.spells is

pub faulty_closes_none : (F : Cnf) → F.vars ≤ 199999999 → (text : List ℕ) (fault : CheckFault) → log_of F text ≡ Err fault → (q : Cube) → ¬ (ClosesAsLog F q text)
faulty_closes_none F low text fault is q c = two_ends (log_of F text) fault (log_checked F text low (c.steps, c.spells, c.is_log)) is
  where
    two_ends : (r : Result (Unit {0}) CheckFault) (f : CheckFault) → r ≡ Ok tt → r ≡ Err f → ⊥
    two_ends r f a b = cc

-- no byte spells no step
no_step_spelled : (most : ℕ) (steps : List Step) → LineSpellsWithin most [] steps → steps ≡ []
no_step_spelled most [] h = refl
no_step_spelled most (step ∷ steps) (line, rest, is, one, spells, more) = absurd (none line is)
  where
    none : (bytes : List ℕ) → [] ≡ bytes ++ 10 ∷ rest → ⊥
    none [] e = let no : ⊥ = cc in no
    none (b ∷ bytes) e = let no : ⊥ = cc in no

pub empty_closes_none : (F : Cnf) (q : Cube) → ¬ (ClosesAsLog F q [])
empty_closes_none F q c =
    let no_step : c.steps ≡ [] = no_step_spelled (log_top F) c.steps c.spells in
    let k = subst (ClosesLeaf F q) no_step c.closes in
    let own : length F.clauses < k.id = k.own in
    let r = (between_formula F k.id k.clause k.lives).1 in
    absurd (omega arith)

-- ---- what it closes
pub newly_more : (F : Cnf) (cubes : List Cube) (logs : List Handed) (files : List (List ℕ)) (text : List ℕ) (log : List Step) → AreOf F logs files → LineSpellsWithin (log_top F) text log → IsLog F log
    → ClosesNewly F cubes logs log → ClosesNewLeaf F cubes files text
newly_more F cubes logs files text log are spells is_log (q, i, none, c) = (q, i, λ by. none ((are q).1 by), closes_as F q text log spells is_log c)

pub more_newly : (F : Cnf) → F.vars ≤ 199999999 → (cubes : List Cube) (logs : List Handed) (files : List (List ℕ)) (text : List ℕ) (log : List Step) → AreOf F logs files → LineSpellsWithin (log_top F) text log
    → ClosesNewLeaf F cubes files text → ClosesNewly F cubes logs log
more_newly F low cubes logs files text log are spells (q, i, none, c) = (q, i, λ by. none ((are q).0 by), as_closes F low q text log spells c)

-- ---- the leaves
pub leaves_stand : (F : Cnf) (cubes : List Cube) (logs : List Handed) (files : List (List ℕ)) → AreLogs F logs → AreOf F logs files → LeavesClosedByFiles F cubes files (joined_so_far F cubes logs).leaves
leaves_stand F cubes logs files are_logs are = record {
  cubes_are = gathered_cubes F cubes logs;
  closed = λ k i. (λ e. (are k.cube).0 (closed_only F cubes logs k i e), λ by. closed_all F cubes logs k are_logs i ((are k.cube).1 by));
}

all_of : (leaves : List Leaf) → ((k : Leaf) → Contains leaves k → is_closed k ≡ true) → list_all is_closed leaves ≡ true
all_of [] h = refl
all_of (k ∷ leaves) h = and_true (is_closed k) (list_all is_closed leaves) (h k (Contains-head k leaves)) (all_of leaves (λ z i. h z (Contains-cons k z leaves i)))
  where
    and_true : (a b : Bool) → a ≡ true → b ≡ true → (a && b) ≡ true
    and_true true b e f = f
    and_true false b e f = e

of_all : (leaves : List Leaf) → list_all is_closed leaves ≡ true → (k : Leaf) → Contains leaves k → is_closed k ≡ true
of_all [] e k i = absurd (Contains-nil k i)
of_all (x ∷ leaves) e k i =
    let two = both (is_closed x) (list_all is_closed leaves) e in
    elim (Contains-cons_cases x k leaves i) [
      | inl s ↦ ap (λ (z : Leaf). is_closed z) (sym s) ∙ two.0
      | inr later ↦ of_all leaves two.1 k later
    ]

-- all leaves are closed exactly if the files close them
pub all_closed : (F : Cnf) (cubes : List Cube) (files : List (List ℕ)) (leaves : List Leaf) → LeavesClosedByFiles F cubes files leaves → list_all is_closed leaves ≡ true → AreClosed F cubes files
all_closed F cubes files leaves are e q i =
    let k = from_map (λ (z : Leaf). z.cube) leaves q (subst (λ (qs : List Cube). Contains qs q) (sym are.cubes_are) i) in
    subst (IsClosedByFile F files) k.2 ((are.closed k.0 k.1).0 (of_all leaves e k.0 k.1))

pub closed_all_of : (F : Cnf) (cubes : List Cube) (files : List (List ℕ)) (leaves : List Leaf) → LeavesClosedByFiles F cubes files leaves → AreClosed F cubes files → list_all is_closed leaves ≡ true
closed_all_of F cubes files leaves are all =
    all_of leaves (λ k i. (are.closed k i).1 (all k.cube (subst (λ (qs : List Cube). Contains qs k.cube) are.cubes_are (contains_map (λ (z : Leaf). z.cube) leaves k i))))

-- ---- the first byte
pub begun_more : (answer : Bool) (bytes more : List ℕ) → HasFirstByte answer bytes → HasFirstByte answer (bytes ++ more)
begun_more answer [] more h = absurd h
begun_more answer (b ∷ bs) more h = h

pub begun_is : (answer : Bool) (bytes : List ℕ) → HasFirstByte answer bytes → is_answer bytes ≡ answer
begun_is answer [] h = absurd h
begun_is answer (b ∷ bs) h = h

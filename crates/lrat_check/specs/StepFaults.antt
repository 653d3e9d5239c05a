-- The first fault of a step, in the order in which a checker tests. In the arguments M are the live clauses, and α and β are partial
-- assignments: the literals that are assumed. A literal is true if it is assumed, and false if its negation is.
use Rattle.std.specs.Prelude.{ℕ, Bool, true, false, not, ◌&&◌, ◌||◌, List, [], ◌∷◌, Option, Some, None, filter, if◌then◌else◌, nat_lt, nat_eq, is_some}
use Rattle.std.specs.List.{list_any, list_all}
use Rattle.std.specs.FinMap.{get, keys, remove, insert}
use Rattle.lrat_check.specs.Holders.{holders}
use Rattle.dimacs.specs.logic.Literal.{Literal, negation, same, var_of, Clause, has}
use Rattle.dimacs.specs.logic.Rat.{Group, with_candidate}
use Rattle.lrat_text.specs.declared.step.Step.{Step}
use Rattle.lrat_text.specs.declared.step.Step.TheVariants.{Add, Delete}
use Rattle.lrat_check.specs.declared.fault.StepFault.{StepFault}
use Rattle.lrat_check.specs.declared.fault.StepFault.TheVariants.{NumberNotRising, UnknownClause, Tautology, HintSatisfied, HintNotUnit, HintAfterConflict, NoConflict, CandidateMissing, NotACandidate, CandidateTwice, HintsForBlockedCandidate}
use Rattle.dimacs.specs.logic.ClauseMap.{ClauseMap}
use Rattle.dimacs.specs.logic.Propagation.{Assumed, negations, with_literal}

-- the status of a clause under a partial assignment: Satisfied, a literal is true; Falsified, all are false; Unit, all are false except
-- one, which is neither; Undecided, none of these
pub data Status : Type 0 where
  Satisfied : Status
  Falsified : Status
  Unit : Literal → Status
  Undecided : Status

-- the status of a clause that has no true literal, from its literals that are not false
abbrev pub status_of_free : List Literal → Status
status_of_free [] = Falsified
status_of_free (l ∷ ls) = if list_all (same l) ls then Unit l else Undecided

-- the literals of the clause C that are not false under α
abbrev pub not_false : Assumed → Clause → List Literal
not_false α C = filter (λ l. not (α (negation l))) C

-- the status of the clause C under α
abbrev pub status : Assumed → Clause → Status
status α C = if list_any α C then Satisfied else status_of_free (not_false α C)

-- how propagation along hints ends: Through, each hint was unit, with the literals that are then assumed; Conflict, the last hint is one;
-- Fault, a hint has this fault
pub data Walk : Type 0 where
  Through : Assumed → Walk
  Conflict : Walk
  Fault : StepFault → Walk

-- whether a list of hints is empty
abbrev pub is_empty : List ℕ → Bool
is_empty [] = true
is_empty (x ∷ xs) = false

-- how propagation ends from a hint on whose clause has this status; last says that neither a hint nor a group follows, and next how it ends
-- after the hint
abbrev pub by_status : Bool → Assumed → (Assumed → Walk) → Status → Walk
by_status last α next Satisfied = Fault HintSatisfied
by_status last α next Falsified = if last then Conflict else Fault HintAfterConflict
by_status last α next (Unit l) = next (with_literal α l)
by_status last α next Undecided = Fault HintNotUnit

-- how propagation ends from a hint on whose live clause is the argument, None if it is not live; last and next are those of by_status
abbrev pub by_hint : Bool → Assumed → (Assumed → Walk) → Option Clause → Walk
by_hint last α next None = Fault UnknownClause
by_hint last α next (Some C) = by_status last α next (status α C)

-- how propagation along the hints ends, beginning with the assumed literals α; more says that groups follow the hints
abbrev pub walk : ClauseMap → Bool → List ℕ → Assumed → Walk
walk M more [] α = Through α
walk M more (hint ∷ hints) α = by_hint (is_empty hints && not more) α (λ β. walk M more hints β) (get M hint)

-- whether the clause C holds a literal and its negation
abbrev pub is_tautology : Clause → Bool
is_tautology C = list_any (λ l. has C (negation l)) C

-- the fault of a propagation that has to end in a conflict
abbrev pub walk_fault : Walk → Option StepFault
walk_fault (Through α) = Some NoConflict
walk_fault Conflict = None
walk_fault (Fault fault) = Some fault

-- whether the candidate D of the pivot p is blocked, so that it needs no hint: a literal of D other than -p is true under β, or D holds
-- another variable in both signs
abbrev pub is_blocked : Assumed → Literal → Clause → Bool
is_blocked β p D = list_any (λ l. (β l && not (same l (negation p))) || (has D (negation l) && not (nat_eq (var_of l) (var_of p)))) D

-- the first fault of the hints for the candidate D of the pivot p; the literals β are assumed for the lemma
abbrev pub candidate_fault : ClauseMap → Assumed → Literal → List ℕ → Clause → Option StepFault
candidate_fault M β p hints D =
    if is_blocked β p D then (if is_empty hints then None else Some HintsForBlockedCandidate) else walk_fault (walk M false hints (with_candidate β p D))

-- the fault of a candidate, whose live clause is the argument: it is not live, does not hold -p, or was named before (twice); otherwise
-- what next gives for its clause
abbrev pub by_candidate : Literal → Bool → (Clause → Option StepFault) → Option Clause → Option StepFault
by_candidate p twice next None = Some UnknownClause
by_candidate p twice next (Some D) = if has D (negation p) then (if twice then Some CandidateTwice else next D) else Some NotACandidate

-- whether the clause number id is among the numbers named
abbrev pub is_named : List ℕ → ℕ → Bool
is_named named id = list_any (nat_eq id) named

-- the first fault of the group g of the pivot p; named are the candidates of the groups before it
abbrev pub group_fault : ClauseMap → Assumed → Literal → List ℕ → Group → Option StepFault
group_fault M β p named g = by_candidate p (is_named named g.0) (λ D. candidate_fault M β p g.1 D) (get M g.0)

-- whether some live clause that holds -p is not among the numbers named
abbrev pub is_missing : ClauseMap → Literal → List ℕ → Bool
is_missing M p named = list_any (λ id. not (is_named named id)) (keys (holders M (negation p)))

-- the first fault if there is one, otherwise the later one
abbrev pub first_fault : Option StepFault → Option StepFault → Option StepFault
first_fault (Some fault) later = Some fault
first_fault None later = later

-- the first fault of the groups of the pivot p in turn, and after them of a candidate that no group names; named are the candidates of the
-- groups before
abbrev pub groups_fault : ClauseMap → Assumed → Literal → List ℕ → List Group → Option StepFault
groups_fault M β p named [] = if is_missing M p named then Some CandidateMissing else None
groups_fault M β p named (g ∷ groups) =
    first_fault (group_fault M β p named g) (groups_fault M β p (g.0 ∷ named) groups)

-- the first fault of a lemma whose hints reach no conflict: its first literal is the pivot of its groups, and the empty lemma has none
abbrev pub pivot_fault : ClauseMap → Assumed → Clause → List Group → Option StepFault
pivot_fault M β [] groups = Some NoConflict
pivot_fault M β (p ∷ C) groups = groups_fault M β p [] groups

-- the first fault of the lemma C with these groups, from the end of the propagation along its hints
abbrev pub after_walk : ClauseMap → Clause → List Group → Walk → Option StepFault
after_walk M C groups (Through β) = pivot_fault M β C groups
after_walk M C groups Conflict = None
after_walk M C groups (Fault fault) = Some fault

-- whether a list of groups is not empty
abbrev pub has_groups : List Group → Bool
has_groups [] = false
has_groups (g ∷ gs) = true

-- the first fault of the lemma C with these hints and groups
abbrev pub lemma_fault : ClauseMap → Clause → List ℕ → List Group → Option StepFault
lemma_fault M C hints groups = if is_tautology C then Some Tautology else after_walk M C groups (walk M (has_groups groups) hints (negations C))

-- the live clauses after those of these numbers were deleted, one after the other
abbrev pub removed : ClauseMap → List ℕ → ClauseMap
removed M [] = M
removed M (id ∷ ids) = removed (remove M id) ids

-- the first fault of a deletion, from the left: UnknownClause at a number that is not live by then
abbrev pub deletion_fault : ClauseMap → List ℕ → Option StepFault
deletion_fault M [] = None
deletion_fault M (id ∷ ids) = if is_some (get M id) then deletion_fault (remove M id) ids else Some UnknownClause

-- whether a clause has no literal
abbrev pub is_empty_clause : Clause → Bool
is_empty_clause [] = true
is_empty_clause (l ∷ ls) = false

-- the first fault of the addition of the lemma C under the number id; top is the greatest number added so far
abbrev pub addition_fault : ClauseMap → ℕ → ℕ → Clause → List ℕ → List Group → Option StepFault
addition_fault M top id C hints groups = if nat_lt top id then lemma_fault M C hints groups else Some NumberNotRising

-- the first fault of a step; top is the greatest number added so far
abbrev pub step_fault : ClauseMap → ℕ → Step → Option StepFault
step_fault M top (Add id lits hints groups) = addition_fault M top id lits hints groups
step_fault M top (Delete ids) = deletion_fault M ids

-- the live clauses after a step that has no fault
abbrev pub live_after : ClauseMap → Step → ClauseMap
live_after M (Add id lits hints groups) = insert M id lits
live_after M (Delete ids) = removed M ids

-- the greatest number added so far, after a step that has no fault
abbrev pub top_after : ℕ → Step → ℕ
top_after top (Add id lits hints groups) = id
top_after top (Delete ids) = top

-- whether a step adds the empty clause
abbrev pub adds_empty : Step → Bool
adds_empty (Add id lits hints groups) = is_empty_clause lits
adds_empty (Delete ids) = false

-- The state of propagation in the code: its assignment, and the result of a visit to clauses.
use Rattle.std.specs.Prelude.{◌≡◌, ℕ, ◌<◌, ◌==◌, Bool, true, false, List, [], Option, Some, None, All, vec_len, if◌then◌else◌}
use Rattle.std.specs.List.{sum_by}
use Rattle.std.specs.Global.{Vec}
use Rattle.dimacs.specs.logic.Propagation.{Assumed, negations}
use Rattle.lrat_text.specs.Grammar.{IsClauseNumber}
use Rattle.lrat_text.specs.Log.{Cube}
use Rattle.proof_lift.specs.TrimmedLemma.{union}
use Rattle.proof_lift.specs.HintWalk.{ClauseImages, lift_walk}
use Rattle.proof_lift.specs.inner.Propagation.{IsConflict, Conflicts, Reaches, AreSettled}
use Rattle.proof_lift.specs.inner.Tables.{marked}
use Rattle.proof_lift.specs.declared.cube_propagation.Look.{Look}
use Rattle.proof_lift.specs.declared.cube_propagation.Look.TheVariants.{Conflict, Moved, Still}
use Rattle.proof_lift.specs.declared.cube_propagation.Reached.{Reached}

-- the literals that are true in the state
abbrev pub true_in : Reached → Assumed
true_in r = marked r.truth.items 1

-- the state was reached from the assignment A by its hints
abbrev pub IsReached : ClauseImages → Assumed → Reached → Type 0
IsReached T A r = Reaches T A r.hints.items (true_in r)

-- 1 for a cell that is not marked, else 0
abbrev pub place_left : ℕ → ℕ
place_left mark = if mark == 1 then 0 else 1

-- the number of cells of the table that are not marked
abbrev pub unmarked : List ℕ → ℕ
unmarked truth = sum_by place_left truth

-- what a visit changes: a literal becomes true, so that fewer cells are unmarked; or nothing
abbrev pub Shifts : Reached → Reached → Look → Type 0
Shifts old new Conflict = Unit {0}
Shifts old new Moved = (unmarked new.truth.items < unmarked old.truth.items) × (vec_len new.truth ≡ vec_len old.truth)
Shifts old new Still = new ≡ old

-- `ComesTo T A numbers old new look`: a visit to the clauses of these numbers, from the state `old`
-- to `new`, had the result `look`: a conflict, a further unit literal (Moved), or none (Still)
abbrev pub ComesTo : ClauseImages → Assumed → List ℕ → Reached → Reached → Look → Type 0
ComesTo T A numbers old new Conflict = Conflicts T A new.hints.items
ComesTo T A numbers old new Moved = IsReached T A new
ComesTo T A numbers old new Still = AreSettled T (true_in old) numbers

-- `EndsAs T A numbers r found`: propagation has ended in the state r: with a false clause if
-- `found`; else no clause of these numbers is false or unit
abbrev pub EndsAs : ClauseImages → Assumed → List ℕ → Reached → Bool → Type 0
EndsAs T A numbers r true = Conflicts T A r.hints.items
EndsAs T A numbers r false = IsReached T A r × AreSettled T (true_in r) numbers

-- the hints end in a conflict under the cube; or, without them, no hints do
abbrev pub GivesHints : ClauseImages → Cube → Option (Vec ℕ) → Type 0
GivesHints T q (Some hints) = Conflicts T (negations (union q [])) hints.items
GivesHints T q None = (hints : List ℕ) → All IsClauseNumber hints → ¬ (IsConflict (lift_walk T hints (negations (union q []))))

-- the result of a pass without a conflict, by whether a literal became true
abbrev pub look_of : Bool → Look
look_of true = Moved
look_of false = Still

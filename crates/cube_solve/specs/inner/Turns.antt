-- A turn of a search that is run in steps: one lemma more, or the end.
use Rattle.std.specs.Prelude.{◌≡◌, ℕ, ◌+◌, List, ◌++◌, length, Option, Some, None}
use Rattle.clause_arena.specs.Clauses.{Clauses, live_of}
use Rattle.conflict_analysis.specs.Lemmas.{NegatesAssumptions}
use Rattle.conflict_analysis.specs.declared.final_analysis.Closing.{Closing}
use Rattle.dimacs.specs.logic.Cnf.{Cnf}
use Rattle.dimacs.specs.logic.Literal.{Clause}
use Rattle.lrat_text.specs.Log.{Cube, Closes, IsHonest}
use Rattle.watches.specs.Trails.{TrailValue}
use Rattle.cube_solve.specs.Conflicts.{MeetsConflict}
use Rattle.cube_solve.specs.Counts.{IsCountedToEnd}
use Rattle.cube_solve.specs.Outcome.{IsBrief, IsFresh, IsModel, allowed}
use Rattle.cube_solve.specs.Stepwise.{IsUnderWay}
use Rattle.cube_solve.specs.inner.LearntLog.{IsWritten}
use Rattle.cube_solve.specs.declared.observer.Counts.{Counts}
use Rattle.cube_solve.specs.declared.stepwise.End.{End}
use Rattle.cube_solve.specs.declared.stepwise.End.TheVariants as end
use Rattle.cube_solve.specs.declared.stepwise.Stepwise.{Stepwise}

-- the lemma that closes the cube was written under the next number, and nothing else changed
pub record HasClosed {P : Type 0} (closing : Closing) (old new : Stepwise P) : Type 0 where
  pub lits : Clause
  pub written : IsWritten (live_of old.search.state.arena) old.search.state.trail.vars (old.clauses + 1 + old.learnt) lits old.search.log new.search.log
  pub negates : NegatesAssumptions old.search.state.trail.entries closing lits
  pub same : new ≡ record old { search = record old.search { log = new.search.log } }

-- the log, behind the text that was handed out, closes the cube
pub record IsClosedAt {P : Type 0} (B : Cnf) (q : Cube) (limit : ℕ) (before : List ℕ) (s : Stepwise P) : Type 0 where
  pub closes : Closes B q (before ++ s.search.log)
  pub brief : IsBrief B (allowed limit + 1) (before ++ s.search.log)
  pub counted : (c : Counts) → c.conflicts ≡ s.learnt → c.lemmas ≡ length s.search.lemmas.items → IsCountedToEnd B c (before ++ s.search.log)
  pub taken : length before ≡ s.taken

-- the text is a log that ends at the limit
pub record IsLimitedAt (B : Cnf) (q : Cube) (limit : ℕ) (text : List ℕ) : Type 0 where
  pub honest : IsHonest B (allowed limit) text
  pub fresh : IsFresh B text
  pub conflict : MeetsConflict B q text

-- one lemma more, or the end, is right after this text was handed out
abbrev pub IsTurned : {P : Type 0} → (P → Clauses → TrailValue → Type 0) → (P → List ℕ) → Cnf → Cube → ℕ → List ℕ → Option End → Stepwise P → Type 0
IsTurned is_ready attached B q limit before None s = IsUnderWay is_ready attached B q limit before s
IsTurned is_ready attached B q limit before (Some (end.Model values)) s = IsUnderWay is_ready attached B q limit before s × IsModel B q values
IsTurned is_ready attached B q limit before (Some end.Refuted) s = IsClosedAt B q limit before s
IsTurned is_ready attached B q limit before (Some end.Limit) s =
    IsUnderWay is_ready attached B q limit before s × IsLimitedAt B q limit (before ++ s.search.log) × (s.learnt ≡ allowed limit)

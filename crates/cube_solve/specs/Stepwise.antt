-- A search that is run in steps, between which the lines of its log are handed out.
use Rattle.std.specs.Prelude.{◌≡◌, ℕ, ◌+◌, ◌≤◌, nat_eq, List, ◌++◌, length, map, All, Option, Some, None}
use Rattle.std.specs.List.{IsDistinct}
use Rattle.clause_arena.specs.Clauses.{Clauses, live_of}
use Rattle.dimacs.specs.logic.Cnf.{Cnf, IsBase}
use Rattle.dimacs.specs.logic.Literal.{IsWithin, var_of}
use Rattle.lrat_text.specs.Log.{Cube, Closes, IsHonest}
use Rattle.watches.specs.Trails.{TrailValue}
use Rattle.cube_solve.specs.Conflicts.{MeetsConflict}
use Rattle.cube_solve.specs.Counts.{IsCounted, IsCountedToEnd}
use Rattle.cube_solve.specs.Outcome.{IsBrief, IsFresh, IsModel, allowed}
use Rattle.cube_solve.specs.inner.LearntLog.{IsSearch}
use Rattle.cube_solve.specs.inner.Reduction.{AreLemmas}
use Rattle.cube_solve.specs.inner.SearchInvariants.{IsSteady}
use Rattle.cube_solve.specs.inner.State.{IsAssuming}
use Rattle.cube_solve.specs.inner.UnitClauses.{AreNoted}
use Rattle.cube_solve.specs.declared.observer.Counts.{Counts}
use Rattle.cube_solve.specs.declared.stepwise.Advance.{Advance}
use Rattle.cube_solve.specs.declared.stepwise.End.{End}
use Rattle.cube_solve.specs.declared.stepwise.End.TheVariants as end
use Rattle.cube_solve.specs.declared.stepwise.Stepwise.{Stepwise}

module _ {P : Type 0} where
  -- the invariant of a search over the base B under the cube q with a limit of lemmas, between two steps, after this text of its log was
  -- handed out
  pub record IsUnderWay (is_ready : P → Clauses → TrailValue → Type 0) (attached : P → List ℕ) (B : Cnf) (q : Cube) (limit : ℕ) (before : List ℕ) (s : Stepwise P) : Type 0 where
    pub steady : IsSteady is_ready attached s.search.state
    pub learnt : IsSearch B s.learnt s.search.state.arena s.search.state.trail (before ++ s.search.log)
    pub lemmas : AreLemmas (length B.clauses + 1) (live_of s.search.state.arena) s.search.lemmas.items
    pub noted : AreNoted (live_of s.search.state.arena) s.search.units.numbers.items
    pub assuming : IsAssuming q s.search.state.trail.entries s.search.state.assumed
    pub distinct : IsDistinct nat_eq (map var_of q)
    pub within : All (IsWithin B.vars) q
    pub base : IsBase B
    pub clauses : s.clauses ≡ length B.clauses
    pub most : s.most ≡ allowed limit
    pub few : s.learnt ≤ s.most
    pub taken : length before ≡ s.taken

  -- where a search under the cube q with a limit of lemmas has come to, with these counts and this text of its whole log: to one of its three
  -- ends; or it goes on, after the text was handed out
  abbrev pub Reaches : (P → Clauses → TrailValue → Type 0) → (P → List ℕ) → Cnf → Cube → ℕ → Counts → List ℕ → Option End → Stepwise P → Type 0
  Reaches is_ready attached B q limit c text None s = IsUnderWay is_ready attached B q limit text s × IsCounted B c text
  Reaches is_ready attached B q limit c text (Some (end.Model values)) s = IsModel B q values × IsCounted B c text
  Reaches is_ready attached B q limit c text (Some end.Refuted) s = Closes B q text × IsBrief B (allowed limit + 1) text × IsCountedToEnd B c text
  Reaches is_ready attached B q limit c text (Some end.Limit) s =
      IsHonest B (allowed limit) text × IsFresh B text × MeetsConflict B q text × IsCounted B c text × (c.conflicts ≡ allowed limit)

  -- what a call answers after this text was handed out, and the search after it
  pub record IsAdvanced (is_ready : P → Clauses → TrailValue → Type 0) (attached : P → List ℕ) (B : Cnf) (q : Cube) (limit : ℕ) (before : List ℕ) (a : Advance) (s : Stepwise P) : Type 0 where
    pub reaches : Reaches is_ready attached B q limit a.counts (before ++ a.text) a.end s
    pub bytes : length (before ++ a.text) ≡ a.counts.bytes

-- The log of lemmas that a search has written.
use Rattle.std.specs.Prelude.{◌≡◌, ℕ, ◌+◌, ◌<◌, ◌≤◌, List, [], ◌++◌, length, All}
use Rattle.dimacs.specs.logic.Cnf.{Cnf}
use Rattle.dimacs.specs.logic.ClauseMap.{Live, map_of, live_in}
use Rattle.dimacs.specs.logic.Literal.{Clause, IsWithin}
use Rattle.dimacs.specs.logic.Propagation.{Rup}
use Rattle.clause_arena.specs.Clauses.{Clauses, live_of}
use Rattle.lrat_text.specs.Grammar.{LineSpellsWithin, IsStepWithin}
use Rattle.lrat_text.specs.Log.{IsLog, additions, log_top, AreFresh, IsNew}
use Rattle.lrat_text.specs.Runs.{after_steps, top_of}
use Rattle.lrat_text.specs.WrittenLine.{line_of}
use Rattle.lrat_text.specs.declared.step.Step.{Step}
use Rattle.lrat_text.specs.declared.step.Step.TheVariants.{Add}
use Rattle.watches.specs.Trails.{TrailValue}
use Rattle.cube_solve.specs.inner.Twins.{AreTwins, AreLinked, IsAdded}

-- a text's property: it is a fresh log over B with n additions, after which the live clauses are `live`, perhaps with literals in another
-- order
pub record IsLearnt (B : Cnf) (text : List ℕ) (n : ℕ) (live : Live) : Type 0 where
  pub steps : List Step
  pub spells : LineSpellsWithin (log_top B) text steps
  pub log : IsLog B steps
  pub count : additions steps ≡ n
  pub fresh : AreFresh B (map_of B) steps
  pub top : top_of (length B.clauses) steps ≡ length B.clauses + n
  pub linked : AreLinked (live_in (after_steps (map_of B) steps)) live

-- the numbers of live clauses are from 1, and below `top`
abbrev pub AreBelow : ℕ → Live → Type 0
AreBelow top live = (n : ℕ) (C : Clause) → live n C → (1 ≤ n) × (n < top)

-- a text grew by the line of a lemma of variables up to `vars`, under the number `id`, that follows by reverse unit propagation
pub record IsWritten (live : Live) (vars id : ℕ) (lits : Clause) (old new : List ℕ) : Type 0 where
  pub hints : List ℕ
  pub rup : Rup live lits hints
  pub within : All (IsWithin vars) lits
  pub few : vars ≤ 199999999
  pub limits : IsStepWithin vars (Add id lits hints [])
  pub text : new ≡ old ++ line_of id (Add id lits hints [])

-- a lemma that has no live clause as a subset was written to the log and added to the live clauses, under the number `id`
pub record Learns (vars id : ℕ) (old new : Live) (before after : List ℕ) : Type 0 where
  pub lits : Clause
  pub written : IsWritten old vars id lits before after
  pub is_new : IsNew old lits
  pub added : IsAdded old id lits new

-- the clauses m, trail t and log of a search over the base B, after n lemmas
pub record IsSearch (B : Cnf) (n : ℕ) (m : Clauses) (t : TrailValue) (text : List ℕ) : Type 0 where
  pub vars : t.vars ≡ B.vars
  pub below : AreBelow (length B.clauses + 1 + n) (live_of m)
  pub kept : (k : ℕ) (C : Clause) → live_in (map_of B) k C → (D : Clause) × live_of m k D × AreTwins C D
  pub learnt : IsLearnt B text n (live_of m)

-- What a coordinator is after clauses were added to its formula.
use Rattle.std.specs.Prelude.{◌≡◌, ℕ, [], ◌∷◌, length}
use Rattle.dimacs.specs.logic.Cnf.{Cnf, FitsIn, IsFormula}
use Rattle.dimacs.specs.logic.Extension.{extended}
use Rattle.dimacs.specs.logic.Limits.{written}
use Rattle.lrat_check.specs.declared.verdict.Reaction.{Reaction}
use Rattle.lrat_check.specs.declared.verdict.Reaction.TheVariants as reaction
use Rattle.lrat_check.specs.declared.verdict.Verdict.{Verdict}
use Rattle.cube_split.specs.Pairs.{Definitions, AreOf}
use Rattle.evidence.specs.KeptVerdict.{KeptVerdict}
use Rattle.coordinator_core.specs.Coordinator.{CoordinatorState, new_coordinator}

-- `new` is the coordinator as newly made from the extended formula, with as many definitions and a tree of one leaf, in this session,
-- except that it holds the verdict `held`
pub record IsExtended (c : CoordinatorState) (x : Cnf) (session : ℕ) (held : Verdict) (new : CoordinatorState) : Type 0 where
  pub definitions : Definitions
  pub wanted : definitions.wanted ≡ c.definitions.wanted
  pub defined : AreOf (extended c.formula x) definitions
  pub made : new ≡ record (new_coordinator (extended c.formula x) ([] ∷ []) c.limit (length c.jobs) session) { definitions = definitions; verdict = held }

-- The clauses of x are to be added to the formula of the coordinator c, which is to be restarted in this session.
pub data ExtendsCoordinator (c : CoordinatorState) (x : Cnf) (session : ℕ) (answer : Reaction) (new : CoordinatorState) : Type 0 where
  -- the extended formula would exceed a written limit
  too_large : ¬ (FitsIn written (extended c.formula x)) → answer ≡ reaction.Refused 4 → new ≡ c → ExtendsCoordinator c x session answer new
  -- the coordinator is restarted, and holds what is kept of its verdict
  taken : IsFormula (extended c.formula x) × FitsIn written (extended c.formula x) → (held : Verdict) → KeptVerdict c.formula x c.verdict held → answer ≡ reaction.Taken → IsExtended c x session held new → ExtendsCoordinator c x session answer new
  -- memory was refused
  no_memory : FitsIn written (extended c.formula x) → answer ≡ reaction.NoMemory → new ≡ c → ExtendsCoordinator c x session answer new

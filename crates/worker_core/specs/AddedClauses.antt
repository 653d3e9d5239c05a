-- What a worker is after clauses were added to its formula.
use Rattle.std.specs.Prelude.{◌≡◌, ℕ}
use Rattle.dimacs.specs.logic.Cnf.{Cnf, FitsIn, IsFormula}
use Rattle.dimacs.specs.logic.Extension.{extended}
use Rattle.dimacs.specs.logic.Limits.{written}
use Rattle.lrat_check.specs.declared.verdict.Reaction.{Reaction}
use Rattle.lrat_check.specs.declared.verdict.Reaction.TheVariants as reaction
use Rattle.lrat_check.specs.declared.verdict.Verdict.{Verdict}
use Rattle.cube_split.specs.Pairs.{IsBaseWith}
use Rattle.evidence.specs.KeptVerdict.{KeptVerdict}
use Rattle.worker_core.specs.Worker.{WorkerState, new_worker}

-- `new` is the worker as newly made from the extended formula, with as many definitions, under this incarnation, except that it holds
-- the verdict `held`
pub record IsExtended (w : WorkerState) (x : Cnf) (incarnation : ℕ) (held : Verdict) (new : WorkerState) : Type 0 where
  pub base : Cnf
  pub with_definitions : IsBaseWith (extended w.formula x) w.wanted base
  pub made : new ≡ record (new_worker (extended w.formula x) w.number incarnation) { wanted = w.wanted; base = base; verdict = held }

-- The clauses of x are to be added to the formula of the worker w, which is to be restarted under this incarnation.
pub data ExtendsWorker (w : WorkerState) (x : Cnf) (incarnation : ℕ) (answer : Reaction) (new : WorkerState) : Type 0 where
  -- the extended formula would exceed a written limit
  too_large : ¬ (FitsIn written (extended w.formula x)) → answer ≡ reaction.Refused 4 → new ≡ w → ExtendsWorker w x incarnation answer new
  -- the worker is restarted, and holds what is kept of its verdict
  taken : IsFormula (extended w.formula x) × FitsIn written (extended w.formula x) → (held : Verdict) → KeptVerdict w.formula x w.verdict held → answer ≡ reaction.Taken → IsExtended w x incarnation held new → ExtendsWorker w x incarnation answer new
  -- memory was refused
  no_memory : FitsIn written (extended w.formula x) → answer ≡ reaction.NoMemory → new ≡ w → ExtendsWorker w x incarnation answer new

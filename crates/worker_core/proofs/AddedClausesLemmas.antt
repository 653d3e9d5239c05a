-- Clauses are added to the formula of a worker.
use Rattle.std.proofs.Common.{◌≡◌, ℕ, refl, sym, ap, subst, ◌∙◌}
use Rattle.dimacs.specs.logic.Cnf.{Cnf}
use Rattle.dimacs.specs.logic.Extension.{extended}
use Rattle.lrat_check.specs.Verdicts.{Right}
use Rattle.lrat_check.specs.declared.verdict.Reaction.{Reaction}
use Rattle.lrat_check.specs.declared.verdict.Reaction.TheVariants.{Taken}
use Rattle.lrat_check.specs.declared.verdict.Verdict.{Verdict}
use Rattle.cube_split.specs.Pairs.{IsBaseWith}
use Rattle.evidence.specs.KeptVerdict.{IsGrown, KeptVerdict}
use Rattle.evidence.specs.declared.kept_verdict.Grown.{Grown}
use Rattle.worker_core.specs.AddedClauses.{ExtendsWorker}
use Rattle.worker_core.specs.Laws.{HoldsRight}
use Rattle.worker_core.specs.Worker.{WorkerState, new_worker}

-- what is kept of a right verdict is right
abbrev pub KeepsRight : Type 0
KeepsRight = (F x : Cnf) (old new : Verdict) → Right F old → KeptVerdict F x old new → Right (extended F x) new

-- the worker is restarted with the longer formula, over a base of it with as many definitions
abbrev pub BeginsGrown : WorkerState → Grown → ℕ → WorkerState → Type 0
BeginsGrown w g n new =
    (B : Cnf) × IsBaseWith g.formula w.wanted B × (new ≡ record (new_worker g.formula w.number n) { wanted = w.wanted; base = B; verdict = g.verdict })

pub begins_grown : (w : WorkerState) (x : Cnf) (n : ℕ) (g : Grown) (new : WorkerState) → IsGrown w.formula x w.verdict g → BeginsGrown w g n new → ExtendsWorker w x n Taken new
begins_grown w x n g new is h =
    ExtendsWorker.taken (is.limits, is.fits) g.verdict is.stays refl
    (record {
      base = h.0;
      with_definitions = subst (λ (F : Cnf). IsBaseWith F w.wanted h.0) is.formula h.1;
      made = h.2 ∙ ap (λ (F : Cnf). record (new_worker F w.number n) { wanted = w.wanted; base = h.0; verdict = g.verdict }) is.formula;
    })

pub extended_right : KeepsRight → (old : WorkerState) (x : Cnf) (n : ℕ) (answer : Reaction) (new : WorkerState) → ExtendsWorker old x n answer new → HoldsRight old → HoldsRight new
extended_right keeps old x n answer new (ExtendsWorker.too_large large a now) right = subst HoldsRight (sym now) right
extended_right keeps old x n answer new (ExtendsWorker.taken limits held stays a anew) right = subst HoldsRight (sym anew.made) (keeps old.formula x old.verdict held right stays)
extended_right keeps old x n answer new (ExtendsWorker.no_memory limits a now) right = subst HoldsRight (sym now) right

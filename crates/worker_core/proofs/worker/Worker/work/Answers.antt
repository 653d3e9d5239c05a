use Rattle.std.proofs.Common.{◌≡◌, ◌∙◌, refl, ap, subst, sym}
use Rattle.std.specs.Prelude.{unwrap_or}
use Rattle.dimacs.specs.logic.Cnf.{Cnf}
use Rattle.icnf.specs.Leaves.{Cube}
use Rattle.worker_core.specs.inner.Invariant.{IsWork}
use Rattle.worker_core.specs.Worker.{MayEnd, WorkerWorks, kept}
use Rattle.worker_core.proofs.SearchLemmas.{as_many_vars, kept_is_work, finishes}
use Rattle.worker_core.proofs.worker.Worker.work.Goals as goal

pub returns-in_default-search : goal.returns-in_default-search
returns-in_default-search c =
    record { step = WorkerWorks.no_memory c.in-Pending.name c.in-Pending.cube c.in-Pending.limit (ap (λ w. w.work) (sym c.self.view_is) ∙ c.in-Pending.is) refl refl }

pub returns-in_default-work_of : goal.returns-in_default-work_of
returns-in_default-work_of c =
    record { step = WorkerWorks.no_memory c.in-Pending.name c.in-Pending.cube c.in-Pending.limit (ap (λ w. w.work) (sym c.self.view_is) ∙ c.in-Pending.is) refl refl }

pub invariant_of-self : goal.invariant_of-self
invariant_of-self c =
    let F = c.self.inside.formula in
    let B = unwrap_or c.self.inside.base F in
    let inv = c.self.invariant in
    let ends : MayEnd B c.in-Pending.cube c.in-Pending.limit c.in-Ok.end
    = subst (λ (q : Cube). MayEnd B q c.in-Pending.limit c.in-Ok.end) c.as_slice.ensures.value
    (subst (λ (b : Cnf). MayEnd b c.as_slice.result.now c.in-Pending.limit c.in-Ok.end) c.base_or-base.ensures c.in-Ok.ensures) in
    let same : c.in-Ok-work_of.work ≡ kept c.in-Pending.name F.vars c.in-Ok.end
    = c.in-Ok-work_of.ensures ∙ ap (λ n. kept c.in-Pending.name n c.in-Ok.end) c.vars.ensures.value in
    record {
      base_is = inv.base_is;
      few = inv.few;
      right = inv.right;
      work_is = subst (IsWork F B) (sym same) (kept_is_work F B c.in-Pending.name c.in-Pending.cube c.in-Pending.limit c.in-Ok.end
          (as_many_vars F c.self.inside.defs B inv.base_is) ends);
      candidate_is = inv.candidate_is;
      follows = inv.follows;
    }

pub returns : goal.returns
returns c =
    let F = c.self.inside.formula in
    let B = unwrap_or c.self.inside.base F in
    let ends : MayEnd B c.in-Pending.cube c.in-Pending.limit c.in-Ok.end
    = subst (λ (q : Cube). MayEnd B q c.in-Pending.limit c.in-Ok.end) c.as_slice.ensures.value
    (subst (λ (b : Cnf). MayEnd b c.as_slice.result.now c.in-Pending.limit c.in-Ok.end) c.base_or-base.ensures c.in-Ok.ensures) in
    let same : c.in-Ok-work_of.work ≡ kept c.in-Pending.name F.vars c.in-Ok.end
    = c.in-Ok-work_of.ensures ∙ ap (λ n. kept c.in-Pending.name n c.in-Ok.end) c.vars.ensures.value in
    record {
      step = rw (← c.self.view_is) (finishes _ c.in-Pending.name c.in-Pending.cube c.in-Pending.limit c.in-Ok.end c.in-Ok-work_of.work c.in-Pending.is
          ends same);
    }

use Rattle.std.proofs.Common.{◌≡◌, ◌*◌, ◌⊎◌, []}
use Rattle.lrat_check.specs.declared.verdict.Verdict.TheVariants.{Nothing}
use Rattle.runs.specs.Accounts.{RoseBy}
use Rattle.runs.specs.inner.Accounts.{Refuses, RoseWithin}
use Rattle.runs.proofs.worker_run.answer_all.Given as goal

abbrev pub invariant-loop : goal.invariant-loop
invariant-loop g l = record {
  formula : l.local.worker.formula ≡ l.fn.local.worker.formula;
  calls : RoseWithin 0 (4038 * l.counter) (g.L.Links.call_count l.fn.links) (g.L.Links.call_count l.links);
  two : ((l.local.inbox.waiting.items ≡ []) × (l.local.worker.verdict ≡ Nothing)) ⊎ RoseBy 2 (g.L.Links.call_count l.fn.links) (g.L.Links.call_count l.links);
  refusals : Refuses g.L.Links.refusal_count g.L.Links.refused_at l.fn.number 0 0 l.fn.links l.links;
}

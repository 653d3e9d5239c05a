use Rattle.std.proofs.Common.{◌∙◌, sym, subst}
use Rattle.std.proofs.lemmas.List.{nil_from_length}
use Rattle.worker_core.specs.inner.Invariant.{HasTakenPrefix}
use Rattle.worker_core.proofs.candidate_check.checker_for.Goals as goal

pub returns-then-eq : goal.returns-then-eq
returns-then-eq c =
    subst (HasTakenPrefix c.args.formula.now c.in_ok-new.field-0) (sym (nil_from_length c.args.candidate.now.evidence.bytes (sym c.len.ensures ∙ c.if-len-eq0.true))) c.in_ok-new.ensures

use Rattle.std.proofs.Common.{ℕ, List, IfOk, MatchOption, subst, ◌∙◌}
use Rattle.proof_join.specs.RenumberedProof.{Renumbers}
use Rattle.evidence.proofs.kept_verdict.renumbered.Goals as goal

pub returns : goal.returns
returns c =
    subst
    (λ (t : List ℕ). IfOk c.renumber.result (λ found. MatchOption found ((new : List ℕ) → ¬ (Renumbers c.args.old c.args.more t new)) (λ new. Renumbers c.args.old c.args.more t new.items)))
    (c.deref.ensures.value ∙ c.in_ok-whole.ensures) c.renumber.ensures

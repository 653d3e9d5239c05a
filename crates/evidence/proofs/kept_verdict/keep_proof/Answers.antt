use Rattle.std.proofs.Common.{ℕ, List}
use Rattle.proof_join.specs.RenumberedProof.{Renumbers}
use Rattle.evidence.proofs.KeptVerdictLemmas.{text_judged, no_text, of_none, of_some}
use Rattle.evidence.proofs.kept_verdict.keep_proof.Goals as goal

pub returns-in-None : goal.returns-in-None
returns-in-None c = λ F x grown o m.
    no_text F x c.args.old c.args.more c.args.text.now o m
    (of_none ((new : List ℕ) → ¬ (Renumbers c.args.old c.args.more c.args.text.now new)) (λ new. Renumbers c.args.old c.args.more c.args.text.now new.items) c.in_ok-renumbered.field-0 c.in-None.is c.in_ok-renumbered.ensures)

pub returns-in-Some : goal.returns-in-Some
returns-in-Some c =
    text_judged c.args.formula.now c.args.old c.args.more c.args.text.now c.in-Some.raised.items c.held_if_accepted.result
    (of_some ((new : List ℕ) → ¬ (Renumbers c.args.old c.args.more c.args.text.now new)) (λ new. Renumbers c.args.old c.args.more c.args.text.now new.items) c.in_ok-renumbered.field-0 c.in-Some.raised c.in-Some.is c.in_ok-renumbered.ensures)
    c.held_if_accepted.ensures

use Rattle.lrat_check.specs.declared.verdict.Verdict.TheVariants.{Model}
use Rattle.evidence.proofs.KeptVerdictLemmas.{of_verdict, of_text}
use Rattle.evidence.proofs.kept_verdict.keep_verdict.Goals as goal

pub returns-in-Model : goal.returns-in-Model
returns-in-Model c = of_verdict c.args.formula.now c.args.extension.now c.args.grown.now c.args.verdict.now (Model c.in-Model.values) c.keep_values.result c.in-Model.is c.requires.grown c.keep_values.ensures

pub returns-in-Proof : goal.returns-in-Proof
returns-in-Proof c =
    of_text c.args.formula.now c.args.extension.now c.args.grown.now c.args.verdict.now c.in-Proof.text c.len.result c.len-in-Proof.result c.keep_proof.result
    c.in-Proof.is c.requires.grown c.len.ensures c.len-in-Proof.ensures.value c.keep_proof.ensures

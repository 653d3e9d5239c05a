use Rattle.std.proofs.Common.{refl}
use Rattle.std.proofs.lemmas.Result.{IfOk-weaker}
use Rattle.formula_search.specs.Decisions.{DecidesTo}
use Rattle.commands.specs.inner.FoundProof.{HasText}
use Rattle.commands.proofs.DecideLemmas.{decides_weaker}
use Rattle.commands.proofs.FoundProofLemmas.{has_at}
use Rattle.commands.proofs.decide.search_to_file.Goals as goal

pub returns-clause-decides : goal.returns-clause-decides
returns-clause-decides g c =
    let made = g.D.Drafts.made in
    let F = c.args.formula.now in
    let asked = c.args.asked in
    let sink = c.decide_to-answer.new.sink in
    let same = c.if-not-is_same_target.ensures refl in
    IfOk-weaker c.decide_to-answer.result (DecidesTo F asked (λ text. HasText made sink.target text sink.proof.part sink.proof.held.text))
    (DecidesTo F asked (λ text. HasText made c.args.target text sink.proof.part sink.proof.held.text))
    (λ r. decides_weaker F asked _ _ r (λ is text. has_at made sink.target c.args.target text sink.proof.part sink.proof.held.text same.0 same.1))
    c.decide_to-answer.ensures.decides

use Rattle.std.proofs.Common.{◌≡◌, ◌∙◌, [], sym, ap}
use Rattle.std.specs.Result.{result_err}
use Rattle.proof_check.specs.FirstFault.{behind_steps}
use Rattle.proof_check.specs.Stream.{Within, check_more, progress_of}
use Rattle.proof_check.proofs.StreamLemmas.{ends, not_memory}
use Rattle.proof_check.proofs.stream.BinaryChecker.finish.Goals as goal

pub returns : goal.returns
returns c =
    let s = c.self.inside.steps.checker in
    let n = c.self.inside.steps.number in
    let begun = c.self.inside.begun in
    let rest = c.finish.result in
    let now : Within s n begun ≡ c.args.self.now = ap (λ o. progress_of o s n begun) (sym c.in_default.is) ∙ c.self.view_is in
    c.end.ensures (not_memory begun rest c.finish.ensures) ∙ ap (λ refuted. behind_steps refuted n (result_err rest)) c.refuted.ensures ∙ ends s n begun rest c.finish.ensures ∙ ap (λ p. check_more p []) now

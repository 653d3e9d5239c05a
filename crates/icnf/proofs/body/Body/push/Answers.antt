use Rattle.std.proofs.Common.{◌∙◌, ap}
use Rattle.icnf.specs.ReadState.{ReadState}
use Rattle.icnf.proofs.BodyLemmas.{read_push}
use Rattle.icnf.proofs.body.Body.push.Goals as goal

pub invariant_of-self-2 : goal.invariant_of-self-2
invariant_of-self-2 c =
    read_push c.self.inside.limits c.self.inside.walk c.self.inside.clauses c.push.new.self c.args.literal (ap (λ (s : ReadState). s.walk.stage) c.self.view_is ∙ c.requires.clauses) c.requires.within c.self.invariant c.in_ok-push.ensures.ok

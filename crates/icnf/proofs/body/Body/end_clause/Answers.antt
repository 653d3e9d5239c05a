use Rattle.std.proofs.Common.{◌∙◌, ap}
use Rattle.icnf.specs.ReadState.{ReadState}
use Rattle.icnf.proofs.BodyLemmas.{read_end}
use Rattle.icnf.proofs.body.Body.end_clause.Goals as goal

pub invariant_of-self-2 : goal.invariant_of-self-2
invariant_of-self-2 c =
    read_end c.self.inside.limits c.self.inside.walk c.self.inside.clauses c.end_clause.new.self (ap (λ (s : ReadState). s.walk.stage) c.self.view_is ∙ c.requires.clauses) c.self.invariant c.in_ok-end_clause.ensures.ok

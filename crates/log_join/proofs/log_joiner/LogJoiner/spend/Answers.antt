use Rattle.std.proofs.Common.{◌≡◌, ◌∙◌, ℕ, ap}
use Rattle.proof_join.specs.RenumberedSteps.{behind}
use Rattle.log_join.proofs.SettlingLemmas.{refused_one}
use Rattle.log_join.proofs.log_joiner.LogJoiner.spend.Goals as goal

pub returns-clause-spent : goal.returns-clause-spent
returns-clause-spent c = λ F cubes logs log n written e up none some.
    let id : c.in-Some.moved ≡ behind c.args.self.now.base c.args.self.now.begun c.args.number =
    c.in-Some.ensures.1 ∙ ap (λ (b : ℕ). behind b c.shift.result.begun c.args.number) c.shift.ensures.base ∙ ap (λ (t : ℕ). behind c.args.self.now.base t c.args.number) c.shift.ensures.begun in
    refused_one F cubes logs log n c.args.number written c.args.self.now c.delete.new.self e up none some c.in-Some.moved id c.in_ok-delete.ensures

use Rattle.std.proofs.Common.{◌≡◌, ◌∙◌, ℕ, sym, ap}
use Rattle.proof_join.specs.RenumberedSteps.{behind}
use Rattle.log_join.proofs.SettlingLemmas.{closed_one, spent_one, told_is}
use Rattle.log_join.proofs.log_joiner.LogJoiner.settle.Goals as goal

pub returns-then-closed-clause-settled : goal.returns-then-closed-clause-settled
returns-then-closed-clause-settled c = λ F cubes logs log n written e up none live.
    let id : c.in-Some.id ≡ behind c.args.self.now.base c.args.self.now.begun c.args.number =
    c.in-Some.ensures.1 ∙ ap (λ (b : ℕ). behind b c.shift.result.begun c.args.number) c.shift.ensures.base ∙ ap (λ (t : ℕ). behind c.args.self.now.base t c.args.number) c.shift.ensures.begun in
    closed_one F cubes logs log n c.args.number c.args.lits.now written c.args.self.now c.close.new.self e up live c.in-Some.id id c.in_ok-closed.closed c.in_ok-closed.ensures none c.if-closed.true

pub returns-then-closed-clause-told : goal.returns-then-closed-clause-told
returns-then-closed-clause-told c = λ F cubes logs log n written e up live.
    let id : c.in-Some.id ≡ behind c.args.self.now.base c.args.self.now.begun c.args.number =
    c.in-Some.ensures.1 ∙ ap (λ (b : ℕ). behind b c.shift.result.begun c.args.number) c.shift.ensures.base ∙ ap (λ (t : ℕ). behind c.args.self.now.base t c.args.number) c.shift.ensures.begun in
    sym c.if-closed.true ∙ told_is F cubes logs log n c.args.number c.args.lits.now written c.args.self.now c.close.new.self e up live c.in-Some.id id c.in_ok-closed.closed c.in_ok-closed.ensures

pub returns-clause-settled : goal.returns-clause-settled
returns-clause-settled c = λ F cubes logs log n written e up none live.
    let id : c.in-Some.id ≡ behind c.args.self.now.base c.args.self.now.begun c.args.number =
    c.in-Some.ensures.1 ∙ ap (λ (b : ℕ). behind b c.shift.result.begun c.args.number) c.shift.ensures.base ∙ ap (λ (t : ℕ). behind c.args.self.now.base t c.args.number) c.shift.ensures.begun in
    spent_one F cubes logs log n c.args.number c.args.lits.now written c.args.self.now c.close.new.self e up live c.in-Some.id id c.in_ok-closed.closed c.in_ok-closed.ensures none c.if-closed.false c.delete.new.self c.in_ok-delete.ensures

pub returns-clause-told : goal.returns-clause-told
returns-clause-told c = λ F cubes logs log n written e up live.
    let id : c.in-Some.id ≡ behind c.args.self.now.base c.args.self.now.begun c.args.number =
    c.in-Some.ensures.1 ∙ ap (λ (b : ℕ). behind b c.shift.result.begun c.args.number) c.shift.ensures.base ∙ ap (λ (t : ℕ). behind c.args.self.now.base t c.args.number) c.shift.ensures.begun in
    sym c.if-closed.false ∙ told_is F cubes logs log n c.args.number c.args.lits.now written c.args.self.now c.close.new.self e up live c.in-Some.id id c.in_ok-closed.closed c.in_ok-closed.ensures

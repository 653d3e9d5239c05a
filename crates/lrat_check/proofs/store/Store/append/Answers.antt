use Rattle.std.proofs.Common.{◌≡◌, ◌∙◌, ap, length, vec_len}
use Rattle.lrat_check.specs.inner.Store.{tables_of}
use Rattle.lrat_check.proofs.Slots.{live-appended}
use Rattle.lrat_check.proofs.store.Store.append.Goals as goal

pub returns-clause-same : goal.returns-clause-same
returns-clause-same c =
    live-appended c.append.result (λ s. s.place ≡ vec_len c.self.inside.tables.literals) (λ s. s.len ≡ length c.args.lits.now) (tables_of c.self.inside.tables) c.args.lits.now c.append.new.literals.items
    c.self.invariant c.append.ensures.ok c.append.ensures.err
    ∙ ap (λ v. v.live) c.self.view_is

use Rattle.std.proofs.Common.{◌≡◌, ◌∙◌, [], ap}
use Rattle.dimacs.specs.logic.Cnf.{Cnf}
use Rattle.cell_worker.proofs.KeptLemmas.{numbered_none, numbered_skipped}
use Rattle.cell_worker.proofs.kept_session.session_over.Goals as goal

pub give_all-requires-clause-none : goal.give_all-requires-clause-none
give_all-requires-clause-none g c =
    let k = c.args.kept.now in
    let e = c.in_ok-search.ensures in
    let none : (c.as_base.result.now).clauses ≡ [] = ap (λ (f : Cnf). f.clauses) (c.as_base.ensures ∙ c.in_ok-none.ensures) ∙ ap (λ b. b.done) c.in_ok-new.ensures in
    numbered_none k.formula.clauses k.numbers.items c.as_base.result.now c.in_ok-search.search none e.last e.known

pub returns-clause-known : goal.returns-clause-known
returns-clause-known g c =
    let k = c.args.kept.now in
    let e = c.in_ok-skip_to.ensures in
    numbered_skipped k.formula.clauses k.numbers.items c.give_all.new.search c.skip_to.new.self k.all e.last e.known c.in_ok-give_all.ensures.known

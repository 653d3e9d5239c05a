use Rattle.std.proofs.Common.{ap, sym, ◌∙◌, subst, arith, swap}
use Rattle.std.specs.FinMap.{get}
use Rattle.clause_arena.specs.Clauses.{Clauses}
use Rattle.watches.specs.Law.{SameUpToOrder}
use Rattle.watches.proofs.Added.{others}
use Rattle.watches.proofs.ListWalkLemmas.{same_swapped}
use Rattle.watches.proofs.watched.watch_choice.put_best.Goals as goal

pub returns-clause-same : goal.returns-clause-same
returns-clause-same c =
    let C = c.requires.live.0 in
    let st = c.requires.live.1 in
    subst (SameUpToOrder c.args.arena.now) (sym (c.swap.ensures C st))
    (same_swapped c.args.arena.now c.args.at C c.args.from c.best_from-best.result st (omega (arith, st.1, c.requires.from_in)) (omega (arith, st.1, c.clause.ensures.len, c.best_from-best.ensures)))

pub returns-clause-others : goal.returns-clause-others
returns-clause-others c = λ n d.
    let C = c.requires.live.0 in
    ap (λ (m : Clauses). get m n) (c.swap.ensures C c.requires.live.1) ∙ others c.args.arena.now c.args.at.number n (c.args.at.place, swap C c.args.from c.best_from-best.result) d

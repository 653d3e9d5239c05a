use Rattle.dimacs.specs.logic.Literal.{IsWithin}
use Rattle.watches.proofs.LawLemmas.{same_trans}
use Rattle.watches.proofs.ReorderedLemmas.{all_same}
use Rattle.watches.proofs.watched.watch_choice.put_best_first.Goals as goal

pub put_best-requires-2-clause-within : goal.put_best-requires-2-clause-within
put_best-requires-2-clause-within c = λ D h.
    let C = c.requires.live.0 in
    let st = c.requires.live.1 in
    all_same (IsWithin c.args.trail.now.vars) c.args.arena.now c.put_best.new.arena c.args.at C D c.put_best.ensures.same st h (c.requires.within C st)

pub returns-clause-same : goal.returns-clause-same
returns-clause-same c = same_trans c.args.arena.now c.put_best.new.arena c.put_best-2.new.arena c.put_best.ensures.same c.put_best-2.ensures.same

use Rattle.std.proofs.Common.{subst}
use Rattle.std.specs.List.{Contains}
use Rattle.conflict_analysis.proofs.FoundClauseLemmas.{found_lives}
use Rattle.conflict_analysis.proofs.final_analysis.mark_number.Goals as goal

pub mark_clause-requires-clause-known : goal.mark_clause-requires-clause-known
mark_clause-requires-clause-known c = λ k h.
    let f = c.in-Some.ensures.some in
    let s = f.1 in
    c.requires.known s.0 (found_lives c.args.arena.now c.in-Some.at c.args.number s.0 f.0 s.1) k (subst (λ X. Contains X k) (c.clause.ensures.literals s.0 s.1) h)

pub mark_clause-requires-clause-sized : goal.mark_clause-requires-clause-sized
mark_clause-requires-clause-sized c = λ k h.
    let f = c.in-Some.ensures.some in
    let s = f.1 in
    c.requires.sized s.0 (found_lives c.args.arena.now c.in-Some.at c.args.number s.0 f.0 s.1) k (subst (λ X. Contains X k) (c.clause.ensures.literals s.0 s.1) h)

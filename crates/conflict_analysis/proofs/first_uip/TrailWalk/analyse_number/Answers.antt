use Rattle.std.proofs.Common.{sym, subst}
use Rattle.std.specs.List.{All, Contains}
use Rattle.dimacs.specs.logic.Literal.{IsWithin}
use Rattle.conflict_analysis.proofs.FoundClauseLemmas.{found_lives}
use Rattle.conflict_analysis.proofs.first_uip.TrailWalk.analyse_number.Goals as goal

pub analyse_clause-requires-clause-known : goal.analyse_clause-requires-clause-known
analyse_clause-requires-clause-known c = λ k h.
    let f = c.in-Some.ensures.some in
    let s = f.1 in
    c.requires.known s.0 (found_lives c.args.arena.now c.in-Some.at c.args.number s.0 f.0 s.1) k (subst (λ X. Contains X k) (c.clause.ensures.literals s.0 s.1) h)

pub analyse_clause-requires-clause-within : goal.analyse_clause-requires-clause-within
analyse_clause-requires-clause-within c =
    let f = c.in-Some.ensures.some in
    let s = f.1 in
    subst (All (IsWithin c.args.trail.now.vars)) (sym (c.clause.ensures.literals s.0 s.1)) (c.requires.inside c.args.number s.0 (found_lives c.args.arena.now c.in-Some.at c.args.number s.0 f.0 s.1))

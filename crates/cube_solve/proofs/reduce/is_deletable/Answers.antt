use Rattle.std.proofs.Common.{◌≡◌, ◌<◌, [], Some, length, sym, subst, ◌∙◌}
use Rattle.std.specs.List.{All, Contains}
use Rattle.dimacs.specs.logic.Literal.{Clause, IsWithin}
use Rattle.clause_arena.specs.Clauses.{live_of}
use Rattle.clause_arena.proofs.ClauseLaws.{live_once}
use Rattle.watches.specs.declared.trail.Assigned.{Assigned}
use Rattle.cube_solve.specs.inner.Reduction.{IsDeletable}
use Rattle.cube_solve.proofs.ReductionLemmas.{on_true_not, reason_in}
use Rattle.cube_solve.proofs.reduce.is_deletable.Goals as goal

pub is_reason-requires : goal.is_reason-requires
is_reason-requires c =
    let s = c.in-Some.ensures.some.1 in
    subst (All (IsWithin c.args.trail.now.vars)) (sym (c.clause-clause.ensures.literals s.0 s.1)) (c.requires.inside c.in-Some.at.number s.0 (c.in-Some.at.place, s.1.0))

pub returns-then-clause-gt2 : goal.returns-then-clause-gt2
returns-then-clause-gt2 c =
    let s = c.in-Some.ensures.some.1 in
    let lives : live_of c.args.arena.now c.args.number s.0 = subst (λ n. live_of c.args.arena.now n s.0) c.in-Some.ensures.some.0 (c.in-Some.at.place, s.1.0) in
    on_true_not c.is_reason.result
    ((e : Assigned) → Contains c.args.trail.now.entries e → Contains c.clause-clause.result.now e.literal → ¬ (e.reason ≡ Some c.args.number))
    (IsDeletable (live_of c.args.arena.now) c.args.trail.now.entries c.args.number)
    (λ f. record {
      clause = s.0;
      lives = lives;
      long = subst (λ (C : Clause). 2 < length C) (c.clause-clause.ensures.literals s.0 s.1) c.if-clause-gt2.true;
      free = λ e i r.
          let d = reason_in (live_of c.args.arena.now) [] c.args.trail.now.entries c.requires.built e i c.args.number r in
          f e i (subst (λ (C : Clause). Contains C e.literal) (live_once c.args.arena.now c.args.number d.0 s.0 d.1 lives ∙ sym (c.clause-clause.ensures.literals s.0 s.1)) d.2) r;
    })
    c.is_reason.ensures

use Rattle.std.proofs.Common.{ℕ, List, subst}
use Rattle.std.specs.List.{All, Contains}
use Rattle.std.proofs.lemmas.List.Elements.{All-contains, All-weaker}
use Rattle.clause_arena.specs.Clauses.{live_of}
use Rattle.cube_solve.specs.inner.Reduction.{IsDeletable}
use Rattle.cube_solve.proofs.reduce.least_useful.Goals as goal

pub returns-clause-among : goal.returns-clause-among
returns-clause-among c =
    let spare = c.in_ok-spare.spare.items in
    All-weaker (Contains spare) (Contains c.args.lemmas.now) (λ n i. All-contains (Contains c.args.lemmas.now) spare n c.in_ok-spare.ensures.among i) c.in_ok-least.least.items
    (subst (λ (xs : List ℕ). All (Contains xs) c.in_ok-least.least.items) c.deref.ensures.value c.in_ok-least.ensures.among)

pub returns-clause-spare : goal.returns-clause-spare
returns-clause-spare c =
    let spare = c.in_ok-spare.spare.items in
    let is_deletable = IsDeletable (live_of c.args.arena.now) c.args.trail.now.entries in
    All-weaker (Contains spare) is_deletable (λ n i. All-contains is_deletable spare n c.in_ok-spare.ensures.spare i) c.in_ok-least.least.items
    (subst (λ (xs : List ℕ). All (Contains xs) c.in_ok-least.least.items) c.deref.ensures.value c.in_ok-least.ensures.among)

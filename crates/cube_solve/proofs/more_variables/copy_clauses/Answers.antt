use Rattle.std.proofs.Common.{◌≡◌, ◌+◌, refl, sym, subst, arith}
use Rattle.std.specs.List.{All}
use Rattle.dimacs.specs.logic.Literal.{IsWithin}
use Rattle.clause_arena.specs.Clauses.{live_of}
use Rattle.cube_solve.specs.inner.CopiedClauses.{AreCopied}
use Rattle.cube_solve.proofs.CopiedClauseLemmas.{moved_all, moved_below, moved_none}
use Rattle.cube_solve.proofs.more_variables.copy_clauses.Goals as goal

pub loop-id-init : goal.loop-id-init
loop-id-init g c = record {
  steady = c.requires.steady;
  noted = c.requires.noted;
  vars = refl;
  moved = moved_none (live_of c.args.arena.now) (live_of c.args.search.now.state.arena) (c.args.top + 1) c.requires.below c.requires.none;
  low = omega arith;
  high = omega arith;
}

pub copy_clause-requires-clause-within : goal.copy_clause-requires-clause-within
copy_clause-requires-clause-within g c = λ C i. subst (λ v. All (IsWithin v) C) (sym c.loop-id.invariant.vars) (c.requires.within c.loop-id.id C i)

pub copy_clause-requires-clause-numbers : goal.copy_clause-requires-clause-numbers
copy_clause-requires-clause-numbers g c = moved_below (live_of c.args.arena.now) (live_of c.loop-id.search.state.arena) (c.args.top + 1) c.loop-id.id c.requires.below c.loop-id.invariant.moved

pub returns-clause-linked : goal.returns-clause-linked
returns-clause-linked g c =
    let e : c.loop-id.id ≡ c.args.top + 1 = (let a = c.loop-id.invariant.high in let b = c.loop-id-test.false in omega arith) in
    moved_all (live_of c.args.arena.now) (live_of c.loop-id.search.state.arena) (c.args.top + 1) c.requires.below
    (subst (λ n. AreCopied n (live_of c.args.arena.now) (live_of c.loop-id.search.state.arena)) e c.loop-id.invariant.moved)

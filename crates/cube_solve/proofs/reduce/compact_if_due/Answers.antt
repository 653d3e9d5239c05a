use Rattle.std.proofs.Common.{List, sym, subst, ap, ◌++◌, ◌∙◌}
use Rattle.clause_arena.specs.Compaction.{IsCompacted}
use Rattle.clause_arena.specs.declared.reference.Ref.{Ref}
use Rattle.clause_arena.proofs.ClauseLaws.{compacted_live, compacted_was}
use Rattle.dimacs.proofs.Members.{Contains-nil}
use Rattle.cube_solve.proofs.ReductionLemmas.{state_moved}
use Rattle.cube_solve.proofs.reduce.compact_if_due.Goals as goal

pub returns-clause-less : goal.returns-clause-less
returns-clause-less g c =
    let o = c.in_ok-compact.ensures.ok in
    record {
      stays = λ n C h out. compacted_live c.args.arena.now c.compact.new.self o.0 o.2 n C h;
      was = λ n C h. (Contains-nil n, compacted_was c.args.arena.now c.compact.new.self o.0 o.2 n C h);
    }

pub returns-clause-state : goal.returns-clause-state
returns-clause-state g c =
    let o = c.in_ok-compact.ensures.ok in
    let same : IsCompacted c.args.arena.now c.compact.new.self c.deref.result.now =
    subst (λ (xs : List (Ref × Ref)). IsCompacted c.args.arena.now c.compact.new.self xs)
    (sym (c.deref.ensures.value ∙ o.1 ∙ ap (λ (xs : List (Ref × Ref)). xs ++ o.0) c.new-moves.ensures.items)) o.2 in
    state_moved c.args.arena.now c.compact.new.self _ _ c.args.trail.now
    (record {
      stays = λ n C h out. compacted_live c.args.arena.now c.compact.new.self o.0 o.2 n C h;
      was = λ n C h. (Contains-nil n, compacted_was c.args.arena.now c.compact.new.self o.0 o.2 n C h);
    })
    (c.moved.ensures.attached c.args.arena.now c.compact.new.self same) c.requires.state

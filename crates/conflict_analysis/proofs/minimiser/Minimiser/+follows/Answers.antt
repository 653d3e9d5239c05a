use Rattle.std.proofs.Common.{ℕ, arith, sym, subst}
use Rattle.std.specs.List.{All}
use Rattle.std.proofs.lemmas.List.Elements.{All-get_or}
use Rattle.dimacs.specs.logic.Literal.{IsWithin}
use Rattle.conflict_analysis.proofs.FoundClauseLemmas.{found_lives}
use Rattle.conflict_analysis.proofs.minimiser.Minimiser.+follows.Goals as goal
use Rattle.conflict_analysis.proofs.minimiser.Minimiser.+follows.Goals.{After-literal-item}

within : (t : ℕ) (c : After-literal-item t) → IsWithin c.args.trail.now.vars c.literal-item.result
within t c =
    let f = c.in-Some.ensures.some in
    let s = f.1 in
    let vars = c.args.trail.now.vars in
    subst (IsWithin vars) (sym c.literal-item.is)
    (All-get_or (IsWithin vars) c.clause-literal-items.result.now c.loop-literal.literal-index c.literal-item.result c.loop-literal-test.true
    (subst (All (IsWithin vars)) (sym (c.clause-literal-items.ensures.literals s.0 s.1))
    (c.requires.inside c.args.number s.0 (found_lives c.args.arena.now c.in-Some.at c.args.number s.0 f.0 s.1))))

pub removability-requires-clause-within : goal.removability-requires-clause-within
removability-requires-clause-within t c = within t ((goal.at.removability-requires-clause-within t c).After-literal-item)

pub note-requires : goal.note-requires
note-requires t c =
    let high = (within t ((goal.at.note-requires t c).After-literal-item)).1 in
    let room = c.follows-removable.ensures.room in
    rw c.var.ensures (omega (arith, high, room))

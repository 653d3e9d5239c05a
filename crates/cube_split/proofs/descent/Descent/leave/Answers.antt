use Rattle.std.proofs.Common.{arith, ◌∷◌, ◌++◌, []}
use Rattle.dimacs.specs.logic.Literal.{var_of}
use Rattle.cube_split.specs.inner.WalkInvariant.{from_start, widened}
use Rattle.cube_split.proofs.ChosenLemmas.{chosen_within}
use Rattle.cube_split.proofs.DescentLemmas.{HasLeft, IsOf, behind_pair, formed_at, free_at, goes_back, left_alone, left_pair}
use Rattle.cube_split.proofs.TrailLemmas.{variable_free}
use Rattle.cube_split.proofs.descent.Descent.leave.Goals as goal
use Rattle.cube_split.proofs.descent.Descent.leave.Goals.{in-Some, in_default}

pub leave-requires : goal.leave-requires
leave-requires c =
    let F = c.requires.0 in
    let o = c.requires.1 in
    let path = c.requires.2 in
    let trail = c.requires.3 in
    let h = c.requires.6 in
    let l = c.args.literal in
    let p = c.in-Some.pair in
    let is : IsOf c.args.self.now.vars c.args.self.now.pairs.items l p = rw (← c.deref.ensures.value) c.in-Some.ensures.some in
    let formed = formed_at F o (path ++ l ∷ []) _ c.args.self.now l p h is in
    let free = free_at F o path trail (path ++ l ∷ []) _ c.args.self.now l p c.requires.4 c.requires.5 h is in
    let up_to = formed.up_to in
    (widened F o, from_start F o, (trail ++ l ∷ []) ++ p.first ∷ [], behind_pair F o path trail c.args.self.now l p h is, free.second, omega arith)

pub leave-requires-in-Some : goal.leave-requires-in-Some
leave-requires-in-Some c =
    let F = c.requires.0 in
    let o = c.requires.1 in
    let path = c.requires.2 in
    let trail = c.requires.3 in
    let h = c.requires.6 in
    let l = c.args.literal in
    let p = c.in-Some.pair in
    let is : IsOf c.args.self.now.vars c.args.self.now.pairs.items l p = rw (← c.deref.ensures.value) c.in-Some.ensures.some in
    let formed = formed_at F o (path ++ l ∷ []) _ c.args.self.now l p h is in
    let free = free_at F o path trail (path ++ l ∷ []) _ c.args.self.now l p c.requires.4 c.requires.5 h is in
    let rise = formed.rise in
    let up_to = formed.up_to in
    (widened F o, from_start F o, trail ++ l ∷ [], c.leave.ensures (widened F o) (from_start F o) ((trail ++ l ∷ []) ++ p.first ∷ []) (behind_pair F o path trail c.args.self.now l p h is) free.second, free.first, omega arith)

pub leave-requires-2 : goal.leave-requires-2
leave-requires-2 c =
    let F = c.requires.0 in
    let o = c.requires.1 in
    let path = c.requires.2 in
    let trail = c.requires.3 in
    let h = c.requires.6 in
    let l = c.args.literal in
    let left : HasLeft F o trail l c.args.self.now c.match-held_pair.self = elim c.match-held_pair.branch [
      | in-Some w ↦ rw w.self-is (left_pair F o path trail c.args.self.now l w.in-Some.pair w.leave.new.self w.leave-in-Some.new.self c.requires.4 c.requires.5 h (rw (← c.deref.ensures.value) w.in-Some.ensures.some) w.leave.ensures w.leave-in-Some.ensures)
      | in_default w ↦ rw w.self-is (left_alone F o path trail c.args.self.now l h (rw (← c.deref.ensures.value) w.in_default.ensures.none))
    ] in
    (widened F o, from_start F o, trail, left.stands, variable_free F o path trail (var_of l) c.requires.4 c.requires.5, (chosen_within F o path (var_of l) h.within c.requires.5).1)

pub returns : goal.returns
returns c = λ F o path trail along chosen h.
    let l = c.args.literal in
    let left : HasLeft F o trail l c.args.self.now c.match-held_pair.self = elim c.match-held_pair.branch [
      | in-Some w ↦ rw w.self-is (left_pair F o path trail c.args.self.now l w.in-Some.pair w.leave.new.self w.leave-in-Some.new.self along chosen h (rw (← c.deref.ensures.value) w.in-Some.ensures.some) w.leave.ensures w.leave-in-Some.ensures)
      | in_default w ↦ rw w.self-is (left_alone F o path trail c.args.self.now l h (rw (← c.deref.ensures.value) w.in_default.ensures.none))
    ] in
    goes_back F o path trail (path ++ l ∷ []) _ l c.args.self.now c.match-held_pair.self c.leave-2.new.self h along chosen left c.leave-2.ensures

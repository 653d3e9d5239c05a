use Rattle.std.proofs.Common.{rules, arith, ◌≡◌, ℕ, ◌+◌, ◌-◌, ◌^◌, ◌≤◌, ◌∷◌, ◌++◌, [], List, Some, vec_len, length, length-append, ap, suc}
use Rattle.dimacs.specs.logic.Cnf.{Cnf}
use Rattle.dimacs.specs.logic.Literal.{Pos, Neg, var_of}
use Rattle.icnf.specs.Leaves.{Cube}
use Rattle.cube_split.specs.ChoiceWithDefinitions.{Chooses, held_by}
use Rattle.cube_split.specs.Definitions.{Opening}
use Rattle.cube_split.specs.inner.AppendedCubes.{AppendsChosen}
use Rattle.cube_split.specs.inner.DescentInvariant.{IsDescentAt}
use Rattle.cube_split.proofs.ChosenLemmas.{chosen_both, chosen_leaf, chosen_within}
use Rattle.cube_split.proofs.SplitLemmas.{power_some, double, on_ok}
use Rattle.cube_split.proofs.split_tree.+growing.Goals as goal

pub append_below-append_branch-requires : goal.append_below-append_branch-requires
append_below-append_branch-requires t c =
    let F = c.requires.stands.0 in
    let o = c.requires.stands.1 in
    let trail = c.requires.stands.2 in
    let h = c.in-Some.ensures.some F o c.args.path.now.items trail c.requires.stands.3 in
    let double_it = double (c.args.levels - 1) in
    let next : suc (c.args.levels - 1) ≡ c.args.levels = omega (arith, h.0) in
    let power : 2 ^ suc (c.args.levels - 1) ≡ 2 ^ c.args.levels = ap (λ (n : ℕ). 2 ^ n) next in
    let some = power_some (c.args.levels - 1) in
    let var : var_of c.positive.result ≡ c.in-Some.var = ap var_of c.positive.ensures in
    let chosen : Chooses F o c.args.path.now.items (Some (var_of c.positive.result)) = rw var h.1 in
    (omega (arith, c.decreases, h.0), ((F, o, trail, c.requires.stands.3, chosen), (omega (arith, c.requires.room), omega (arith, c.requires.short, h.0))))

pub append_below-append_branch-requires-in-Some : goal.append_below-append_branch-requires-in-Some
append_below-append_branch-requires-in-Some t c =
    let F = c.requires.stands.0 in
    let o = c.requires.stands.1 in
    let trail = c.requires.stands.2 in
    let h = c.in-Some.ensures.some F o c.args.path.now.items trail c.requires.stands.3 in
    let double_it = double (c.args.levels - 1) in
    let next : suc (c.args.levels - 1) ≡ c.args.levels = omega (arith, h.0) in
    let power : 2 ^ suc (c.args.levels - 1) ≡ 2 ^ c.args.levels = ap (λ (n : ℕ). 2 ^ n) next in
    let some = power_some (c.args.levels - 1) in
    let first : var_of c.positive.result ≡ c.in-Some.var = ap var_of c.positive.ensures in
    let was : Chooses F o c.args.path.now.items (Some (var_of c.positive.result)) = rw first h.1 in
    let back = c.in_ok-append_branch-in-Some.ensures.path in
    let stands : IsDescentAt F o c.append_branch.new.path.items trail c.append_branch.new.walk = rw back (c.in_ok-append_branch-in-Some.ensures.stands F o trail c.requires.stands.3 was) in
    let var : var_of c.negative.result ≡ c.in-Some.var = ap var_of c.negative.ensures in
    let chosen : Chooses F o c.append_branch.new.path.items (Some (var_of c.negative.result)) = rw (back, var) h.1 in
    let size : vec_len c.append_branch.new.path ≡ vec_len c.args.path.now = omega (arith, c.append_branch.new.path.ok.0, c.args.path.now.ok.0, ap (λ (xs : Cube). length xs) back) in
    (omega (arith, c.decreases, h.0), ((F, o, trail, stands, chosen), (omega (arith, c.requires.room, c.in_ok-append_branch-in-Some.ensures.room), omega (arith, c.requires.short, h.0))))

pub append_below-returns-in-None-clause-room : goal.append_below-returns-in-None-clause-room
append_below-returns-in-None-clause-room t c =
    on_ok c.push.result (c.push.new.self ≡ c.args.leaves.now ++ c.args.path.now.items ∷ []) (length c.push.new.self ≤ length c.args.leaves.now + 2 ^ c.args.levels)
    (λ (e : c.push.new.self ≡ c.args.leaves.now ++ c.args.path.now.items ∷ []). let n = ap (λ (cs : List Cube). length cs) e in omega (arith, n, length-append c.args.leaves.now (c.args.path.now.items ∷ []), power_some c.args.levels))
    (search rules)

pub append_below-returns-in-None-clause-split : goal.append_below-returns-in-None-clause-split
append_below-returns-in-None-clause-split t c =
    on_ok c.push.result (c.push.new.self ≡ c.args.leaves.now ++ c.args.path.now.items ∷ [])
    ((F : Cnf) (o : Opening) (trail : Cube) → IsDescentAt F o c.args.path.now.items trail c.args.walk.now → AppendsChosen F o c.args.levels c.args.path.now.items c.args.leaves.now c.push.new.self)
    (λ (e : c.push.new.self ≡ c.args.leaves.now ++ c.args.path.now.items ∷ []).
    λ F o trail h. chosen_leaf F o c.args.levels c.args.path.now.items c.args.leaves.now c.push.new.self e (c.in-None.ensures.none F o c.args.path.now.items trail h))
    (search rules)

pub append_below-returns-in_ok-append_branch-in-Some-clause-stands : goal.append_below-returns-in_ok-append_branch-in-Some-clause-stands
append_below-returns-in_ok-append_branch-in-Some-clause-stands t c =
    let first : var_of c.positive.result ≡ c.in-Some.var = ap var_of c.positive.ensures in
    let second : var_of c.negative.result ≡ c.in-Some.var = ap var_of c.negative.ensures in
    let back = c.in_ok-append_branch-in-Some.ensures.path in
    on_ok c.append_branch-in-Some.result
    ((F : Cnf) (o : Opening) (trail : Cube) → IsDescentAt F o c.append_branch.new.path.items trail c.append_branch.new.walk → Chooses F o c.append_branch.new.path.items (Some (var_of c.negative.result)) → IsDescentAt F o c.append_branch.new.path.items trail c.append_branch-in-Some.new.walk)
    ((F : Cnf) (o : Opening) (trail : Cube) → IsDescentAt F o c.args.path.now.items trail c.args.walk.now → IsDescentAt F o c.args.path.now.items trail c.append_branch-in-Some.new.walk)
    (λ (behind : (F : Cnf) (o : Opening) (trail : Cube) → IsDescentAt F o c.append_branch.new.path.items trail c.append_branch.new.walk → Chooses F o c.append_branch.new.path.items (Some (var_of c.negative.result)) → IsDescentAt F o c.append_branch.new.path.items trail c.append_branch-in-Some.new.walk).
    λ F o trail stands.
    let h = c.in-Some.ensures.some F o c.args.path.now.items trail stands in
    let was : Chooses F o c.args.path.now.items (Some (var_of c.positive.result)) = rw first h.1 in
    let there : IsDescentAt F o c.append_branch.new.path.items trail c.append_branch.new.walk = rw back (c.in_ok-append_branch-in-Some.ensures.stands F o trail stands was) in
    let chosen : Chooses F o c.append_branch.new.path.items (Some (var_of c.negative.result)) = rw (back, second) h.1 in
    rw (← back) (behind F o trail there chosen))
    (search rules)

pub append_below-returns-in_ok-append_branch-in-Some-clause-split : goal.append_below-returns-in_ok-append_branch-in-Some-clause-split
append_below-returns-in_ok-append_branch-in-Some-clause-split t c =
    let first : c.positive.result ≡ Pos c.in-Some.var = c.positive.ensures in
    let second : c.negative.result ≡ Neg c.in-Some.var = c.negative.ensures in
    let back = c.in_ok-append_branch-in-Some.ensures.path in
    on_ok c.append_branch-in-Some.result
    ((F : Cnf) (o : Opening) (trail : Cube) → IsDescentAt F o c.append_branch.new.path.items trail c.append_branch.new.walk → AppendsChosen F o (c.args.levels - 1) (c.append_branch.new.path.items ++ c.negative.result ∷ []) c.append_branch.new.leaves c.append_branch-in-Some.new.leaves)
    ((F : Cnf) (o : Opening) (trail : Cube) → IsDescentAt F o c.args.path.now.items trail c.args.walk.now → AppendsChosen F o c.args.levels c.args.path.now.items c.args.leaves.now c.append_branch-in-Some.new.leaves)
    (λ (behind : (F : Cnf) (o : Opening) (trail : Cube) → IsDescentAt F o c.append_branch.new.path.items trail c.append_branch.new.walk → AppendsChosen F o (c.args.levels - 1) (c.append_branch.new.path.items ++ c.negative.result ∷ []) c.append_branch.new.leaves c.append_branch-in-Some.new.leaves).
    λ F o trail stands.
    let h = c.in-Some.ensures.some F o c.args.path.now.items trail stands in
    let levels : c.args.levels ≡ suc (c.args.levels - 1) = omega (arith, h.0) in
    let was : Chooses F o c.args.path.now.items (Some (var_of c.positive.result)) = rw first h.1 in
    let there : IsDescentAt F o c.append_branch.new.path.items trail c.append_branch.new.walk = rw back (c.in_ok-append_branch-in-Some.ensures.stands F o trail stands was) in
    chosen_both F o c.args.levels (c.args.levels - 1) c.in-Some.var c.args.path.now.items c.args.leaves.now c.append_branch.new.leaves c.append_branch-in-Some.new.leaves levels h.1
    (rw (← first) (c.in_ok-append_branch-in-Some.ensures.split F o trail stands))
    (rw (← second, ← back) (behind F o trail there)))
    (search rules)

pub append_branch-enter-requires : goal.append_branch-enter-requires
append_branch-enter-requires t c =
    let F = c.requires.stands.0 in
    let o = c.requires.stands.1 in
    let at = c.requires.stands.3 in
    (F, o, c.args.path.now.items, c.requires.stands.2, at, (chosen_within F o c.args.path.now.items (var_of c.args.literal) at.within c.requires.stands.4).1, omega (arith, c.requires.short, c.args.path.now.ok.0))

pub append_branch-append_below-requires : goal.append_branch-append_below-requires
append_branch-append_below-requires t c =
    let F = c.requires.stands.0 in
    let o = c.requires.stands.1 in
    let trail = c.requires.stands.2 in
    let l = c.args.literal in
    let longer = trail ++ l ∷ held_by (l ∷ []) (F.vars + 1) o.pairs in
    let stands : IsDescentAt F o c.push.new.self.items longer c.enter.new.self = rw c.in_ok-push.ensures.items (c.enter.ensures F o c.args.path.now.items trail c.requires.stands.3) in
    (omega (arith, c.decreases), ((F, o, longer, stands), (c.requires.room, omega (arith, c.requires.short, c.in_ok-push.ensures.len))))

pub append_branch-leave-requires : goal.append_branch-leave-requires
append_branch-leave-requires t c =
    let F = c.requires.stands.0 in
    let o = c.requires.stands.1 in
    let trail = c.requires.stands.2 in
    let at = c.requires.stands.3 in
    let l = c.args.literal in
    let longer = trail ++ l ∷ held_by (l ∷ []) (F.vars + 1) o.pairs in
    let pushed = c.in_ok-push.ensures.items in
    let stands : IsDescentAt F o c.push.new.self.items longer c.enter.new.self = rw pushed (c.enter.ensures F o c.args.path.now.items trail at) in
    (F, o, c.args.path.now.items, trail, at.along, c.requires.stands.4, rw (← pushed) (c.in_ok-append_below.ensures.stands F o longer stands))

pub append_branch-returns-clause-stands : goal.append_branch-returns-clause-stands
append_branch-returns-clause-stands t c = λ F o trail at chosen.
    let l = c.args.literal in
    let longer = trail ++ l ∷ held_by (l ∷ []) (F.vars + 1) o.pairs in
    let pushed = c.in_ok-push.ensures.items in
    let stands : IsDescentAt F o c.push.new.self.items longer c.enter.new.self = rw pushed (c.enter.ensures F o c.args.path.now.items trail at) in
    c.leave.ensures F o c.args.path.now.items trail at.along chosen (rw (← pushed) (c.in_ok-append_below.ensures.stands F o longer stands))

pub append_branch-returns-clause-split : goal.append_branch-returns-clause-split
append_branch-returns-clause-split t c = λ F o trail at.
    let l = c.args.literal in
    let longer = trail ++ l ∷ held_by (l ∷ []) (F.vars + 1) o.pairs in
    let pushed = c.in_ok-push.ensures.items in
    let stands : IsDescentAt F o c.push.new.self.items longer c.enter.new.self = rw pushed (c.enter.ensures F o c.args.path.now.items trail at) in
    rw (← pushed) (c.in_ok-append_below.ensures.split F o longer stands)

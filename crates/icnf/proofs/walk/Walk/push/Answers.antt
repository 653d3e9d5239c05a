use Rattle.std.proofs.Common.{arith, ◌<◌, ◌≤◌, ◌∙◌, ap, length}
use Rattle.std.proofs.lemmas.List.{length-take}
use Rattle.dimacs.specs.logic.Literal.{var_of}
use Rattle.icnf.specs.Spans.{cubes_in}
use Rattle.icnf.specs.Walk.{WalkState, names}
use Rattle.icnf.proofs.WalkLemmas.{advanced_on, advanced_end, walked_push}
use Rattle.icnf.proofs.walk.Walk.push.Goals as goal

pub returns-then-self-len : goal.returns-then-self-len
returns-then-self-len c =
    let inside : c.self.inside.at < length c.self.inside.path.items = omega arith in
    rw (← c.self.view_is) (advanced_on c.self.inside.stage (cubes_in c.self.inside.literals.items c.self.inside.spans.items) c.self.inside.path.items c.self.inside.at c.args.literal inside)

pub invariant_of-self-2 : goal.invariant_of-self-2
invariant_of-self-2 c =
    let size = c.in_ok-push.ensures.len in
    let low : length c.self.inside.path.items ≤ c.self.inside.at = omega arith in
    let room = ap (λ (w : WalkState). length w.path) c.self.view_is in (
      omega (arith, size),
      omega (arith, size, room, length-take c.self.inside.at c.self.inside.path.items, c.requires.room),
      c.self.invariant.2,
      walked_push c.self.inside.stage (cubes_in c.self.inside.literals.items c.self.inside.spans.items) c.self.inside.path.items c.push.new.self.items c.self.inside.at c.args.literal (ap (λ (w : WalkState). w.stage) c.self.view_is ∙ c.requires.inside) low
          (ap (λ (w : WalkState). names w.path (var_of c.args.literal)) c.self.view_is ∙ c.requires.other) c.in_ok-push.ensures.items c.self.invariant.3,
    )

pub returns : goal.returns
returns c =
    let low : length c.self.inside.path.items ≤ c.self.inside.at = omega arith in
    let high : c.self.inside.at ≤ length c.self.inside.path.items = omega arith in
    rw (← c.self.view_is) (advanced_end c.self.inside.stage (cubes_in c.self.inside.literals.items c.self.inside.spans.items) c.self.inside.path.items c.push.new.self.items c.self.inside.at c.args.literal low high c.in_ok-push.ensures.items)

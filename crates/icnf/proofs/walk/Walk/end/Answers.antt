use Rattle.std.proofs.Common.{arith, ◌++◌, ◌∷◌, [], ◌∙◌, ap, List}
use Rattle.icnf.specs.declared.place.Place.{Place}
use Rattle.icnf.specs.Spans.{cubes_in}
use Rattle.icnf.specs.Walk.{WalkState, literals_of}
use Rattle.icnf.proofs.WalkLemmas.{ended_outside, ended_complete, walked_outside, walked_complete}
use Rattle.icnf.proofs.walk.Walk.end.Goals as goal

pub invariant_of-self-then-turn : goal.invariant_of-self-then-turn
invariant_of-self-then-turn c =
    let cubes = cubes_in c.self.inside.literals.items c.self.inside.spans.items in
    let more = c.in_ok-push_cube.ensures.ok ∙ ap (λ (p : List Place). cubes ++ literals_of p ∷ []) c.deref.ensures.value in (
      omega arith,
      omega (arith, c.turn.ensures.shorter),
      c.push_cube.ensures.lie,
      walked_outside c.self.inside.stage cubes _ c.self.inside.path.items c.turn.new.path.items (ap (λ (w : WalkState). w.stage) c.self.view_is ∙ c.requires.inside) c.self.invariant.3 c.if-turn.ensures.front more,
    )

pub returns-then-turn : goal.returns-then-turn
returns-then-turn c =
    let cubes = cubes_in c.self.inside.literals.items c.self.inside.spans.items in
    let more = c.in_ok-push_cube.ensures.ok ∙ ap (λ (p : List Place). cubes ++ literals_of p ∷ []) c.deref.ensures.value in
    let over = ap (λ (w : WalkState). w.forced) c.self.view_is ∙ c.requires.over in
    rw (← c.self.view_is) (ended_outside c.self.inside.stage cubes _ c.self.inside.path.items c.turn.new.path.items c.self.inside.at over c.if-turn.ensures.front more)

pub invariant_of-self-2 : goal.invariant_of-self-2
invariant_of-self-2 c =
    let cubes = cubes_in c.self.inside.literals.items c.self.inside.spans.items in
    let more = c.in_ok-push_cube.ensures.ok ∙ ap (λ (p : List Place). cubes ++ literals_of p ∷ []) c.deref.ensures.value in (
      omega arith,
      omega (arith, c.turn.ensures.shorter),
      c.push_cube.ensures.lie,
      walked_complete c.self.inside.stage cubes _ c.self.inside.path.items (ap (λ (w : WalkState). w.stage) c.self.view_is ∙ c.requires.inside) c.self.invariant.3 c.if-turn.ensures.front.0 more,
    )

pub returns : goal.returns
returns c =
    let cubes = cubes_in c.self.inside.literals.items c.self.inside.spans.items in
    let more = c.in_ok-push_cube.ensures.ok ∙ ap (λ (p : List Place). cubes ++ literals_of p ∷ []) c.deref.ensures.value in
    let over = ap (λ (w : WalkState). w.forced) c.self.view_is ∙ c.requires.over in
    rw (← c.self.view_is) (ended_complete c.self.inside.stage cubes _ c.self.inside.path.items c.turn.new.path.items c.self.inside.at over c.if-turn.ensures.front.0 c.if-turn.ensures.front.1 more)

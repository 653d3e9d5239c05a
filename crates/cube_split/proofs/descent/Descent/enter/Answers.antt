use Rattle.std.proofs.Common.{arith, refl, ◌∷◌, ◌++◌, [], length-append}
use Rattle.cube_split.specs.inner.WalkInvariant.{from_start, widened}
use Rattle.cube_split.proofs.DescentLemmas.{IsOf, formed_at, goes_alone, goes_on}
use Rattle.cube_split.proofs.descent.Descent.enter.Goals as goal

pub enter-requires-in-Some : goal.enter-requires-in-Some
enter-requires-in-Some c =
    let F = c.requires.0 in
    let o = c.requires.1 in
    let trail = c.requires.3 in
    let h = c.requires.4 in
    let l = c.args.literal in
    let is : IsOf c.args.self.now.vars c.args.self.now.pairs.items l c.in-Some.pair = rw (← c.deref.ensures.value) c.in-Some.ensures.some in
    let formed = formed_at F o c.requires.2 trail c.args.self.now l c.in-Some.pair h is in
    let a = formed.rise in
    let b = formed.up_to in
    let short = h.along.short in
    (widened F o, from_start F o, trail ++ l ∷ [], c.enter.ensures (widened F o) (from_start F o) trail h.stands, omega arith, omega (arith, c.requires.6, length-append trail (l ∷ [])))

pub enter-requires-in-Some-2 : goal.enter-requires-in-Some-2
enter-requires-in-Some-2 c =
    let F = c.requires.0 in
    let o = c.requires.1 in
    let trail = c.requires.3 in
    let h = c.requires.4 in
    let l = c.args.literal in
    let p = c.in-Some.pair in
    let is : IsOf c.args.self.now.vars c.args.self.now.pairs.items l p = rw (← c.deref.ensures.value) c.in-Some.ensures.some in
    let formed = formed_at F o c.requires.2 trail c.args.self.now l p h is in
    let b = formed.up_to in
    let short = h.along.short in (
      widened F o,
      from_start F o,
      (trail ++ l ∷ []) ++ p.first ∷ [],
      c.enter-in-Some.ensures (widened F o) (from_start F o) (trail ++ l ∷ []) (c.enter.ensures (widened F o) (from_start F o) trail h.stands),
      omega arith,
      omega (arith, c.requires.6, length-append trail (l ∷ []), length-append (trail ++ l ∷ []) (p.first ∷ [])),
    )

pub returns-in-Some : goal.returns-in-Some
returns-in-Some c = λ F o path trail h.
    let l = c.args.literal in
    let p = c.in-Some.pair in
    goes_on F o path trail c.args.self.now _ l p refl refl h (rw (← c.deref.ensures.value) c.in-Some.ensures.some)
    (c.enter-in-Some-2.ensures (widened F o) (from_start F o) ((trail ++ l ∷ []) ++ p.first ∷ [])
    (c.enter-in-Some.ensures (widened F o) (from_start F o) (trail ++ l ∷ []) (c.enter.ensures (widened F o) (from_start F o) trail h.stands)))

pub returns-in_default : goal.returns-in_default
returns-in_default c = λ F o path trail h.
    goes_alone F o path trail c.args.self.now _ c.args.literal refl refl h (rw (← c.deref.ensures.value) c.in_default.ensures.none) (c.enter.ensures (widened F o) (from_start F o) trail h.stands)

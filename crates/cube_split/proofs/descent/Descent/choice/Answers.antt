use Rattle.cube_split.specs.inner.WalkInvariant.{from_start, widened}
use Rattle.cube_split.proofs.DescentLemmas.{defined_at, plain_at}
use Rattle.cube_split.proofs.descent.Descent.choice.Goals as goal

pub returns-in-Some : goal.returns-in-Some
returns-in-Some c = λ F o path trail h.
    defined_at F o path trail c.args.self.now c.in-Some.defined h (rw (← c.deref.ensures.value, ← c.deref-2.ensures.value) c.in-Some.ensures.some)

pub returns : goal.returns
returns c = λ F o path trail h.
    plain_at F o path trail c.args.self.now c.choice.result h (rw (← c.deref.ensures.value, ← c.deref-2.ensures.value) c.in_default.ensures.none)
    (c.choice.ensures (widened F o) (from_start F o) trail h.stands)

use Rattle.cube_split.proofs.WalkLemmas.{listed_at, choice_at}
use Rattle.cube_split.proofs.walk.Walk.choice.Goals as goal

pub greatest-requires-clause-listed : goal.greatest-requires-clause-listed
greatest-requires-clause-listed c =
    rw (c.deref-2.ensures.value, c.deref-3.ensures.value) (listed_at c.requires.0 c.requires.1 c.requires.2 c.args.self.now c.requires.3)

pub returns : goal.returns
returns c = λ f units path h.
    choice_at f units path c.args.self.now c.greatest.result h
    (rw (← c.deref.ensures.value, ← c.deref-2.ensures.value) c.greatest.ensures.some)
    (rw (← c.deref.ensures.value, ← c.deref-2.ensures.value) c.greatest.ensures.none)

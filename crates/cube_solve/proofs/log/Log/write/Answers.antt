use Rattle.cube_solve.proofs.log.Log.write.Goals as goal

pub put_within-requires-clause-limits : goal.put_within-requires-clause-limits
put_within-requires-clause-limits c = rw (c.deref.ensures.value, c.deref-2.ensures.value, c.self.invariant) c.requires
